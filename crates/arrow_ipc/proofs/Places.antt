-- Buffers in a body that grows.
use Rattle.std.proofs.Common.{◌≡◌, ℕ, ◌+◌, ◌*◌, ◌≤◌, true, List, [], ◌∷◌, ◌++◌, length, map, take, take_all, drop, refl, ap, ◌∙◌, length-drop, arith}
use Rattle.std.specs.Prelude.{ℤ, pos, negsuc, unsigned_abs, sum_by}
use Rattle.std.specs.List.{list_all}
use Rattle.std.proofs.lemmas.Bool.{leb-true, le-leb, and_parts}
use Rattle.std.proofs.lemmas.List.{take-append-le, drop-append-le, drop_at}
use Rattle.std.proofs.lemmas.List.Sums.{sum_by-cons}
use Rattle.arrow_ipc.specs.Batches.{lies_from, lies_in, buffer_of}
use Rattle.arrow_ipc.specs.Written.{padded, body_size}
use Rattle.arrow_ipc.proofs.Pairs.{lies_within}

lies_from_more : (a b : ℕ) (offset len : ℤ) → a ≤ b → lies_from a offset len ≡ true → lies_from b offset len ≡ true
lies_from_more a b (pos x) (pos y) le h = le-leb (x + y) b (omega (arith, leb-true (x + y) a h, le))
lies_from_more a b (pos x) (negsuc y) le h = h
lies_from_more a b (negsuc x) y le h = h

pub all_lie_more : (a b : ℕ) (places : List (ℤ × ℤ)) → a ≤ b → list_all (lies_in a) places ≡ true → list_all (lies_in b) places ≡ true
all_lie_more a b [] le h = refl
all_lie_more a b (p ∷ ps) le h =
    let hs : (lies_in a p ≡ true) × (list_all (lies_in a) ps ≡ true) = and_parts (lies_in a p) (list_all (lies_in a) ps) h in
    rw (lies_from_more a b p.0 p.1 le hs.0, all_lie_more a b ps le hs.1) refl

buffer_more : (body more : List ℕ) (p : ℤ × ℤ) → lies_in (length body) p ≡ true → buffer_of (body ++ more) p ≡ buffer_of body p
buffer_more body more p h =
    let within : unsigned_abs p.0 + unsigned_abs p.1 ≤ length body = lies_within (length body) p h in
    ap (take (unsigned_abs p.1)) (drop-append-le (unsigned_abs p.0) body more (omega (arith, within)))
    ∙ take-append-le (unsigned_abs p.1) (drop (unsigned_abs p.0) body) more (omega (arith, within, length-drop (unsigned_abs p.0) body))

-- buffers that lie in the body stay when it grows
pub buffers_more : (body more : List ℕ) (places : List (ℤ × ℤ)) → list_all (lies_in (length body)) places ≡ true
    → map (buffer_of (body ++ more)) places ≡ map (buffer_of body) places
buffers_more body more [] h = refl
buffers_more body more (p ∷ ps) h =
    let hs : (lies_in (length body) p ≡ true) × (list_all (lies_in (length body)) ps ≡ true) = and_parts (lies_in (length body) p) (list_all (lies_in (length body)) ps) h in
    λ i. buffer_more body more p hs.0 i ∷ buffers_more body more ps hs.1 i

-- and the last one is what was put there
pub buffer_last : (front part : List ℕ) (offset : ℕ) → length front ≡ offset → buffer_of (front ++ part) (pos offset, pos (length part)) ≡ part
buffer_last front part offset here = ap (take (length part)) (drop_at front part offset here) ∙ take_all (length part) part (omega arith)

-- padding costs at most 7 bytes a buffer
pub body_size-le : (buffers : List (List ℕ)) → body_size buffers ≤ sum_by (λ part. length part) buffers + 7 * length buffers
body_size-le [] = omega arith
body_size-le (b ∷ bs) =
    omega (arith, sum_by-cons (λ (part : List ℕ). padded (length part)) b bs, sum_by-cons (λ (part : List ℕ). length part) b bs, body_size-le bs)
