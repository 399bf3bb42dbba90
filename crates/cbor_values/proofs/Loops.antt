-- Reading one after the other, as loops do.
use Rattle.std.proofs.Common.{◌≡◌, ℕ, zero, suc, ◌+◌, ◌-◌, ◌<◌, ◌≤◌, List, [], ◌∷◌, ◌++◌, length, Option, Some, None, Result, Ok, Err, refl, sym, ap, subst, ◌∙◌, append_assoc, arith}
use Rattle.std.proofs.lemmas.List.{append-nil, length-append}
use Rattle.lists.proofs.AllBytes.{IsBytes}
use Rattle.cbor_values.specs.declared.refusal.CborRefusal.{CborRefusal}
use Rattle.cbor_values.specs.declared.refusal.CborRefusal.TheVariants.{Cut, BadHead, BadKey, BadUtf8, OutOfRange, TooDeep, Trailing, Memory}
use Rattle.lists.specs.Results.{◌>>=◌}
use Rattle.cbor_values.specs.Reading.{ValueReading, head_at, break_at, many_at, until_at, open_at, joined, body_at, item_at}
use Rattle.cbor_values.specs.Returned.{Fails}
use Rattle.cbor_values.proofs.Steps.{got}
use Rattle.cbor_values.proofs.Rows.{Starts, some_bytes}
use Rattle.cbor_values.proofs.Takes.{Taken}

-- a reader of things in that relation to their bytes
pub record Reader {X : Type 0} (R : List ℕ → X → Type 0) (one : List ℕ → ValueReading X) : Type 0 where
  pub starts : Starts one
  pub again : (bytes : List ℕ) (x : X) → R bytes x → (rest : List ℕ) → one (bytes ++ rest) ≡ got x rest
  pub takes : (bytes : List ℕ) (x : X) (rest : List ℕ) → IsBytes bytes → one bytes ≡ got x rest → Taken R bytes x rest

-- what is after a thing is shorter
pub shorter : {X : Type 0} (R : List ℕ → X → Type 0) (one : List ℕ → ValueReading X) → Reader R one
    → (bytes : List ℕ) (x : X) (rest : List ℕ) → IsBytes bytes → one bytes ≡ got x rest
    → (length rest < length bytes) × IsBytes rest
shorter R one reader bytes x rest fits e =
    let t = reader.takes bytes x rest fits e in
    let some = some_bytes one reader.starts (t.front ++ []) (x, []) (reader.again t.front x t.is []) in
    (omega (arith, some, length-append t.front [], length-append t.front rest, ap length t.parts), t.fits)

-- what was read before, and what is still read
abbrev pub with_front : {X : Type 0} → List X → ValueReading (List X) → ValueReading (List X)
with_front front reading = reading >>= λ x. Ok (front ++ x.0, x.1)

with_one : {X : Type 0} (front : List X) (x : X) (reading : ValueReading (List X))
    → with_front front (reading >>= λ others. got (x ∷ others.0) others.1) ≡ with_front (front ++ x ∷ []) reading
with_one front x (Ok others) = ap (λ xs. got xs others.1) (simp append_assoc)
with_one front x (Err e) = refl

-- a failure goes through
pub fails_bind : {A B : Type 0} (e : CborRefusal) (r : Result A CborRefusal) (f : A → Result B CborRefusal)
    → Fails e r → Fails e (r >>= f)
fails_bind Cut r f fails = rw fails refl
fails_bind BadHead r f fails = rw fails refl
fails_bind BadKey r f fails = rw fails refl
fails_bind BadUtf8 r f fails = rw fails refl
fails_bind OutOfRange r f fails = rw fails refl
fails_bind TooDeep r f fails = rw fails refl
fails_bind Trailing r f fails = rw fails refl
fails_bind (Memory error) r f fails = tt

pub item_fails : (d : ℕ) (e : CborRefusal) (bytes : List ℕ) → Fails e (head_at bytes) → Fails e (item_at d bytes)
unfolding item_at
item_fails zero e bytes fails = fails_bind e (head_at bytes) (λ head. Err TooDeep) fails
item_fails (suc d) e bytes fails = fails_bind e (head_at bytes) (λ head. body_at (item_at d) head.0 head.1) fails

-- ---- exactly n

pub goes_on : {X : Type 0} (one : List ℕ → ValueReading X) (front : List X) (count i : ℕ) (bytes : List ℕ) (x : X) (after : List ℕ) (total : ValueReading (List X))
    → i < count → one bytes ≡ got x after → with_front front (many_at one (count - i) bytes) ≡ total
    → with_front (front ++ x ∷ []) (many_at one (count - (i + 1)) after) ≡ total
unfolding many_at
goes_on one front count i bytes x after total more e so_far =
    let next : count - i ≡ suc (count - (i + 1)) = omega arith in
    let step : with_front front (many_at one (count - i) bytes) ≡ with_front (front ++ x ∷ []) (many_at one (count - (i + 1)) after) = rw (next, e) (with_one front x (many_at one (count - (i + 1)) after)) in
    sym step ∙ so_far

pub ends : {X : Type 0} (one : List ℕ → ValueReading X) (e : CborRefusal) (front : List X) (count i : ℕ) (bytes : List ℕ) (total : ValueReading (List X))
    → i < count → Fails e (one bytes) → with_front front (many_at one (count - i) bytes) ≡ total → Fails e total
unfolding many_at
ends one e front count i bytes total more fails so_far =
    let next : count - i ≡ suc (count - (i + 1)) = omega arith in
    let first = fails_bind e (one bytes) (λ first. many_at one (count - (i + 1)) first.1 >>= λ others. got (first.0 ∷ others.0) others.1) fails in
    let all = fails_bind e (one bytes >>= λ first. many_at one (count - (i + 1)) first.1 >>= λ others. got (first.0 ∷ others.0) others.1) (λ x. got (front ++ x.0) x.1) first in
    subst (λ r. Fails e r) so_far (rw next all)

pub is_done : {X : Type 0} (one : List ℕ → ValueReading X) (front : List X) (count i : ℕ) (bytes : List ℕ) (total : ValueReading (List X))
    → count ≤ i → with_front front (many_at one (count - i) bytes) ≡ total → total ≡ got front bytes
unfolding many_at
is_done one front count i bytes total none so_far =
    let left : count - i ≡ 0 = omega arith in
    let step : with_front front (many_at one (count - i) bytes) ≡ got front bytes = rw left (ap (λ xs. got xs bytes) (append-nil front)) in
    sym so_far ∙ step

-- ---- up to a break

until_enough : {X : Type 0} (R : List ℕ → X → Type 0) (one : List ℕ → ValueReading X) → Reader R one
    → (n m : ℕ) (bytes : List ℕ) → IsBytes bytes → length bytes ≤ n → length bytes ≤ m
    → until_at one n bytes ≡ until_at one m bytes
unfolding until_at
until_enough R one reader zero zero bytes fits enough also = refl
until_enough R one reader zero (suc m) [] fits enough also = rw reader.starts.nothing refl
until_enough R one reader zero (suc m) (first ∷ bytes) fits enough also = absurd (omega arith)
until_enough R one reader (suc n) zero [] fits enough also = rw reader.starts.nothing refl
until_enough R one reader (suc n) zero (first ∷ bytes) fits enough also = absurd (omega arith)
until_enough {X} R one reader (suc n) (suc m) bytes fits enough also =
    go (break_at bytes) refl (one bytes) refl (λ rest inner few few'. until_enough R one reader n m rest inner few few')
  where
    go : (o : Option (List ℕ)) → break_at bytes ≡ o → (r : ValueReading X) → one bytes ≡ r
        → ((rest : List ℕ) → IsBytes rest → length rest ≤ n → length rest ≤ m → until_at one n rest ≡ until_at one m rest)
        → until_at one (suc n) bytes ≡ until_at one (suc m) bytes
    go (Some after) broken r e again = rw broken refl
    go None unbroken (Err d) e again = rw (unbroken, e) refl
    go None unbroken (Ok x) e again =
        let s = shorter R one reader bytes x.0 x.1 fits e in
        rw (unbroken, e, again x.1 s.1 (omega (arith, s.0)) (omega (arith, s.0))) refl

open_step : {X : Type 0} (R : List ℕ → X → Type 0) (one : List ℕ → ValueReading X) → Reader R one
    → (bytes : List ℕ) (x : X) (after : List ℕ) → IsBytes bytes → break_at bytes ≡ None → one bytes ≡ got x after
    → open_at one bytes ≡ (open_at one after >>= λ others. got (x ∷ others.0) others.1)
unfolding open_at until_at
open_step R one reader [] x after fits whole e = absurd (let clash = sym reader.starts.nothing ∙ e in cc)
open_step R one reader (first ∷ bytes) x after fits whole e =
    let s = shorter R one reader (first ∷ bytes) x after fits e in
    rw (whole, e, until_enough R one reader (length bytes) (length after) after s.1 (omega (arith, s.0)) (omega arith)) refl

pub open_goes_on : {X : Type 0} (R : List ℕ → X → Type 0) (one : List ℕ → ValueReading X) → Reader R one
    → (front : List X) (bytes : List ℕ) (x : X) (after : List ℕ) (total : ValueReading (List X)) → IsBytes bytes
    → break_at bytes ≡ None → one bytes ≡ got x after → with_front front (open_at one bytes) ≡ total
    → with_front (front ++ x ∷ []) (open_at one after) ≡ total
open_goes_on R one reader front bytes x after total fits whole e so_far =
    let step : with_front front (open_at one bytes) ≡ with_front (front ++ x ∷ []) (open_at one after) = rw (open_step R one reader bytes x after fits whole e) (with_one front x (open_at one after)) in
    sym step ∙ so_far

open_fails : {X : Type 0} (one : List ℕ → ValueReading X) → Starts one → (e : CborRefusal) (bytes : List ℕ)
    → break_at bytes ≡ None → Fails e (one bytes) → Fails e (open_at one bytes)
unfolding open_at until_at
open_fails {X} one starts e [] whole fails =
    let through = fails_bind e (one []) (λ x. got {X = List X} [] x.1) fails in
    rw starts.nothing at through
open_fails one starts e (first ∷ bytes) whole fails =
    rw whole (fails_bind e (one (first ∷ bytes)) (λ x. until_at one (length bytes) x.1 >>= λ others. got (x.0 ∷ others.0) others.1) fails)

pub open_ends : {X : Type 0} (one : List ℕ → ValueReading X) → Starts one → (e : CborRefusal) (front : List X) (bytes : List ℕ) (total : ValueReading (List X))
    → break_at bytes ≡ None → Fails e (one bytes) → with_front front (open_at one bytes) ≡ total → Fails e total
open_ends one starts e front bytes total whole fails so_far =
    subst (λ r. Fails e r) so_far (fails_bind e (open_at one bytes) (λ x. got (front ++ x.0) x.1) (open_fails one starts e bytes whole fails))

open_broken : {X : Type 0} (one : List ℕ → ValueReading X) (bytes after : List ℕ) → break_at bytes ≡ Some after
    → open_at one bytes ≡ got [] after
unfolding open_at until_at
open_broken one [] after broken = absurd cc
open_broken one (first ∷ bytes) after broken = rw broken refl

pub open_is_done : {X : Type 0} (one : List ℕ → ValueReading X) (front : List X) (bytes after : List ℕ) (total : ValueReading (List X))
    → break_at bytes ≡ Some after → with_front front (open_at one bytes) ≡ total → total ≡ got front after
open_is_done one front bytes after total broken so_far =
    let step : with_front front (open_at one bytes) ≡ got front after = rw (open_broken one bytes after broken) (ap (λ xs. got xs after) (append-nil front)) in
    sym so_far ∙ step

-- ---- chunks, joined as they come

abbrev pub with_text : List ℕ → ValueReading (List (List ℕ)) → ValueReading (List ℕ)
with_text text reading = reading >>= λ parts. Ok (text ++ joined parts.0, parts.1)

with_chunk : (text part : List ℕ) (reading : ValueReading (List (List ℕ)))
    → with_text text (reading >>= λ others. got (part ∷ others.0) others.1) ≡ with_text (text ++ part) reading
with_chunk text part (Ok others) = ap (λ s. got s others.1) (sym (append_assoc text part (joined others.0)))
with_chunk text part (Err e) = refl

pub chunks_go_on : (R : List ℕ → List ℕ → Type 0) (one : List ℕ → ValueReading (List ℕ)) → Reader R one
    → (text : List ℕ) (bytes part after : List ℕ) (total : ValueReading (List ℕ)) → IsBytes bytes → break_at bytes ≡ None
    → one bytes ≡ got part after → with_text text (open_at one bytes) ≡ total
    → with_text (text ++ part) (open_at one after) ≡ total
chunks_go_on R one reader text bytes part after total fits whole e so_far =
    let step : with_text text (open_at one bytes) ≡ with_text (text ++ part) (open_at one after) = rw (open_step R one reader bytes part after fits whole e) (with_chunk text part (open_at one after)) in
    sym step ∙ so_far

pub chunks_end : (one : List ℕ → ValueReading (List ℕ)) → Starts one → (e : CborRefusal) (text bytes : List ℕ) (total : ValueReading (List ℕ))
    → break_at bytes ≡ None → Fails e (one bytes) → with_text text (open_at one bytes) ≡ total → Fails e total
chunks_end one starts e text bytes total whole fails so_far =
    subst (λ r. Fails e r) so_far (fails_bind e (open_at one bytes) (λ parts. got (text ++ joined parts.0) parts.1) (open_fails one starts e bytes whole fails))

pub chunks_are_done : (one : List ℕ → ValueReading (List ℕ)) (text bytes after : List ℕ) (total : ValueReading (List ℕ))
    → break_at bytes ≡ Some after → with_text text (open_at one bytes) ≡ total → total ≡ got text after
chunks_are_done one text bytes after total broken so_far =
    let step : with_text text (open_at one bytes) ≡ got text after = rw (open_broken one bytes after broken) (ap (λ s. got s after) (append-nil text)) in
    sym so_far ∙ step
