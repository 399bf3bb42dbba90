-- The messages of a vector's blocks, taken one by one.
use Rattle.std.proofs.Common.{◌≡◌, ℕ, ◌+◌, ◌<◌, ◌≤◌, suc, List, [], ◌∷◌, ◌++◌, length, drop, get_or, Some, sym, ap, ◌∙◌, subst, append_assoc, arith}
use Rattle.std.specs.Prelude.{ℤ, slice_get}
use Rattle.std.specs.Option.{option_map}
use Rattle.std.proofs.Math.Seq.{drop-cons}
use Rattle.std.proofs.lemmas.List.{append-nil, drop_all}
use Rattle.std.proofs.lemmas.Option.{get_or_from_slice_get}
use Rattle.flat_tables.specs.Tables.{VectorIn}
use Rattle.arrow_file.specs.declared.block.Block.{Block}
use Rattle.arrow_file.specs.declared.message.Found.{Found}
use Rattle.arrow_file.specs.Blocks.{block_at, blocks_in}
use Rattle.arrow_file.specs.Files.{IsMessageFrom, AreMessagesOf}
use Rattle.arrow_file.specs.Defects.{HaveNoMessages}
use Rattle.arrow_file.specs.Reading.{Finds}
use Rattle.arrow_file.proofs.BlocksFound.{slice_get-blocks_in, length-blocks_in}
use Rattle.arrow_file.proofs.Finding.{one_from}

-- Of the blocks' messages these were taken, up to an offset: with those of the blocks that are left they are all, and the blocks have no
-- messages unless those that are left have some.
pub record Took (bytes : List ℕ) (kind from : ℕ) (blocks left : List Block) (end : ℕ) (taken : List (List ℕ)) : Type 0 where
  pub all : (rest : List (List ℕ)) → AreMessagesOf bytes kind end left rest → AreMessagesOf bytes kind from blocks (taken ++ rest)
  pub only : (ms : List (List ℕ)) → AreMessagesOf bytes kind from blocks ms → (rest : List (List ℕ)) × AreMessagesOf bytes kind end left rest

pub took_none : (bytes : List ℕ) (kind from : ℕ) (blocks : List Block) → Took bytes kind from blocks blocks from []
took_none bytes kind from blocks = record { all = λ rest h. h; only = λ ms h. (ms, h) }

further : (bytes : List ℕ) (kind end : ℕ) (block : Block) (left : List Block) (m : List ℕ) (first : IsMessageFrom bytes kind end block.offset m) (rest : List (List ℕ))
    → AreMessagesOf bytes kind end (block ∷ left) rest → (more : List (List ℕ)) × AreMessagesOf bytes kind (first.offset + length m) left more
further bytes kind end block left m first [] h = absurd h
further bytes kind end block left m first (n ∷ rest) (second, h) =
    let same : (first.offset ≡ second.offset) × (m ≡ n) = one_from bytes kind end block.offset m n first second in
    let at : second.offset + length n ≡ first.offset + length m = omega (arith, same.0, ap length same.1) in
    (rest, subst (λ (e : ℕ). AreMessagesOf bytes kind e left rest) at h)

took_more : (bytes : List ℕ) (kind from : ℕ) (blocks : List Block) (block : Block) (left : List Block) (end : ℕ) (taken : List (List ℕ)) (m : List ℕ)
    (first : IsMessageFrom bytes kind end block.offset m) → Took bytes kind from blocks (block ∷ left) end taken
    → Took bytes kind from blocks left (first.offset + length m) (taken ++ m ∷ [])
took_more bytes kind from blocks block left end taken m first t = record {
  all = λ rest h. subst (AreMessagesOf bytes kind from blocks) (sym (append_assoc taken (m ∷ []) rest)) (t.all (m ∷ rest) (first, h));
  only = λ ms h. let some = t.only ms h in further bytes kind end block left m first some.0 some.1;
}

none_further : (bytes : List ℕ) (kind end : ℕ) (block : Block) (left : List Block) → ((m : List ℕ) → IsMessageFrom bytes kind end block.offset m → ⊥)
    → (rest : List (List ℕ)) → AreMessagesOf bytes kind end (block ∷ left) rest → ⊥
none_further bytes kind end block left none [] h = h
none_further bytes kind end block left none (m ∷ rest) (first, h) = none m first

-- ---- by the indexes of a vector

left_at : (v : VectorIn) (place : ℕ) → place < v.count → drop place (blocks_in v) ≡ block_at v place ∷ drop (place + 1) (blocks_in v)
left_at v place h =
    let d : Block = block_at v place in
    let here : get_or (blocks_in v) place d ≡ d = get_or_from_slice_get (blocks_in v) place d d (slice_get-blocks_in v place h) in
    let next : suc place ≡ place + 1 = omega arith in
    drop-cons (blocks_in v) place d (omega (arith, h, length-blocks_in v)) ∙ (λ i. here i ∷ drop (next i) (blocks_in v))

named_at : (v : VectorIn) (place : ℕ) (offset : ℤ) → place < v.count → option_map {T = Block} {U = ℤ} (λ block. block.offset) (slice_get (blocks_in v) place) ≡ Some offset → offset ≡ (block_at v place).offset
named_at v place offset h is = cc (is, ap (option_map {T = Block} {U = ℤ} (λ block. block.offset)) (slice_get-blocks_in v place h))

pub took_next : (bytes : List ℕ) (kind from : ℕ) (v : VectorIn) (place end : ℕ) (taken : List (List ℕ)) (offset : ℤ) (found : Found) → place < v.count
    → option_map {T = Block} {U = ℤ} (λ block. block.offset) (slice_get (blocks_in v) place) ≡ Some offset → Finds bytes kind end offset found
    → Took bytes kind from (blocks_in v) (drop place (blocks_in v)) end taken
    → Took bytes kind from (blocks_in v) (drop (place + 1) (blocks_in v)) found.end (taken ++ found.message.now ∷ [])
took_next bytes kind from v place end taken offset found h is f t =
    let first : IsMessageFrom bytes kind end (block_at v place).offset found.message.now =
    subst (λ (z : ℤ). IsMessageFrom bytes kind end z found.message.now) (named_at v place offset h is) f.is in
    let more : Took bytes kind from (blocks_in v) (drop (place + 1) (blocks_in v)) (first.offset + length found.message.now) (taken ++ found.message.now ∷ []) =
    took_more bytes kind from (blocks_in v) (block_at v place) (drop (place + 1) (blocks_in v)) end taken found.message.now first
    (subst (λ (left : List Block). Took bytes kind from (blocks_in v) left end taken) (left_at v place h) t) in
    let named : first.offset ≡ f.is.offset = cc (first.named_is, f.is.named_is, named_at v place offset h is) in
    subst (λ (e : ℕ). Took bytes kind from (blocks_in v) (drop (place + 1) (blocks_in v)) e (taken ++ found.message.now ∷ [])) (omega (arith, named, f.end_is)) more

pub took_stops : (bytes : List ℕ) (kind from : ℕ) (v : VectorIn) (place end : ℕ) (taken : List (List ℕ)) (offset : ℤ) → place < v.count
    → option_map {T = Block} {U = ℤ} (λ block. block.offset) (slice_get (blocks_in v) place) ≡ Some offset → ((m : List ℕ) → IsMessageFrom bytes kind end offset m → ⊥)
    → Took bytes kind from (blocks_in v) (drop place (blocks_in v)) end taken → HaveNoMessages bytes kind from (blocks_in v)
took_stops bytes kind from v place end taken offset h is none t ms all =
    let some = t.only ms all in
    none_further bytes kind end (block_at v place) (drop (place + 1) (blocks_in v))
    (λ m first. none m (subst (λ (z : ℤ). IsMessageFrom bytes kind end z m) (sym (named_at v place offset h is)) first)) some.0
    (subst (λ (left : List Block). AreMessagesOf bytes kind end left some.0) (left_at v place h) some.1)

pub took_all : (bytes : List ℕ) (kind from : ℕ) (v : VectorIn) (place end : ℕ) (taken : List (List ℕ)) → v.count ≤ place
    → Took bytes kind from (blocks_in v) (drop place (blocks_in v)) end taken → AreMessagesOf bytes kind from (blocks_in v) taken
took_all bytes kind from v place end taken h t =
    let none : drop place (blocks_in v) ≡ [] = drop_all place (blocks_in v) (omega (arith, h, length-blocks_in v)) in
    subst (AreMessagesOf bytes kind from (blocks_in v)) (append-nil taken)
    (t.all [] (subst (λ (left : List Block). AreMessagesOf bytes kind end left []) (sym none) tt))
