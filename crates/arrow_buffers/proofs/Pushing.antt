-- One more value, for each way to store values.
use Rattle.std.proofs.Common.{◌≡◌, ℕ, ◌+◌, ◌*◌, ◌%◌, ◌<◌, ◌≤◌, ◌==◌, if◌then◌else◌, Bool, List, [], ◌∷◌, ◌++◌, length}
use Rattle.std.proofs.Common.{take, drop, slice_index, replicate, unwrap_or, Option, Some, None, refl, sym, ap, ◌∙◌, inl, inr, arith}
use Rattle.std.specs.Option.{ForSome}
use Rattle.std.proofs.lemmas.Bool.{cases_eq, cond-true, cond-false, eq-eqb, ne_eqb}
use Rattle.std.proofs.lemmas.List.{drop_at, drop-append-le, take-append-le, take_all, length-drop, length-append, length-replicate, length_push}
use Rattle.std.proofs.lemmas.List.Sums.{sum_by_push}
use Rattle.std.proofs.Math.Nat.{mod-one, mul-le-mul_right, zero-mod}
use Rattle.arrow_buffers.specs.Limits.{max_values}
use Rattle.arrow_buffers.specs.declared.width.Width.TheVariants.{Bit, Fixed, Var}
use Rattle.arrow_buffers.specs.declared.width.Width.TheVariants as width
use Rattle.arrow_buffers.specs.Bits.{bit_at}
use Rattle.arrow_buffers.specs.Fixed.{row_part}
use Rattle.arrow_buffers.specs.Packed.{PushesBit}
use Rattle.arrow_buffers.specs.Columns.{HasWidth, cell_len, ended}
use Rattle.arrow_buffers.specs.Building.{is_one, HasValueForEach, PushesValue}
use Rattle.arrow_buffers.proofs.Placing.{spans-next}

-- a value that is one byte, which is 0 or 1
one-byte : (value : List ℕ) → length value ≡ 1 → value ≡ slice_index value 0 ∷ []
one-byte [] len = absurd (omega arith)
one-byte (b ∷ []) len = refl
one-byte (b ∷ c ∷ rest) len = absurd (omega arith)

bit-byte : (b : ℕ) → b < 2 → (if b == 1 then 1 else 0) ≡ b
bit-byte b small =
    elim (cases_eq b 1) [
      | inl e ↦ cond-true (b == 1) 1 0 (eq-eqb b 1 e) ∙ sym e
      | inr ne ↦ let zero : 0 ≡ b = omega arith in cond-false (b == 1) 1 0 (ne_eqb b 1 ne) ∙ zero
    ]

-- a bit's value is the byte that was given
bit-value : (cell : Option (List ℕ)) → ForSome cell (HasWidth Bit) → ForSome cell (λ value. (if is_one cell then 1 else 0) ∷ [] ≡ value)
bit-value None width = λ value is. cc
bit-value (Some given) width =
    λ value is.
    let w = width given refl in
    let same : given ≡ value = cc in
    ap (λ b. b ∷ []) (bit-byte (slice_index given 0) w.1) ∙ sym (one-byte given w.0) ∙ same

pub pushes-bit : (rows : ℕ) (cell : Option (List ℕ)) (offsets values new : List ℕ) → HasValueForEach Bit rows offsets values → ForSome cell (HasWidth Bit) → PushesBit rows (is_one cell) values new
    → PushesValue Bit rows cell offsets values offsets new
pushes-bit rows cell offsets values new stored width pushed =
    let byte : Bool → List ℕ = λ bit. (if bit then 1 else 0) ∷ [] in
    record {
      stored = (stored.0, pushed.packed);
      before = λ k below. ap byte (pushed.bits k ∙ cond-false (k == rows) (is_one cell) (bit_at values k) (ne_eqb k rows (omega arith)));
      there = λ value is. ap byte (pushed.bits rows ∙ cond-true (rows == rows) (is_one cell) (bit_at values rows) (eq-eqb rows rows refl)) ∙ bit-value cell width value is;
      grown = λ cells len _. let packed = pushed.packed.len in omega (arith, length_push cells cell);
    }

-- what is stored for a cell has the column's width
part-len : (width : ℕ) (cell : Option (List ℕ)) → ForSome cell (HasWidth (Fixed width)) → length (unwrap_or cell (replicate width 0)) ≡ width
part-len width None fits = length-replicate {A = ℕ} width 0
part-len width (Some value) fits = fits value refl

-- a part that is there
pub row_part-append : (width rows k : ℕ) (values more : List ℕ) → length values ≡ rows * width → k < rows → row_part width (values ++ more) k ≡ row_part width values k
row_part-append width rows k values more len below =
    let within : (k + 1) * width ≤ rows * width = mul-le-mul_right width (omega arith) in
    rw (drop-append-le (k * width) values more (omega arith)) (take-append-le width (drop (k * width) values) more (rw (length-drop (k * width) values) (omega arith)))

pub pushes-part : (width rows : ℕ) (cell : Option (List ℕ)) (offsets values : List ℕ) → HasValueForEach (Fixed width) rows offsets values → ForSome cell (HasWidth (Fixed width))
    → PushesValue (Fixed width) rows cell offsets values offsets (values ++ unwrap_or cell (replicate width 0))
pushes-part width rows cell offsets values stored fits =
    let part = unwrap_or cell (replicate width 0) in
    let len = part-len width cell fits in
    let was = stored.1 in
    let all_len = length-append values part in
    record {
      stored = (stored.0, omega arith);
      before = λ k below. row_part-append width rows k values part stored.1 below;
      there = λ value is. ap (take width) (drop_at values part (rows * width) stored.1) ∙ take_all width part (omega arith) ∙ ap (λ c. unwrap_or c (replicate width 0)) is;
      grown = λ cells count _. rw (length_push cells cell, count) (omega arith);
    }

span-len : (cell : Option (List ℕ)) → length (unwrap_or cell []) ≡ cell_len cell
span-len None = refl
span-len (Some value) = refl

-- the elements of a cell are whole
whole-cell : (element : ℕ) (cell : Option (List ℕ)) → 1 ≤ element → ForSome cell (HasWidth (width.List element)) → length (unwrap_or cell []) % element ≡ 0
whole-cell element None some fits = zero-mod element
whole-cell element (Some value) some fits = fits value refl

pub pushes-list : (element rows : ℕ) (cell : Option (List ℕ)) (offsets values : List ℕ) → HasValueForEach (width.List element) rows offsets values → ForSome cell (HasWidth (width.List element))
    → length values + cell_len cell < max_values → PushesValue (width.List element) rows cell offsets values (ended element offsets values) (values ++ unwrap_or cell [])
pushes-list element rows cell offsets values has fits room =
    let part = unwrap_or cell [] in
    let len = span-len cell in
    let all_len = length-append values part in
    let next = spans-next element rows offsets values part has.0 has.1 (whole-cell element cell has.0 fits) (omega arith) in
    record {
      stored = (has.0, next.now);
      before = next.before;
      there = λ value is. next.there ∙ ap (λ c. unwrap_or c []) is;
      grown = λ cells count was. omega (arith, sum_by_push cell_len cells cell);
    }

pub pushes-span : (rows : ℕ) (cell : Option (List ℕ)) (offsets values : List ℕ) → HasValueForEach Var rows offsets values → length values + cell_len cell < max_values
    → PushesValue Var rows cell offsets values (ended 1 offsets values) (values ++ unwrap_or cell [])
pushes-span rows cell offsets values has room =
    let part = unwrap_or cell [] in
    let len = span-len cell in
    let all_len = length-append values part in
    let next = spans-next 1 rows offsets values part (omega arith) has (mod-one (length part)) (omega arith) in
    record {
      stored = next.now;
      before = next.before;
      there = λ value is. next.there ∙ ap (λ c. unwrap_or c []) is;
      grown = λ cells count was. omega (arith, sum_by_push cell_len cells cell);
    }
