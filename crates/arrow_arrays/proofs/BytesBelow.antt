-- Cells of one byte, each below a number.
use Rattle.std.proofs.Common.{◌≡◌, ℕ, ◌+◌, ◌-◌, ◌*◌, ◌<◌, nat_le, Bool, true, false, List, length, drop, slice_index, slice_range, Option, Some, None, if◌then◌else◌, inl, inr, ap, ◌∙◌, arith}
use Rattle.std.proofs.lemmas.Bool.{cases_lt, lt-leb, and_right}
use Rattle.std.proofs.lemmas.List.{length-take, length-drop, get_or-take, get_or-drop}
use Rattle.arrow_arrays.specs.declared.column.ColumnView.{ColumnView}
use Rattle.arrow_arrays.specs.Views.{part_between, value_seen, is_there, cell_seen, HoldsBelow}
use Rattle.arrow_arrays.proofs.Finding.{part_found}

in_part : (bytes : List ℕ) (count row : ℕ) → row < length bytes → slice_index bytes row < count → HoldsBelow count (Some (slice_range bytes row (row + 1)))
in_part bytes count row below low =
    let size : length (slice_range bytes row (row + 1)) ≡ 1 = omega (arith, length-take (row + 1 - row) (drop row bytes), length-drop row bytes, below) in
    let only : slice_index (slice_range bytes row (row + 1)) 0 ≡ slice_index bytes row =
    get_or-take (row + 1 - row) (drop row bytes) 0 0 (omega arith) ∙ get_or-drop row bytes 0 0 ∙ ap (slice_index bytes) (omega arith) in
    rw size (omega (arith, only, low))

byte_below : (bytes : List ℕ) (count row : ℕ) → ((k : ℕ) → k < length bytes → slice_index bytes k < count) → HoldsBelow count (part_between bytes (row * 1) ((row + 1) * 1))
byte_below bytes count row low =
    let start : row * 1 ≡ row = omega arith in
    let end : (row + 1) * 1 ≡ row + 1 = omega arith in
    elim (cases_lt row (length bytes)) [
      | inl below ↦ rw (start, end, part_found bytes row (row + 1) (omega arith) (omega (arith, below))) (in_part bytes count row below (low row below))
      | inr past ↦ rw (start, end, and_right (nat_le row (row + 1)) (nat_le (row + 1) (length bytes)) (lt-leb (row + 1) (length bytes) (omega (arith, past)))) tt
    ]

if_there : (there : Bool) (value : Option (List ℕ)) (count : ℕ) → HoldsBelow count value → HoldsBelow count (if there then value else None)
if_there false value count holds = tt
if_there true value count holds = holds

-- so no cell of the column holds more
pub cells_below : (v : ColumnView) (bytes : List ℕ) (count row : ℕ) → value_seen v.stored row ≡ part_between bytes (row * 1) ((row + 1) * 1)
    → ((k : ℕ) → k < length bytes → slice_index bytes k < count) → HoldsBelow count (cell_seen v row)
unfolding cell_seen
cells_below v bytes count row is low = rw is (if_there (is_there v row) (part_between bytes (row * 1) ((row + 1) * 1)) count (byte_below bytes count row low))
