-- The cells of a column by the views of its buffers.
use Rattle.std.proofs.Common.{◌≡◌, ℕ, zero, suc, ◌+◌, ◌*◌, ◌<◌, ◌≤◌, ◌==◌, ◌&&◌, if◌then◌else◌, Bool, true, false, List, [], ◌∷◌}
use Rattle.std.proofs.Common.{length, slice_get, Option, Some, None, Ok, Err, IsOk, option_map, refl, sym, ap, ◌∙◌, inl, inr, arith}
use Rattle.std.specs.List.{list_all, range_with_len}
use Rattle.std.proofs.lemmas.Bool.{lt-ltb, cases_lt, cond-false, ne_eqb, false≢true}
use Rattle.std.proofs.Math.Bool.{and-true}
use Rattle.std.proofs.lemmas.Option.{slice_get-get_or}
use Rattle.std.proofs.lemmas.List.Folds.{list_all-map, list_all-append}
use Rattle.arrow_buffers.specs.declared.fault.BufferFault.TheVariants.{BadUtf8}
use Rattle.arrow_buffers.specs.declared.width.Width.{Width}
use Rattle.arrow_buffers.specs.declared.width.Width.TheVariants.{Bit, Fixed, Var}
use Rattle.arrow_buffers.specs.declared.width.Width.TheVariants as width
use Rattle.arrow_buffers.specs.Below.{all_below}
use Rattle.arrow_buffers.specs.Bits.{bit_at, bits_of, cell_where, flag_of, is_valid}
use Rattle.arrow_buffers.specs.Columns.{bit_byte, cell_at, cells_of, value_at}
use Rattle.arrow_buffers.specs.Fixed.{part_of}
use Rattle.arrow_buffers.specs.Lists.{elements_of}
use Rattle.arrow_buffers.specs.Vars.{is_text, is_text_at, row_span, utf8_check}
use Rattle.arrow_buffers.proofs.Growing.{get_or-cells_of, length-cells_of}
use Rattle.arrow_buffers.proofs.Joining.{range-more}
use Rattle.arrow_buffers.proofs.EachBelow.{all_below-same}

-- a flag and a value make a cell
pub where-some : (valid : Bool) (value : List ℕ) → cell_where (Some valid) (Some value) ≡ (if valid then Some value else None)
where-some true value = refl
where-some false value = refl

pub fixed-cell : (width : ℕ) (validity offsets values : List ℕ) (rows row : ℕ) → row < rows
    → cell_where (flag_of (record { bytes = validity; rows = rows }) row) (part_of (record { bytes = values; width = width; rows = rows }) row) ≡ cell_at (Fixed width) validity offsets values row
unfolding flag_of part_of
fixed-cell width validity offsets values rows row below =
    rw (lt-ltb row rows below) (where-some (is_valid validity row) (value_at (Fixed width) offsets values row))

pub var-cell : (validity offsets values : List ℕ) (rows row : ℕ) → row < rows → cell_where (flag_of (record { bytes = validity; rows = rows }) row)
    (row_span (record { offsets = offsets; values = values; rows = rows }) row) ≡ cell_at Var validity offsets values row
unfolding flag_of row_span
var-cell validity offsets values rows row below =
    rw (lt-ltb row rows below) (where-some (is_valid validity row) (value_at Var offsets values row))

pub list-cell : (element : ℕ) (validity offsets values : List ℕ) (rows row : ℕ) → row < rows
    → cell_where (flag_of (record { bytes = validity; rows = rows }) row) (elements_of (record { offsets = offsets; values = values; width = element; rows = rows }) row)
    ≡ cell_at (width.List element) validity offsets values row
unfolding flag_of elements_of
list-cell element validity offsets values rows row below =
    rw (lt-ltb row rows below) (where-some (is_valid validity row) (value_at (width.List element) offsets values row))

-- a bit for each row
room-from : (bytes : List ℕ) (rows : ℕ) → IsOk (bits_of bytes rows) → rows ≤ length bytes * 8
unfolding bits_of
room-from bytes rows ok =
    elim (cases_lt (length bytes * 8) rows) [
      | inl short ↦ absurd (false≢true (rw (lt-ltb (length bytes * 8) rows short) at ok))
      | inr room ↦ room
    ]

pub bit-cell : (validity offsets values : List ℕ) (rows row : ℕ) → row < rows → IsOk (bits_of values rows)
    → cell_where (flag_of (record { bytes = validity; rows = rows }) row) (option_map bit_byte (flag_of (record { bytes = values; rows = rows }) row)) ≡ cell_at Bit validity offsets values row
unfolding flag_of
bit-cell validity offsets values rows row below ok =
    let room = room-from values rows ok in
    let there : is_valid values row ≡ bit_at values row = cond-false (length values == 0) true (bit_at values row) (ne_eqb (length values) 0 (omega arith)) in
    rw (lt-ltb row rows below, there) (where-some (is_valid validity row) (value_at Bit offsets values row))

-- a test of each number below one is a test of them in order
all_below-list : (test : ℕ → Bool) (n : ℕ) → all_below test n ≡ list_all test (range_with_len 0 n)
all_below-list test zero = refl
all_below-list test (suc n) =
    let next : n + 1 ≡ suc n = omega arith in
    let front = range_with_len 0 n in
    ap (λ b. b && test n) (all_below-list test n) ∙ ap (λ b. list_all test front && b) (sym (and-true (test n))) ∙ sym (list_all-append test front (n ∷ [])) ∙ ap (list_all test) (sym (range-more n))
    ∙ ap (λ m. list_all test (range_with_len 0 m)) next

pub texts-law : (validity offsets values : List ℕ) (rows : ℕ) → utf8_check (record { offsets = offsets; values = values; rows = rows }) (record { bytes = validity; rows = rows })
    ≡ (if list_all is_text (cells_of Var validity offsets values rows) then Ok tt else Err BadUtf8)
unfolding utf8_check cells_of
texts-law validity offsets values rows =
    let cell : ℕ → Option (List ℕ) = cell_at Var validity offsets values in
    let each : all_below (is_text_at (record { offsets = offsets; values = values; rows = rows }) (record { bytes = validity; rows = rows })) rows ≡ all_below (λ row. is_text (cell row)) rows =
    all_below-same _ _ rows (λ row below. ap is_text (var-cell validity offsets values rows row below)) in
    let listed = each ∙ all_below-list (λ row. is_text (cell row)) rows ∙ sym (list_all-map is_text cell (range_with_len 0 rows)) in
    ap (λ b. if b then Ok tt else Err BadUtf8) listed

pub row-law : (width : Width) (validity offsets values : List ℕ) (rows row : ℕ) → row < rows → slice_get (cells_of width validity offsets values rows) row ≡ Some (cell_at width validity offsets values row)
row-law width validity offsets values rows row below =
    let cells = cells_of width validity offsets values rows in
    let count = length-cells_of width validity offsets values rows in
    slice_get-get_or cells row None (omega arith) ∙ ap (λ cell. Some cell) (get_or-cells_of width validity offsets values rows row None below)
