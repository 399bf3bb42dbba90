-- A column that a batch holds is read back.
use Rattle.std.proofs.Common.{◌≡◌, ◌<◌, ◌+◌, ◌*◌, ◌-◌, ℕ, ℤ, pos, nat_lt, List, [], length, take, slice_get, Option, None, Some, Result, Ok, Err, is_ok, if◌then◌else◌, Bool, true, false, not, refl}
use Rattle.std.proofs.Common.{sym, ap, ◌∙◌, subst, arith}
use Rattle.std.proofs.lemmas.Bool.{eq-eqb, ne_eqb, le-ltb}
use Rattle.std.proofs.lemmas.List.{take_all}
use Rattle.lists.specs.Results.{◌>>=◌}
use Rattle.arrow_buffers.specs.declared.fault.BufferFault.{BufferFault}
use Rattle.arrow_buffers.specs.declared.fault.BufferFault.TheVariants.{BadUtf8}
use Rattle.arrow_buffers.specs.declared.width.Width.{Width}
use Rattle.arrow_buffers.specs.declared.width.Width.TheVariants as width
use Rattle.arrow_buffers.specs.Bits.{BitsIn, validity_of, flag_of}
use Rattle.arrow_buffers.specs.Columns.{HasNoFault, cell_at, cells_of}
use Rattle.arrow_buffers.specs.Lists.{ListsIn, is_null, is_set, is_full, is_full_at, nulls_check}
use Rattle.arrow_buffers.specs.Offsets.{offset_at}
use Rattle.arrow_buffers.proofs.EachBelow.{all_below-each}
use Rattle.arrow_buffers.proofs.CellLaws.{bit-cell, fixed-cell, var-cell, list-cell, texts-law, row-law}
use Rattle.arrow_ipc.specs.Batches.{BatchIn}
use Rattle.arrow_arrays.specs.declared.layout.Layout.{Layout}
use Rattle.arrow_arrays.specs.declared.layout.Layout.TheVariants as layout
use Rattle.arrow_arrays.specs.declared.place.ArrayPlace.{ArrayPlace}
use Rattle.arrow_arrays.specs.declared.view.RowValues.{RowValues}
use Rattle.arrow_arrays.specs.declared.view.RowValues.TheVariants.{Bits, Fixed, Vars, Lists}
use Rattle.arrow_arrays.specs.declared.view.ArrayView.{ArrayView}
use Rattle.arrow_arrays.specs.Layouts.{element_len}
use Rattle.arrow_arrays.specs.Cells.{length_in, nulls_in, validity_in, bit_values, fixed_in, vars_in, elements_in, lists_in, values_by, values_in, array_in, content_check, array_check, cell_in, cell_if, own_cell}
use Rattle.arrow_arrays.specs.Columns.{stored_width, AreElements, StandAt, HoldsColumn, AreTexts}

-- the views of a column; each element of its lists is there
unfoldable pub flags_for : List ℕ → ℕ → BitsIn
flags_for validity rows = record { bytes = validity; rows = rows }

values_for : Width → List ℕ → List ℕ → ℕ → ℕ → RowValues
values_for width.Bit offsets values count rows = Bits (record { bytes = values; rows = rows })
values_for (width.Fixed n) offsets values count rows = Fixed (record { bytes = values; width = n; rows = rows })
values_for width.Var offsets values count rows = Vars (record { offsets = offsets; values = values; rows = rows })
values_for (width.List n) offsets values count rows = Lists (record { offsets = offsets; values = values; width = n; rows = rows }) (flags_for [] count)

view_for : Width → List ℕ → List ℕ → List ℕ → ℕ → ℕ → ArrayView
view_for width validity offsets values count rows = record { valid = flags_for validity rows; values = values_for width offsets values count rows }

-- how many elements the array below a list has; 0 for another column
count_for : (width : Width) (batch : BatchIn) (a : ArrayPlace) (offsets values : List ℕ) → StandAt batch a width offsets values → ℕ
count_for (width.List n) batch a offsets values stand = stand.1.count
count_for other batch a offsets values stand = 0

pub valid_there : (batch : BatchIn) (rows node buffer : ℕ) (nulls : ℤ) (validity : List ℕ) → slice_get batch.nodes node ≡ Some (pos rows, nulls) → slice_get batch.buffers buffer ≡ Some validity
    → validity_of validity rows nulls ≡ Ok (flags_for validity rows) → validity_in batch rows node buffer ≡ Ok (flags_for validity rows)
unfolding validity_in nulls_in flags_for
valid_there batch rows node buffer nulls validity counted bitmap valid = rw (counted, eq-eqb rows rows refl, bitmap) valid

bits_there : (batch : BatchIn) (a : ArrayPlace) (rows count : ℕ) (offsets values : List ℕ) → StandAt batch a width.Bit offsets values → HasNoFault width.Bit offsets values rows
    → bit_values batch rows (a.buffer + 1) ≡ Ok (values_for width.Bit offsets values count rows)
unfolding bit_values values_for
bits_there batch a rows count offsets values stand fine = rw (stand, fine) refl

fixed_there : (batch : BatchIn) (a : ArrayPlace) (n rows count : ℕ) (offsets values : List ℕ) → StandAt batch a (width.Fixed n) offsets values → HasNoFault (width.Fixed n) offsets values rows
    → fixed_in batch rows (a.buffer + 1) n ≡ Ok (values_for (width.Fixed n) offsets values count rows)
unfolding fixed_in values_for
fixed_there batch a n rows count offsets values stand fine = rw (stand.1, ne_eqb n 0 (omega (arith, stand.0)), fine) refl

vars_there : (batch : BatchIn) (a : ArrayPlace) (rows count : ℕ) (offsets values : List ℕ) → StandAt batch a width.Var offsets values → HasNoFault width.Var offsets values rows
    → vars_in batch rows (a.buffer + 1) ≡ Ok (values_for width.Var offsets values count rows)
unfolding vars_in values_for
vars_there batch a rows count offsets values stand fine =
    let next : a.buffer + 1 + 1 ≡ a.buffer + 2 = omega arith in rw (next, stand.0, stand.1, fine) refl

pub no_bitmap : (count : ℕ) → validity_of [] count (pos 0) ≡ Ok (flags_for [] count)
unfolding validity_of flags_for
no_bitmap count = refl

-- all elements of a buffer are there
elements_there : (batch : BatchIn) (node buffer : ℕ) (values : List ℕ) (are : AreElements batch node buffer values) → elements_in batch node buffer ≡ Ok (values, flags_for [] are.count)
unfolding elements_in length_in
elements_there batch node buffer values are =
    let count = are.count in
    let long = are.len in
    let there : validity_in batch count node buffer ≡ Ok (flags_for [] count) = valid_there batch count node buffer (pos 0) [] are.node are.bitmap (no_bitmap count) in
    let enough : nat_lt (length values) (count * element_len) ≡ false = le-ltb (length values) (count * element_len) (omega arith) in
    let all : take (count * element_len) values ≡ values = take_all (count * element_len) values (omega arith) in
    rw (are.node, there, are.stand, enough, all) refl

lists_there : (batch : BatchIn) (a : ArrayPlace) (rows : ℕ) (offsets values : List ℕ) (stand : StandAt batch a (width.List element_len) offsets values) → HasNoFault (width.List element_len) offsets values rows
    → lists_in batch rows a ≡ Ok (values_for (width.List element_len) offsets values (count_for (width.List element_len) batch a offsets values stand) rows)
unfolding lists_in values_for count_for
lists_there batch a rows offsets values stand fine =
    rw (stand.0, elements_there batch (a.node + 1) (a.buffer + 2) values stand.1, fine) refl

-- lists of elements of that width
AreThere : BatchIn → ArrayPlace → ℕ → List ℕ → List ℕ → ℕ → Type 0
AreThere batch a rows offsets values n = (stand : StandAt batch a (width.List n) offsets values) → HasNoFault (width.List n) offsets values rows
    → lists_in batch rows a ≡ Ok (values_for (width.List n) offsets values (count_for (width.List n) batch a offsets values stand) rows)

values_there : (kind : Layout) (width : Width) (batch : BatchIn) (a : ArrayPlace) (rows : ℕ) (offsets values : List ℕ) → stored_width kind ≡ Some width → (stand : StandAt batch a width offsets values)
    → HasNoFault width offsets values rows → values_by batch rows a kind ≡ Ok (values_for width offsets values (count_for width batch a offsets values stand) rows)
unfolding count_for AreThere
values_there layout.Bits width.Bit batch a rows offsets values is stand fine = bits_there batch a rows 0 offsets values stand fine
values_there (layout.Fixed m) (width.Fixed n) batch a rows offsets values is stand fine =
    let same : m ≡ n = cc (is) in
    ap (fixed_in batch rows (a.buffer + 1)) same ∙ fixed_there batch a n rows 0 offsets values stand fine
values_there layout.Binary width.Var batch a rows offsets values is stand fine = vars_there batch a rows 0 offsets values stand fine
values_there layout.Text width.Var batch a rows offsets values is stand fine = vars_there batch a rows 0 offsets values stand fine
values_there layout.List (width.List n) batch a rows offsets values is stand fine =
    let same : element_len ≡ n = cc (is) in
    subst (AreThere batch a rows offsets values) same (lists_there batch a rows offsets values) stand fine
values_there kind width batch a rows offsets values is stand fine = absurd (cc (is))

abbrev column_count : (batch : BatchIn) (a : ArrayPlace) (width : Width) (rows : ℕ) (validity offsets values : List ℕ) → HoldsColumn batch a width rows validity offsets values → ℕ
column_count batch a width rows validity offsets values is = count_for width batch a offsets values is.stand

column_view : (batch : BatchIn) (a : ArrayPlace) (width : Width) (rows : ℕ) (validity offsets values : List ℕ) (is : HoldsColumn batch a width rows validity offsets values)
    → array_in batch a ≡ Ok (view_for width validity offsets values (column_count batch a width rows validity offsets values is) rows)
unfolding array_in values_in view_for flags_for
column_view batch a width rows validity offsets values is =
    rw (is.counted, valid_there batch rows a.node a.buffer is.nulls validity is.node is.bitmap is.valid, values_there a.layout width batch a rows offsets values is.layout is.stand is.fine) refl

-- no element is null where each is there
none_null : (below : Bool) → not (is_null (if below then Some true else None)) ≡ true
none_null true = refl
none_null false = refl

either_full : (valid full : Bool) → full ≡ true → (if valid then full else true) ≡ true
either_full true full is = is
either_full false full is = refl

all_there : (l : ListsIn) (valid : BitsIn) (count : ℕ) → nulls_check l valid (flags_for [] count) ≡ Ok tt
unfolding nulls_check flag_of flags_for
all_there l valid count =
    let full : (row : ℕ) → is_full l (record { bytes = []; rows = count }) row ≡ true =
    λ row. all_below-each (λ k. not (is_null (flag_of (record { bytes = []; rows = count }) (offset_at l.offsets row + k)))) (offset_at l.offsets (row + 1) - offset_at l.offsets row)
    (λ k below. none_null (nat_lt (offset_at l.offsets row + k) count)) in
    rw (all_below-each (is_full_at l valid (record { bytes = []; rows = count })) l.rows (λ row below. either_full (is_set (flag_of valid row)) (is_full l (record { bytes = []; rows = count }) row) (full row))) refl

content_fine : (kind : Layout) (width : Width) (validity offsets values : List ℕ) (count rows : ℕ) → stored_width kind ≡ Some width → AreTexts kind (cells_of width validity offsets values rows)
    → content_check kind (view_for width validity offsets values count rows) ≡ Ok tt
unfolding view_for values_for flags_for
content_fine layout.Text width.Var validity offsets values count rows is texts =
    texts-law validity offsets values rows ∙ ap (λ b. if b then Ok tt else Err BadUtf8) texts
content_fine layout.Text width.Bit validity offsets values count rows is texts = absurd (cc (is))
content_fine layout.Text (width.Fixed n) validity offsets values count rows is texts = absurd (cc (is))
content_fine layout.Text (width.List n) validity offsets values count rows is texts = absurd (cc (is))
content_fine layout.List (width.List n) validity offsets values count rows is texts =
    all_there (record { offsets = offsets; values = values; width = n; rows = rows }) (flags_for validity rows) count
content_fine kind width validity offsets values count rows is texts = refl

pub column_checks : (batch : BatchIn) (a : ArrayPlace) (width : Width) (rows : ℕ) (validity offsets values : List ℕ) → HoldsColumn batch a width rows validity offsets values
    → AreTexts a.layout (cells_of width validity offsets values rows) → array_check batch a ≡ Ok tt
unfolding array_check
column_checks batch a width rows validity offsets values is texts =
    ap (λ (r : Result ArrayView BufferFault). r >>= content_check a.layout) (column_view batch a width rows validity offsets values is)
    ∙ content_fine a.layout width validity offsets values (column_count batch a width rows validity offsets values is) rows is.layout texts

value_cell : (width : Width) (validity offsets values : List ℕ) (count rows row : ℕ) → row < rows → HasNoFault width offsets values rows
    → cell_in (view_for width validity offsets values count rows) row ≡ cell_at width validity offsets values row
unfolding view_for values_for flags_for
value_cell width.Bit validity offsets values count rows row below fine =
    bit-cell validity offsets values rows row below (ap (λ (r : Result BitsIn BufferFault). is_ok r) fine)
value_cell (width.Fixed n) validity offsets values count rows row below fine = fixed-cell n validity offsets values rows row below
value_cell width.Var validity offsets values count rows row below fine = var-cell validity offsets values rows row below
value_cell (width.List n) validity offsets values count rows row below fine = list-cell n validity offsets values rows row below

pub column_cells : (batch : BatchIn) (a : ArrayPlace) (width : Width) (rows : ℕ) (validity offsets values : List ℕ) → HoldsColumn batch a width rows validity offsets values
    → (row : ℕ) → row < rows → slice_get (cells_of width validity offsets values rows) row ≡ Some (own_cell batch a row)
unfolding own_cell
column_cells batch a width rows validity offsets values is row below =
    let cell = ap (λ (r : Result ArrayView BufferFault). cell_if r row) (column_view batch a width rows validity offsets values is)
    ∙ value_cell width validity offsets values (column_count batch a width rows validity offsets values is) rows row below is.fine in
    row-law width validity offsets values rows row below ∙ ap (λ (c : Option (List ℕ)). Some c) (sym cell)
