-- The buffers of a column are short.
use Rattle.std.proofs.Common.{◌≡◌, ℕ, suc, ◌+◌, ◌*◌, ◌/◌, ◌<◌, ◌≤◌, ◌==◌, Bool, true, false, List, [], ◌∷◌, length, get_or, map, Option, refl, ap, ◌∙◌, arith}
use Rattle.std.specs.Prelude.{sum_by}
use Rattle.std.proofs.lemmas.Bool.{false≢true}
use Rattle.std.proofs.lemmas.List.Sums.{sum_by-cons}
use Rattle.arrow_buffers.specs.declared.width.Width.{Width}
use Rattle.arrow_buffers.specs.declared.width.Width.TheVariants as width
use Rattle.arrow_buffers.specs.declared.builder.Buffers.{Buffers}
use Rattle.arrow_buffers.specs.Columns.{ColumnIn, cell_len, cells_len, validity_len, offsets_len, values_len}
use Rattle.arrow_ipc.specs.Written.{padded}
use Rattle.otap_cells.specs.declared.profile.Base.{Base}
use Rattle.otap_cells.specs.declared.profile.Base.TheVariants as base
use Rattle.otap_cells.specs.Cells.{Cell, null, number, bits, flag, bytes, IsCellOf}
use Rattle.otap_cells.specs.Columns.{base_at}
use Rattle.otap_cells.specs.Tables.{Table, IsTable, cell_in, column_in}
use Rattle.otap_cells.specs.Weights.{cell_weight}
use Rattle.otap_columns.specs.declared.forms.ColumnForm.{ColumnForm}
use Rattle.otap_columns.specs.declared.forms.ColumnForm.TheVariants as form
use Rattle.otap_columns.specs.Observed.{bytes_for}
use Rattle.otap_columns.specs.WrittenCells.{stored_for, stored_column}
use Rattle.otap_columns.specs.BuiltCells.{plain_width, width_for, row_most, column_weight, column_most}
use Rattle.otap_columns.proofs.ColumnsBuilt.{stored_len}

-- ---- what a row takes in a width, its bit of the bitmap counted as a byte

width_most : Width → ℕ
width_most width.Bit = 2
width_most (width.Fixed n) = n + 1
width_most width.Var = 5
width_most (width.List n) = 5

index_most : (holds : Base) → 3 ≤ row_most holds
index_most base.U8 = omega arith
index_most base.U16 = omega arith
index_most base.U32 = omega arith
index_most base.U64 = omega arith
index_most base.I32 = omega arith
index_most base.I64 = omega arith
index_most base.Double = omega arith
index_most base.Bool = omega arith
index_most base.Utf8 = omega arith
index_most base.Binary = omega arith
index_most base.Fixed16 = omega arith
index_most base.Fixed8 = omega arith
index_most base.Timestamp = omega arith
index_most base.Duration = omega arith
index_most base.ListU64 = omega arith
index_most base.ListF64 = omega arith
index_most (base.Id wide) = omega arith

plain_most : (holds : Base) (f : ColumnForm) → width_most (plain_width holds f) ≤ row_most holds
unfolding width_most
plain_most base.U8 f = omega arith
plain_most base.U16 f = omega arith
plain_most base.U32 f = omega arith
plain_most base.U64 f = omega arith
plain_most base.I32 f = omega arith
plain_most base.I64 f = omega arith
plain_most base.Double f = omega arith
plain_most base.Bool f = omega arith
plain_most base.Utf8 f = omega arith
plain_most base.Binary f = omega arith
plain_most base.Fixed16 f = omega arith
plain_most base.Fixed8 f = omega arith
plain_most base.Timestamp f = omega arith
plain_most base.Duration f = omega arith
plain_most base.ListU64 f = omega arith
plain_most base.ListF64 f = omega arith
plain_most (base.Id wide) form.Absent = omega arith
plain_most (base.Id wide) form.Plain = omega arith
plain_most (base.Id wide) form.Dict8 = omega arith
plain_most (base.Id wide) form.Dict16 = omega arith
plain_most (base.Id wide) form.Wide = omega arith
plain_most (base.Id wide) (form.Coded how) = omega arith

form_most : (holds : Base) (f : ColumnForm) → width_most (width_for holds f) ≤ row_most holds
unfolding width_most
form_most holds form.Dict8 = omega (arith, index_most holds)
form_most holds form.Dict16 = omega (arith, index_most holds)
form_most holds form.Absent = plain_most holds form.Absent
form_most holds form.Plain = plain_most holds form.Plain
form_most holds form.Wide = plain_most holds form.Wide
form_most holds (form.Coded how) = plain_most holds (form.Coded how)

-- ---- texts and lists are as long as they weigh

is_long : Width → Bool
is_long width.Bit = false
is_long (width.Fixed n) = false
is_long width.Var = true
is_long (width.List n) = true

plain_cell : (holds : Base) (f : ColumnForm) (cell : Cell) → is_long (plain_width holds f) ≡ true → IsCellOf holds cell → cell_len (bytes_for holds f cell) ≤ cell_weight cell
unfolding is_long
plain_cell holds f null long is = omega arith
plain_cell holds f (bytes part) long is = omega arith
plain_cell base.U8 f (number z) long is = absurd (false≢true long)
plain_cell base.U8 f (bits n) long is = absurd (false≢true long)
plain_cell base.U8 f (flag b) long is = absurd (false≢true long)
plain_cell base.U16 f (number z) long is = absurd (false≢true long)
plain_cell base.U16 f (bits n) long is = absurd (false≢true long)
plain_cell base.U16 f (flag b) long is = absurd (false≢true long)
plain_cell base.U32 f (number z) long is = absurd (false≢true long)
plain_cell base.U32 f (bits n) long is = absurd (false≢true long)
plain_cell base.U32 f (flag b) long is = absurd (false≢true long)
plain_cell base.U64 f (number z) long is = absurd (false≢true long)
plain_cell base.U64 f (bits n) long is = absurd (false≢true long)
plain_cell base.U64 f (flag b) long is = absurd (false≢true long)
plain_cell base.I32 f (number z) long is = absurd (false≢true long)
plain_cell base.I32 f (bits n) long is = absurd (false≢true long)
plain_cell base.I32 f (flag b) long is = absurd (false≢true long)
plain_cell base.I64 f (number z) long is = absurd (false≢true long)
plain_cell base.I64 f (bits n) long is = absurd (false≢true long)
plain_cell base.I64 f (flag b) long is = absurd (false≢true long)
plain_cell base.Double f (number z) long is = absurd (false≢true long)
plain_cell base.Double f (bits n) long is = absurd (false≢true long)
plain_cell base.Double f (flag b) long is = absurd (false≢true long)
plain_cell base.Bool f (number z) long is = absurd (false≢true long)
plain_cell base.Bool f (bits n) long is = absurd (false≢true long)
plain_cell base.Bool f (flag b) long is = absurd (false≢true long)
plain_cell base.Utf8 f (number z) long is = absurd is
plain_cell base.Utf8 f (bits n) long is = absurd is
plain_cell base.Utf8 f (flag b) long is = absurd (cc)
plain_cell base.Binary f (number z) long is = absurd is
plain_cell base.Binary f (bits n) long is = absurd is
plain_cell base.Binary f (flag b) long is = absurd (cc)
plain_cell base.Fixed16 f (number z) long is = absurd (false≢true long)
plain_cell base.Fixed16 f (bits n) long is = absurd (false≢true long)
plain_cell base.Fixed16 f (flag b) long is = absurd (false≢true long)
plain_cell base.Fixed8 f (number z) long is = absurd (false≢true long)
plain_cell base.Fixed8 f (bits n) long is = absurd (false≢true long)
plain_cell base.Fixed8 f (flag b) long is = absurd (false≢true long)
plain_cell base.Timestamp f (number z) long is = absurd (false≢true long)
plain_cell base.Timestamp f (bits n) long is = absurd (false≢true long)
plain_cell base.Timestamp f (flag b) long is = absurd (false≢true long)
plain_cell base.Duration f (number z) long is = absurd (false≢true long)
plain_cell base.Duration f (bits n) long is = absurd (false≢true long)
plain_cell base.Duration f (flag b) long is = absurd (false≢true long)
plain_cell base.ListU64 f (number z) long is = absurd is
plain_cell base.ListU64 f (bits n) long is = absurd is
plain_cell base.ListU64 f (flag b) long is = absurd (cc)
plain_cell base.ListF64 f (number z) long is = absurd is
plain_cell base.ListF64 f (bits n) long is = absurd is
plain_cell base.ListF64 f (flag b) long is = absurd (cc)
plain_cell (base.Id wide) f (number z) long is = absurd (false≢true long)
plain_cell (base.Id wide) f (bits n) long is = absurd (false≢true long)
plain_cell (base.Id wide) f (flag b) long is = absurd (false≢true long)

long_cell : (holds : Base) (f : ColumnForm) (values : List (List ℕ)) (cell : Cell) → is_long (width_for holds f) ≡ true → IsCellOf holds cell → cell_len (stored_for holds f values cell) ≤ cell_weight cell
unfolding is_long
long_cell holds form.Dict8 values cell long is = absurd (false≢true long)
long_cell holds form.Dict16 values cell long is = absurd (false≢true long)
long_cell holds form.Absent values cell long is = plain_cell holds form.Absent cell long is
long_cell holds form.Plain values cell long is = plain_cell holds form.Plain cell long is
long_cell holds form.Wide values cell long is = plain_cell holds form.Wide cell long is
long_cell holds (form.Coded how) values cell long is = plain_cell holds (form.Coded how) cell long is

long_cells : (g : Cell → Option (List ℕ)) (rows : List (List Cell)) (column : ℕ) → ((row : ℕ) → row < length rows → cell_len (g (cell_in rows column row)) ≤ cell_weight (cell_in rows column row))
    → cells_len (map g (column_in rows column)) ≤ sum_by cell_weight (column_in rows column)
long_cells g [] column each = omega arith
long_cells g (r ∷ rows) column each =
    omega (
      arith,
      each 0 (omega arith),
      long_cells g rows column (λ row low. each (suc row) (omega (arith, low))),
      sum_by-cons cell_len (g (get_or r column null)) (map g (column_in rows column)),
      sum_by-cons cell_weight (get_or r column null) (column_in rows column),
    )

-- ---- the buffers of a column

pub padded_short : (n : ℕ) → padded n ≤ n + 7
padded_short n = omega arith

bits_short : (rows : ℕ) → padded ((rows + 7) / 8) ≤ rows + 7
bits_short rows = omega arith

validity_short : (nulls rows : ℕ) → padded (validity_len nulls rows) ≤ rows + 7
validity_short nulls rows = by (nulls == 0) refl
  where
    by : (b : Bool) → (nulls == 0) ≡ b → padded (validity_len nulls rows) ≤ rows + 7
    by true is = rw is (omega arith)
    by false is = rw is (bits_short rows)

one_more : (n rows : ℕ) → rows * (n + 1) ≡ rows * n + rows
one_more n rows = grind arith

grown : (a b rows : ℕ) → a ≤ b → rows * a ≤ b * rows
grown a b rows low = grind arith

module _ (f : ColumnForm) (values : List (List ℕ)) (t : Table) (column : ℕ) (table : IsTable t) where
  cells_short : is_long (width_for (base_at t.kind column) f) ≡ true → cells_len (stored_column f values t column) ≤ column_weight t column
  unfolding stored_column
  cells_short long =
      long_cells (stored_for (base_at t.kind column) f values) t.rows column (λ row low. long_cell (base_at t.kind column) f values (cell_in t.rows column row) long (table.fits column row))

  by_width : (w : Width) (nulls : ℕ) → width_for (base_at t.kind column) f ≡ w
      → padded (validity_len nulls (length t.rows)) + padded (offsets_len w (length t.rows)) + padded (values_len w (stored_column f values t column)) ≤ length t.rows * width_most w + column_weight t column + 32
  unfolding width_most is_long
  by_width width.Bit nulls same =
      let count : length (stored_column f values t column) ≡ length t.rows = stored_len f values t column in
      let size : padded ((length (stored_column f values t column) + 7) / 8) ≤ length t.rows + 7 = rw count (bits_short (length t.rows)) in
      omega (arith, validity_short nulls (length t.rows), size)
  by_width (width.Fixed n) nulls same =
      let count : length (stored_column f values t column) * n ≡ length t.rows * n = ap (λ (k : ℕ). k * n) (stored_len f values t column) in
      omega (arith, validity_short nulls (length t.rows), padded_short (length (stored_column f values t column) * n), count, one_more n (length t.rows))
  by_width width.Var nulls same =
      omega (arith, validity_short nulls (length t.rows), padded_short (4 * (length t.rows + 1)), padded_short (cells_len (stored_column f values t column)), cells_short (ap is_long same))
  by_width (width.List n) nulls same =
      omega (arith, validity_short nulls (length t.rows), padded_short (4 * (length t.rows + 1)), padded_short (cells_len (stored_column f values t column)), cells_short (ap is_long same))

  -- THE BUFFERS OF A COLUMN
  pub column_short : (b : Buffers) (built : ColumnIn) → built ≡ record { width = width_for (base_at t.kind column) f; cells = stored_column f values t column } → b.rows ≡ length built.cells
      → length b.validity.items ≡ validity_len b.nulls b.rows → length b.offsets.items ≡ offsets_len built.width b.rows → length b.values.items ≡ values_len built.width built.cells
      → padded (length b.validity.items) + padded (length b.offsets.items) + padded (length b.values.items) ≤ column_most t column
  column_short b built is rows bitmap places part =
      let w = width_for (base_at t.kind column) f in
      let count : b.rows ≡ length t.rows = rows ∙ ap (λ (c : ColumnIn). length c.cells) is ∙ stored_len f values t column in
      omega (
        arith,
        ap padded (bitmap ∙ ap (validity_len b.nulls) count),
        ap padded (places ∙ (λ i. offsets_len (is i).width (count i))),
        ap padded (part ∙ ap (λ (c : ColumnIn). values_len c.width c.cells) is),
        by_width w b.nulls refl,
        grown (width_most w) (row_most (base_at t.kind column)) (length t.rows) (form_most (base_at t.kind column) f),
      )
