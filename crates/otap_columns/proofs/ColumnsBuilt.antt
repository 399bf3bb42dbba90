-- A column of a table that is built row by row.
use Rattle.std.proofs.Common.{◌≡◌, ℕ, suc, zero, ◌+◌, ◌<◌, ◌≤◌, Bool, true, false, List, [], ◌∷◌, ◌++◌, length, take, get_or, map, Option, Some, None, refl, sym, ap, ◌∙◌, subst, arith, inl, inr, replicate}
use Rattle.std.specs.Prelude.{ℤ, option_map, if◌then◌else◌, unsigned_abs}
use Rattle.std.specs.Int.{w32, w64, cast_unsigned}
use Rattle.std.specs.Option.{ForSome}
use Rattle.std.proofs.lemmas.Bool.{cases_lt}
use Rattle.std.proofs.lemmas.List.{get_or_past, length-map, take_more}
use Rattle.std.proofs.lemmas.List.Sums.{sum_by-take-le, sum_by_push}
use Rattle.byteorder.specs.Endian.{little_bytes}
use Rattle.lists.proofs.Parts.{nones_first}
use Rattle.arrow_buffers.specs.declared.width.Width.TheVariants as width
use Rattle.arrow_buffers.specs.Columns.{HasWidth, cell_len, cells_len}
use Rattle.otap_cells.specs.declared.profile.Base.{Base}
use Rattle.otap_cells.specs.declared.profile.Base.TheVariants as base
use Rattle.otap_cells.specs.Cells.{Cell, null, number, bits, flag, bytes, IsNumberOf, IsBitsOf, IsBytesOf, IsCellOf}
use Rattle.otap_cells.specs.Columns.{base_at}
use Rattle.otap_cells.specs.Tables.{Table, cell_in, column_in}
use Rattle.otap_columns.specs.declared.forms.ColumnForm.{ColumnForm}
use Rattle.otap_columns.specs.declared.forms.ColumnForm.TheVariants as form
use Rattle.otap_columns.specs.Observed.{id_width, bytes_of_number, bytes_for}
use Rattle.otap_columns.specs.Schemas.{is_dictionary}
use Rattle.otap_columns.specs.WrittenCells.{place_among, stored_for, stored_column}
use Rattle.otap_columns.specs.BuiltCells.{index_size, plain_width}
use Rattle.otap_columns.proofs.CellsBack.{length-little_bytes}

-- ---- each cell has its column's width

number_width : (holds : Base) (f : ColumnForm) (z : ℤ) → IsNumberOf holds z → HasWidth (plain_width holds f) (bytes_of_number holds f z)
number_width base.U8 f z is = length-little_bytes 1 (unsigned_abs z)
number_width base.U16 f z is = length-little_bytes 2 (unsigned_abs z)
number_width base.U32 f z is = length-little_bytes 4 (unsigned_abs z)
number_width base.I32 f z is = length-little_bytes 4 (cast_unsigned w32 z)
number_width base.I64 f z is = length-little_bytes 8 (cast_unsigned w64 z)
number_width (base.Id wide) f z is = length-little_bytes (id_width f) (unsigned_abs z)
number_width base.U64 f z is = absurd is
number_width base.Double f z is = absurd is
number_width base.Bool f z is = absurd is
number_width base.Utf8 f z is = absurd is
number_width base.Binary f z is = absurd is
number_width base.Fixed16 f z is = absurd is
number_width base.Fixed8 f z is = absurd is
number_width base.Timestamp f z is = absurd is
number_width base.Duration f z is = absurd is
number_width base.ListU64 f z is = absurd is
number_width base.ListF64 f z is = absurd is

bits_width : (holds : Base) (f : ColumnForm) (n : ℕ) → IsBitsOf holds n → HasWidth (plain_width holds f) (little_bytes 8 n)
bits_width base.U64 f n is = length-little_bytes 8 n
bits_width base.Double f n is = length-little_bytes 8 n
bits_width base.Timestamp f n is = length-little_bytes 8 n
bits_width base.Duration f n is = length-little_bytes 8 n
bits_width base.U8 f n is = absurd is
bits_width base.U16 f n is = absurd is
bits_width base.U32 f n is = absurd is
bits_width base.I32 f n is = absurd is
bits_width base.I64 f n is = absurd is
bits_width base.Bool f n is = absurd is
bits_width base.Utf8 f n is = absurd is
bits_width base.Binary f n is = absurd is
bits_width base.Fixed16 f n is = absurd is
bits_width base.Fixed8 f n is = absurd is
bits_width base.ListU64 f n is = absurd is
bits_width base.ListF64 f n is = absurd is
bits_width (base.Id wide) f n is = absurd is

bytes_width : (holds : Base) (f : ColumnForm) (part : List ℕ) → IsBytesOf holds part → HasWidth (plain_width holds f) part
bytes_width base.Utf8 f part is = tt
bytes_width base.Binary f part is = tt
bytes_width base.Fixed16 f part is = is
bytes_width base.Fixed8 f part is = is
bytes_width base.ListU64 f part is = is
bytes_width base.ListF64 f part is = is
bytes_width base.U8 f part is = absurd is
bytes_width base.U16 f part is = absurd is
bytes_width base.U32 f part is = absurd is
bytes_width base.U64 f part is = absurd is
bytes_width base.I32 f part is = absurd is
bytes_width base.I64 f part is = absurd is
bytes_width base.Double f part is = absurd is
bytes_width base.Bool f part is = absurd is
bytes_width base.Timestamp f part is = absurd is
bytes_width base.Duration f part is = absurd is
bytes_width (base.Id wide) f part is = absurd is

flag_width : (b : Bool) → HasWidth width.Bit ((if b then 1 else 0) ∷ [])
flag_width true = (refl, omega arith)
flag_width false = (refl, omega arith)

pub plain_fits : (holds : Base) (f : ColumnForm) (cell : Cell) → IsCellOf holds cell → ForSome (bytes_for holds f cell) (HasWidth (plain_width holds f))
plain_fits holds f null is = λ x some. absurd (cc)
plain_fits holds f (number z) is = λ x some. let same : bytes_of_number holds f z ≡ x = cc in subst (HasWidth (plain_width holds f)) same (number_width holds f z is)
plain_fits holds f (bits n) is = λ x some. let same : little_bytes 8 n ≡ x = cc in subst (HasWidth (plain_width holds f)) same (bits_width holds f n is)
plain_fits holds f (flag b) is = λ x some.
    let same : (if b then 1 else 0) ∷ [] ≡ x = cc in
    subst (HasWidth (plain_width holds f)) same (subst (λ (h : Base). HasWidth (plain_width h f) ((if b then 1 else 0) ∷ [])) (sym is) (flag_width b))
plain_fits holds f (bytes part) is = λ x some. let same : part ≡ x = cc in subst (HasWidth (plain_width holds f)) same (bytes_width holds f part is)

-- ---- what is written for a cell, by its form

pub plain_stored : (holds : Base) (f : ColumnForm) (values : List (List ℕ)) (cell : Cell) → is_dictionary f ≡ false → bytes_for holds f cell ≡ stored_for holds f values cell
plain_stored holds form.Absent values cell plain = refl
plain_stored holds form.Plain values cell plain = refl
plain_stored holds form.Wide values cell plain = refl
plain_stored holds (form.Coded how) values cell plain = refl
plain_stored holds form.Dict8 values cell plain = cc
plain_stored holds form.Dict16 values cell plain = cc

pub index_stored : (holds : Base) (f : ColumnForm) (values : List (List ℕ)) (cell : Cell) → is_dictionary f ≡ true
    → option_map (little_bytes (index_size f)) (place_among values (bytes_for holds f cell)) ≡ stored_for holds f values cell
index_stored holds form.Dict8 values cell dictionary = refl
index_stored holds form.Dict16 values cell dictionary = refl
index_stored holds form.Absent values cell dictionary = cc
index_stored holds form.Plain values cell dictionary = cc
index_stored holds form.Wide values cell dictionary = cc
index_stored holds (form.Coded how) values cell dictionary = cc

pub plain_column : (f : ColumnForm) (values : List (List ℕ)) (t : Table) (column : ℕ) → is_dictionary f ≡ false → stored_column f [] t column ≡ stored_column f values t column
unfolding stored_column
plain_column form.Absent values t column plain = refl
plain_column form.Plain values t column plain = refl
plain_column form.Wide values t column plain = refl
plain_column (form.Coded how) values t column plain = refl
plain_column form.Dict8 values t column plain = cc
plain_column form.Dict16 values t column plain = cc

-- ---- row by row

pub cell_at-map : (g : Cell → Option (List ℕ)) (rows : List (List Cell)) (column row : ℕ) → row < length rows → get_or (map g (column_in rows column)) row None ≡ g (cell_in rows column row)
cell_at-map g [] column row low = absurd (omega arith)
cell_at-map g (r ∷ rows) column zero low = refl
cell_at-map g (r ∷ rows) column (suc row) low = cell_at-map g rows column row (omega arith)

module _ (f : ColumnForm) (values : List (List ℕ)) (t : Table) (column : ℕ) where
  pub stored_len : length (stored_column f values t column) ≡ length t.rows
  unfolding stored_column
  stored_len = length-map (column_in t.rows column) (stored_for (base_at t.kind column) f values) ∙ length-map t.rows (λ row. get_or row column null)

  pub stored_at : (row : ℕ) → row < length t.rows → get_or (stored_column f values t column) row None ≡ stored_for (base_at t.kind column) f values (cell_in t.rows column row)
  unfolding stored_column
  stored_at row low = cell_at-map (stored_for (base_at t.kind column) f values) t.rows column row low

  pub stored_more : (row : ℕ) (x : Option (List ℕ)) → row < length t.rows → x ≡ stored_for (base_at t.kind column) f values (cell_in t.rows column row)
      → take row (stored_column f values t column) ++ x ∷ [] ≡ take (row + 1) (stored_column f values t column)
  stored_more row x low is =
      let inside : row < length (stored_column f values t column) = omega (arith, stored_len) in
      sym (take_more (stored_column f values t column) row None inside ∙ ap (λ y. take row (stored_column f values t column) ++ y ∷ []) (stored_at row low ∙ sym is))

  pub stored_room : (row : ℕ) (x : Option (List ℕ)) → row < length t.rows → x ≡ stored_for (base_at t.kind column) f values (cell_in t.rows column row)
      → cells_len (take row (stored_column f values t column)) + cell_len x ≤ cells_len (stored_column f values t column)
  stored_room row x low is =
      let sum : cells_len (take row (stored_column f values t column) ++ x ∷ []) ≡ cells_len (take row (stored_column f values t column)) + cell_len x =
      sum_by_push cell_len (take row (stored_column f values t column)) x in
      let more = stored_more row x low is in
      let short = sum_by-take-le cell_len (stored_column f values t column) (row + 1) in
      omega (arith, sum, ap cells_len more, short)

-- ---- nulls at the end

nones_at_end : (k n : ℕ) (cells : List (Option (List ℕ))) → ((row : ℕ) → k ≤ row → get_or cells row None ≡ None) → k + n ≡ length cells → take k cells ++ replicate n None ≡ cells
nones_at_end zero n cells none all =
    let same : n ≡ length cells = omega (arith, all) in
    ap (λ (m : ℕ). replicate m None) same ∙ nones cells (λ k. none k (omega arith))
  where
    nones : (cells : List (Option (List ℕ))) → ((k : ℕ) → get_or cells k None ≡ None) → replicate (length cells) None ≡ cells
    nones [] none = refl
    nones (None ∷ cells) none = ap (λ (xs : List (Option (List ℕ))). None ∷ xs) (nones cells (λ k. none (suc k)))
    nones (Some value ∷ cells) none = absurd (let wrong : Some value ≡ None = none 0 in cc)
nones_at_end (suc k) n [] none all = absurd (omega (arith, all))
nones_at_end (suc k) n (x ∷ cells) none all = ap (λ (xs : List (Option (List ℕ))). x ∷ xs) (nones_at_end k n cells (λ row le. none (suc row) (omega (arith, le))) (omega (arith, all)))

-- the rows before the first one that was set
pub nulls_first : (f : ColumnForm) (t : Table) (column k : ℕ) → is_dictionary f ≡ false
    → ((row : ℕ) → row < k → cell_in t.rows column row ≡ null) → k ≤ length t.rows → replicate k None ≡ take k (stored_column f [] t column)
nulls_first f t column k plain none low =
    nones_first k (stored_column f [] t column)
    (λ row lt.
    stored_at f [] t column row (omega (arith, lt, low))
    ∙ sym (plain_stored (base_at t.kind column) f [] (cell_in t.rows column row) plain)
    ∙ ap (bytes_for (base_at t.kind column) f) (none row lt))
    (omega (arith, low, stored_len f [] t column))

-- where no cell was set from a row on, the values of the rows before it and nulls are the column
module _ (f : ColumnForm) (t : Table) (column k : ℕ) (plain : is_dictionary f ≡ false) (none : (row : ℕ) → k ≤ row → cell_in t.rows column row ≡ null) where
  stored_null : (row : ℕ) → k ≤ row → get_or (stored_column f [] t column) row None ≡ None
  stored_null row le = elim (cases_lt row (length t.rows)) [
    | inl low ↦
        stored_at f [] t column row low
        ∙ sym (plain_stored (base_at t.kind column) f [] (cell_in t.rows column row) plain)
        ∙ ap (bytes_for (base_at t.kind column) f) (none row le)
    | inr past ↦ get_or_past (stored_column f [] t column) row None (omega (arith, past, stored_len f [] t column))
  ]

  pub stored_to_last : (n : ℕ) → k + n ≡ length t.rows → take k (stored_column f [] t column) ++ replicate n None ≡ stored_column f [] t column
  stored_to_last n all = nones_at_end k n (stored_column f [] t column) stored_null (omega (arith, all, stored_len f [] t column))
