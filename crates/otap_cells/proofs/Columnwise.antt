-- A table kept column by column: rows added, cells written.
use Rattle.std.proofs.Common.{◌≡◌, ℕ, zero, suc, true, pos, negsuc, ◌+◌, ◌-◌, ◌≤◌, ◌<◌, List, [], ◌∷◌, ◌++◌, length, get_or, set, replicate, map, refl, sym, ◌∙◌, ap, subst, inl, inr, arith, length-set, length-append}
use Rattle.std.specs.List.{range_with_len}
use Rattle.std.proofs.lemmas.Bool.{cases_eq, cases_lt}
use Rattle.std.proofs.lemmas.List.{get_or_past, get_or_default, get_or-set_same, get_or-set_other, length-replicate}
use Rattle.std.proofs.lemmas.List.FromFn.{length-range_with_len}
use Rattle.otap_cells.specs.declared.payload.Kind.{Kind}
use Rattle.otap_cells.specs.declared.profile.Base.{Base}
use Rattle.otap_cells.specs.declared.profile.Base.TheVariants as base
use Rattle.otap_cells.specs.declared.profile.Coding.{Coding}
use Rattle.otap_cells.specs.declared.profile.Coding.TheVariants as coding
use Rattle.otap_cells.specs.Bases.{is_id}
use Rattle.otap_cells.specs.Cells.{Cell, null, number, bits, flag, bytes, nat_in, IsCellOf}
use Rattle.otap_cells.specs.Columns.{ColumnSpec, base_at, column_at, coding_at, is_id_at, width_of, is_run, allows}
use Rattle.otap_cells.specs.Tables.{Table, IsTable, cell_in, coding_in, greatest_in, greatest_wide, row_by, rows_by, table_by, profile_table, by_columns, with_cell, null_row}
use Rattle.otap_cells.specs.Kept.{IsKept, kept_table}
use Rattle.otap_cells.proofs.ByPlace.{rows_by-more, rows_by-with_cell, cell_in-beyond, cell_in-rows_by, IsTable-table_by, kind-table_by, rows-table_by, count-table_by, coding-table_by, greatest-table_by}

-- columns that read the same have the same cells
pub same_cells : (columns later : List (List Cell)) → ((column : ℕ) → get_or later column [] ≡ get_or columns column []) → by_columns later ≡ by_columns columns
same_cells columns later same = λ i column row. get_or (same column i) row null

nulls : (columns : List ℕ) → map (λ _. null) columns ≡ replicate (length columns) null
nulls [] = refl
nulls (column ∷ columns) = ap (λ cells. null ∷ cells) (nulls columns)

-- a row after the last one is null in each column
pub row_added : (kind : Kind) (n : ℕ) (columns : List (List Cell)) (t : Table) → IsKept kind n columns → kept_table kind n columns ≡ t
    → kept_table kind (n + 1) columns ≡ record t { rows = t.rows ++ null_row t.kind ∷ [] }
unfolding table_by
row_added kind n columns t kept is =
    (λ i. profile_table kind (added i)) ∙ ap {B = Table} (λ t. record t { rows = t.rows ++ null_row t.kind ∷ [] }) is
  where
    all_null : row_by kind (by_columns columns) n ≡ null_row kind
    all_null = (λ i. map (λ column. get_or_past (get_or columns column []) n null (kept.short column) i) (range_with_len 0 (width_of kind)))
        ∙ nulls (range_with_len 0 (width_of kind)) ∙ ap (λ n. replicate n null) (length-range_with_len 0 (width_of kind))

    added : rows_by kind (n + 1) (by_columns columns) ≡ rows_by kind n (by_columns columns) ++ null_row kind ∷ []
    added = rows_by-more kind n (by_columns columns) ∙ ap (λ row. rows_by kind n (by_columns columns) ++ row ∷ []) all_null

-- nulls after a column's cells read as the column did
pub nulls_read : (p k : ℕ) → get_or (replicate p null) k null ≡ null
nulls_read zero k = refl
nulls_read (suc p) zero = refl
nulls_read (suc p) (suc k) = nulls_read p k

pub padded_reads : (cells : List Cell) (p k : ℕ) → get_or (cells ++ replicate p null) k null ≡ get_or cells k null
padded_reads [] p k = nulls_read p k
padded_reads (cell ∷ cells) p zero = refl
padded_reads (cell ∷ cells) p (suc k) = padded_reads cells p k

-- a column allows the way in which the profile itself stores its ids
pub allows_own : (c : ColumnSpec) → is_id c.base ≡ true → allows c c.coding ≡ true
allows_own c is = each c.coding refl
  where
    each : (how : Coding) → c.coding ≡ how → allows c how ≡ true
    each coding.Plain same = is
    each coding.Delta same = is
    each coding.Run same = ap is_run same

-- a number of 32 bits is at most the greatest
pub id_at_most : (holds : Base) (cell : Cell) → is_id holds ≡ true → IsCellOf holds cell → nat_in cell ≤ greatest_wide
id_at_most (base.Id wide) (number (pos n)) is fits = omega (arith, fits)
id_at_most (base.Id wide) (number (negsuc n)) is fits = omega arith
id_at_most base.U8 (number n) is fits = cc
id_at_most base.U16 (number n) is fits = cc
id_at_most base.U32 (number n) is fits = cc
id_at_most base.U64 (number n) is fits = cc
id_at_most base.I32 (number n) is fits = cc
id_at_most base.I64 (number n) is fits = cc
id_at_most base.Double (number n) is fits = cc
id_at_most base.Bool (number n) is fits = cc
id_at_most base.Utf8 (number n) is fits = cc
id_at_most base.Binary (number n) is fits = cc
id_at_most base.Fixed16 (number n) is fits = cc
id_at_most base.Fixed8 (number n) is fits = cc
id_at_most base.Timestamp (number n) is fits = cc
id_at_most base.Duration (number n) is fits = cc
id_at_most base.ListU64 (number n) is fits = cc
id_at_most base.ListF64 (number n) is fits = cc
id_at_most holds null is fits = omega arith
id_at_most holds (bits n) is fits = omega arith
id_at_most holds (flag b) is fits = omega arith
id_at_most holds (bytes part) is fits = omega arith

-- a table is of the kind, and has the rows, by which its cells are kept
module _ (kind : Kind) (n : ℕ) (columns : List (List Cell)) (t : Table) (is_table : kept_table kind n columns ≡ t) where
  pub same_kind : kind ≡ t.kind
  same_kind = sym (kind-table_by kind (coding_at kind) (λ column. greatest_wide) n (by_columns columns)) ∙ ap (λ t. t.kind) is_table

  pub same_count : n ≡ length t.rows
  same_count = sym (count-table_by kind (coding_at kind) (λ column. greatest_wide) n (by_columns columns)) ∙ ap (λ t. length t.rows) is_table

  pub in_width : (column : ℕ) → column < width_of t.kind → column < width_of kind
  in_width column there = rw same_kind there

  pub in_columns : IsKept kind n columns → (column : ℕ) → column < width_of t.kind → 0 < length t.rows → column < length columns
  in_columns kept column there some = let all : length columns ≡ width_of kind = kept.there (omega (arith, same_count)) in rw (all, same_kind) there

  pub is_sound : IsKept kind n columns → IsTable t
  is_sound kept = subst IsTable is_table (IsTable-table_by kind (coding_at kind) (λ column. greatest_wide) n (by_columns columns) kept.fits
      (λ column is. allows_own (column_at kind column) is)
      (λ column row is. id_at_most (base_at kind column) (by_columns columns column row) is (kept.fits column row)))

  pub id_here : (column : ℕ) → is_id_at t.kind column ≡ true → is_id_at kind column ≡ true
  id_here column is = rw same_kind is

  pub shows_coding : (column : ℕ) → is_id_at t.kind column ≡ true → (x : Coding) → x ≡ coding_at kind column → x ≡ coding_in t column
  shows_coding column is x own =
      own ∙ sym (coding-table_by kind (coding_at kind) (λ column. greatest_wide) n (by_columns columns) column (id_here column is)) ∙ ap (λ t. coding_in t column) is_table

  pub shows_greatest : (column : ℕ) → is_id_at t.kind column ≡ true → (x : ℕ) → x ≡ greatest_wide → x ≡ greatest_in t column
  shows_greatest column is x own =
      own ∙ sym (greatest-table_by kind (coding_at kind) (λ column. greatest_wide) n (by_columns columns) column (id_here column is)) ∙ ap (λ t. greatest_in t column) is_table

  pub shows : (column row : ℕ) (x : Cell) → x ≡ by_columns columns column row → column < width_of t.kind → row < length t.rows → x ≡ cell_in t.rows column row
  shows column row x found there within =
      found ∙ sym (cell_in-rows_by kind n (by_columns columns) column row (in_width column there) (omega (arith, same_count)))
      ∙ ap (λ rows. cell_in rows column row) (sym (rows-table_by kind (coding_at kind) (λ column. greatest_wide) n (by_columns columns))) ∙ ap (λ t. cell_in t.rows column row) is_table

  pub holds : IsKept kind n columns → (column row : ℕ) (x : Cell) → x ≡ by_columns columns column row → IsCellOf (base_at t.kind column) x
  holds kept column row x found = rw (found, ← same_kind) (kept.fits column row)

  -- in the rows past a column's cells it is null
  pub null_past : (column row : ℕ) → length (get_or columns column []) ≤ row → cell_in t.rows column row ≡ null
  null_past column row past =
      ap (λ t. cell_in t.rows column row) (sym is_table)
      ∙ ap (λ rows. cell_in rows column row) (rows-table_by kind (coding_at kind) (λ column. greatest_wide) n (by_columns columns))
      ∙ elim (cases_lt column (width_of kind)) [
        | inl there ↦ elim (cases_lt row n) [
          | inl within ↦ cell_in-rows_by kind n (by_columns columns) column row there within ∙ get_or_past (get_or columns column []) row null past
          | inr low ↦ cell_in-beyond kind n (by_columns columns) column row (inr low)
        ]
        | inr wide ↦ cell_in-beyond kind n (by_columns columns) column row (inl wide)
      ]

  pub fits_past : IsKept kind n columns → (column : ℕ) → column < width_of t.kind → 0 < length t.rows
      → (cells d : List Cell) → cells ≡ get_or columns column d → length cells ≤ n - 1 + 1
  fits_past kept column there some cells d is =
      let reads : cells ≡ get_or columns column [] = is ∙ get_or_default columns column d [] (in_columns kept column there some) in
      let short : length cells ≤ n = rw reads (kept.short column) in
      omega (arith, same_count)

  pub shows_kept : IsKept kind n columns → (column row : ℕ) → column < width_of t.kind → row < length t.rows
      → (cells d : List Cell) (x : Cell) → cells ≡ get_or columns column d → x ≡ get_or cells row null → x ≡ by_columns columns column row
  shows_kept kept column row there within cells d x is found =
      found ∙ ap (λ cells. get_or cells row null) (is ∙ get_or_default columns column d [] (in_columns kept column there (omega arith)))

-- columns without cells that come after
pub widened : (kind : Kind) (n : ℕ) (columns later : List (List Cell)) → IsKept kind n columns
    → ((column : ℕ) → get_or later column [] ≡ get_or columns column []) → length columns ≤ length later → length later ≤ width_of kind → IsKept kind n later
widened kind n columns later kept same grows few = record {
  few = few;
  there = λ some. let all : length columns ≡ width_of kind = kept.there some in omega arith;
  short = λ column. rw (same column) (kept.short column);
  fits = λ column row. rw (same column) (kept.fits column row);
}

pub one_more : (kind : Kind) (n : ℕ) (columns : List (List Cell)) → IsKept kind n columns → length columns ≡ width_of kind → IsKept kind (n + 1) columns
one_more kind n columns kept all = record {
  few = kept.few;
  there = λ _. all;
  short = λ column. let short : length (get_or columns column []) ≤ n = kept.short column in omega arith;
  fits = kept.fits;
}

-- a cell written in the last row: the column that was read, with the cell after nulls where there were too few
module _ (kind : Kind) (n : ℕ) (columns : List (List Cell)) (t : Table) (is_table : kept_table kind n columns ≡ t)
    (kept : IsKept kind n columns) (column : ℕ) (inside : column < width_of t.kind) (some_rows : 0 < length t.rows)
    (cells later d : List Cell) (x : Cell) (is : cells ≡ get_or columns column d)
    (written : later ≡ set (cells ++ replicate (n - 1 + 1 - length cells) null) (n - 1) x) where
  abbrev old : ℕ → ℕ → Cell
  old = by_columns columns

  abbrev new : ℕ → ℕ → Cell
  new = by_columns (set columns column later)

  abbrev padded : List Cell
  padded = cells ++ replicate (n - 1 + 1 - length cells) null

  some : 0 < n
  some = omega (arith, same_count kind n columns t is_table)

  in_place : column < length columns
  in_place = in_columns kind n columns t is_table kept column inside some_rows

  reads : cells ≡ get_or columns column []
  reads = is ∙ get_or_default columns column d [] in_place

  length-padded : length padded ≡ n
  length-padded = length-append cells (replicate (n - 1 + 1 - length cells) null)
      ∙ ap (λ m. length cells + m) (length-replicate (n - 1 + 1 - length cells) null)
      ∙ (let short : length cells ≤ n = rw reads (kept.short column) in omega (arith, some))

  in_later : get_or (set columns column later) column [] ≡ set padded (n - 1) x
  in_later = get_or-set_same columns column later [] in_place ∙ written

  here : new column (n - 1) ≡ x
  here = ap (λ cells. get_or cells (n - 1) null) in_later ∙ get_or-set_same padded (n - 1) x null (omega (arith, length-padded, some))

  elsewhere : (other row : ℕ) → (row ≡ n - 1 → other ≡ column → ⊥) → new other row ≡ old other row
  elsewhere other row differs = elim (cases_eq other column) [
    | inl same ↦ ap (λ c. new c row) same ∙ ap (λ cells. get_or cells row null) in_later
        ∙ get_or-set_other padded (n - 1) row x null (λ last. differs last same)
        ∙ padded_reads cells (n - 1 + 1 - length cells) row ∙ ap (λ cells. get_or cells row null) reads ∙ ap (λ c. old c row) (sym same)
    | inr apart ↦ ap (λ cells. get_or cells row null) (get_or-set_other columns column other later [] apart)
  ]

  pub one_kept : IsCellOf (base_at t.kind column) x → IsKept kind n (set columns column later)
  one_kept fits = record {
    few = rw (length-set columns column later) kept.few;
    there = λ _. length-set columns column later ∙ kept.there some;
    short = λ other. elim (cases_eq other column) [
      | inl same ↦ rw (same, in_later, length-set padded (n - 1) x, length-padded) (omega arith)
      | inr apart ↦ rw (get_or-set_other columns column other later [] apart) (kept.short other)
    ];
    fits = λ other row. elim (cases_eq row (n - 1)) [
      | inl last ↦ elim (cases_eq other column) [
        | inl same ↦ rw (same, last, here, same_kind kind n columns t is_table) fits
        | inr apart ↦ rw (elsewhere other row (λ _. apart)) (kept.fits other row)
      ]
      | inr low ↦ rw (elsewhere other row (λ last _. low last)) (kept.fits other row)
    ];
  }

  pub one_shown : kept_table kind n (set columns column later) ≡ record t { rows = with_cell column x t.rows }
  unfolding table_by
  one_shown = (λ i. profile_table kind (rows_by-with_cell kind n old new column x (in_width kind n columns t is_table column inside) some here elsewhere i))
      ∙ ap {B = Table} (λ t. record t { rows = with_cell column x t.rows }) is_table
