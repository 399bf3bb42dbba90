-- Tables that are given by their cells, column by column and row by row.
use Rattle.std.proofs.Common.{◌≡◌, ℕ, true, ◌+◌, ◌-◌, ◌≤◌, ◌<◌, List, [], ◌∷◌, ◌++◌, length, get_or, set, map, refl, sym, ◌∙◌, ap, inl, inr, ◌⊎◌, arith, length-set}
use Rattle.std.specs.List.{range_with_len}
use Rattle.std.proofs.lemmas.Bool.{false≢true, cases_lt, cases_eq}
use Rattle.std.proofs.lemmas.List.{get_or_past, get_or-set_other}
use Rattle.std.proofs.lemmas.Grind.{get_or-set_at}
use Rattle.std.proofs.lemmas.List.Elements.{All-from_get_or}
use Rattle.std.proofs.lemmas.List.FromFn.{length-map-range_with_len, get_or-map-range_with_len, map-range_with_len_more, fill_by_all}
use Rattle.otap_cells.specs.declared.payload.Kind.{Kind}
use Rattle.otap_cells.specs.declared.profile.Coding.{Coding}
use Rattle.otap_cells.specs.Cells.{Cell, null, nat_in, IsCellOf}
use Rattle.otap_cells.specs.declared.profile.Base.TheVariants as base
use Rattle.otap_cells.specs.Bases.{is_id}
use Rattle.otap_cells.specs.Columns.{plain, columns_of, base_at, column_at, width_of, is_id_at, allows}
use Rattle.otap_cells.specs.Tables.{IsTable, cell_in, row_by, rows_by, each_column, table_by, with_cell, coding_in, greatest_in}

module _ (kind : Kind) (count : ℕ) (cell : ℕ → ℕ → Cell) where
  pub length-rows_by : length (rows_by kind count cell) ≡ count
  length-rows_by = length-map-range_with_len (row_by kind cell) 0 count

  pub get_or-rows_by : (row : ℕ) → row < count → get_or (rows_by kind count cell) row [] ≡ row_by kind cell row
  get_or-rows_by row within = get_or-map-range_with_len (row_by kind cell) 0 count row row [] within (omega arith)

pub length-row_by : (kind : Kind) (cell : ℕ → ℕ → Cell) (row : ℕ) → length (row_by kind cell row) ≡ width_of kind
length-row_by kind cell row = length-map-range_with_len (λ column. cell column row) 0 (width_of kind)

pub get_or-row_by : (kind : Kind) (cell : ℕ → ℕ → Cell) (column row : ℕ) → column < width_of kind → get_or (row_by kind cell row) column null ≡ cell column row
get_or-row_by kind cell column row within = get_or-map-range_with_len (λ column. cell column row) 0 (width_of kind) column column null within (omega arith)

-- the cell of each row and column is the one that was given
pub cell_in-rows_by : (kind : Kind) (count : ℕ) (cell : ℕ → ℕ → Cell) (column row : ℕ) → column < width_of kind → row < count
    → cell_in (rows_by kind count cell) column row ≡ cell column row
cell_in-rows_by kind count cell column row there within =
    ap (λ cells. get_or cells column null) (get_or-rows_by kind count cell row within) ∙ get_or-row_by kind cell column row there

-- and null past the rows or the columns
pub cell_in-beyond : (kind : Kind) (count : ℕ) (cell : ℕ → ℕ → Cell) (column row : ℕ) → (width_of kind ≤ column) ⊎ (count ≤ row)
    → cell_in (rows_by kind count cell) column row ≡ null
cell_in-beyond kind count cell column row (inr low) =
    ap (λ cells. get_or cells column null) (get_or_past (rows_by kind count cell) row [] (omega (arith, length-rows_by kind count cell)))
cell_in-beyond kind count cell column row (inl wide) =
    elim (cases_lt row count) [
      | inl within ↦ ap (λ cells. get_or cells column null) (get_or-rows_by kind count cell row within)
          ∙ get_or_past (row_by kind cell row) column null (omega (arith, length-row_by kind cell row))
      | inr low ↦ ap (λ cells. get_or cells column null) (get_or_past (rows_by kind count cell) row [] (omega (arith, length-rows_by kind count cell)))
    ]

-- what a function gives a column
given : {A : Type 0} (f : ℕ → A) (kind : Kind) (column : ℕ) (d : A) → column < width_of kind → get_or (each_column kind f) column d ≡ f column
given f kind column d there = get_or-map-range_with_len f 0 (width_of kind) column column d there (omega arith)

-- a column of ids is there
pub id_within : (kind : Kind) (column : ℕ) → is_id_at kind column ≡ true → column < width_of kind
id_within kind column is = elim (cases_lt column (width_of kind)) [
  | inl there ↦ there
  | inr wide ↦ absurd (false≢true (sym (ap (λ c. is_id c.base) (get_or_past (columns_of kind) column (plain [] base.Binary) wide)) ∙ is))
]

-- cells of their columns' bases make a table, where ids are stored in ways that their columns allow and none is above the greatest
pub IsTable-table_by : (kind : Kind) (coding : ℕ → Coding) (greatest : ℕ → ℕ) (count : ℕ) (cell : ℕ → ℕ → Cell)
    → ((column row : ℕ) → IsCellOf (base_at kind column) (cell column row))
    → ((column : ℕ) → is_id_at kind column ≡ true → allows (column_at kind column) (coding column) ≡ true)
    → ((column row : ℕ) → is_id_at kind column ≡ true → nat_in (cell column row) ≤ greatest column)
    → IsTable (table_by kind coding greatest count cell)
unfolding table_by
IsTable-table_by kind coding greatest count cell fits coded bounded = record {
  wide = All-from_get_or (λ row. length row ≡ width_of kind) (rows_by kind count cell) []
      (λ row within. let low : row < count = omega (arith, length-rows_by kind count cell) in rw (get_or-rows_by kind count cell row low) (length-row_by kind cell row));
  fits = λ column row. each column row (IsCellOf (base_at kind column)) (fits column row) tt;
  coded = λ column is. ap (allows (column_at kind column)) (given coding kind column _ (id_within kind column is)) ∙ coded column is;
  bounded = λ column row is. rw (given greatest kind column 0 (id_within kind column is))
      (each column row (λ x. nat_in x ≤ greatest column) (bounded column row is) (omega arith));
}
  where
    -- what holds of the cell that was given, and of null, holds of the cell of the rows
    each : (column row : ℕ) (P : Cell → Type 0) → P (cell column row) → P null → P (cell_in (rows_by kind count cell) column row)
    each column row P here beyond = elim (cases_lt column (width_of kind)) [
      | inl there ↦ elim (cases_lt row count) [
        | inl within ↦ rw (cell_in-rows_by kind count cell column row there within) here
        | inr low ↦ rw (cell_in-beyond kind count cell column row (inr low)) beyond
      ]
      | inr wide ↦ rw (cell_in-beyond kind count cell column row (inl wide)) beyond
    ]

-- one more row
pub rows_by-more : (kind : Kind) (count : ℕ) (cell : ℕ → ℕ → Cell) → rows_by kind (count + 1) cell ≡ rows_by kind count cell ++ row_by kind cell count ∷ []
rows_by-more kind count cell = map-range_with_len_more (row_by kind cell) 0 count count (omega arith)

-- one cell of a row changed
pub row_by-set : (kind : Kind) (cell later : ℕ → ℕ → Cell) (column row : ℕ) (x : Cell) → column < width_of kind
    → later column row ≡ x → ((other : ℕ) → (other ≡ column → ⊥) → later other row ≡ cell other row)
    → set (row_by kind cell row) column x ≡ row_by kind later row
row_by-set kind cell later column row x there here elsewhere =
    fill_by_all (λ other. later other row) (set (row_by kind cell row) column x) (width_of kind) null
    (length-set (row_by kind cell row) column x ∙ length-row_by kind cell row)
    (λ other within. elim (cases_eq other column) [
      | inl same ↦ get_or-set_at (row_by kind cell row) column other x null same (omega (arith, length-row_by kind cell row))
          ∙ sym here ∙ ap (λ c. later c row) (sym same)
      | inr differs ↦ get_or-set_other (row_by kind cell row) column other x null differs ∙ get_or-row_by kind cell other row within ∙ sym (elsewhere other differs)
    ])

-- one cell of the last row changed
pub rows_by-with_cell : (kind : Kind) (count : ℕ) (cell later : ℕ → ℕ → Cell) (column : ℕ) (x : Cell) → column < width_of kind → 0 < count
    → later column (count - 1) ≡ x → ((other row : ℕ) → (row ≡ count - 1 → other ≡ column → ⊥) → later other row ≡ cell other row)
    → rows_by kind count later ≡ with_cell column x (rows_by kind count cell)
unfolding with_cell
rows_by-with_cell kind count cell later column x there some here elsewhere =
    sym (fill_by_all (row_by kind later) (set rows last (set (get_or rows last []) column x)) count [] (length-set rows last _ ∙ long)
    (λ row within. elim (cases_eq row (count - 1)) [
      | inl same ↦ get_or-set_at rows last row (set (get_or rows last []) column x) [] (same ∙ sym is_last) (omega (arith, long))
          ∙ ap (λ cells. set cells column x) (get_or-rows_by kind count cell last (omega (arith, long)) ∙ ap (row_by kind cell) (is_last ∙ sym same))
          ∙ row_by-set kind cell later column row x there (ap (later column) same ∙ here) (λ other differs. elsewhere other row (λ _ h. differs h))
      | inr differs ↦ get_or-set_other rows last row (set (get_or rows last []) column x) [] (λ h. differs (h ∙ is_last))
          ∙ get_or-rows_by kind count cell row within
          ∙ sym (same_row row differs)
    ]))
  where
    rows : List (List Cell)
    rows = rows_by kind count cell

    long : length rows ≡ count
    long = length-rows_by kind count cell

    last : ℕ
    last = length rows - 1

    is_last : last ≡ count - 1
    is_last = omega (arith, long)

    same_row : (row : ℕ) → (row ≡ count - 1 → ⊥) → row_by kind later row ≡ row_by kind cell row
    same_row row differs = λ i. map (λ other. elsewhere other row (λ h _. differs h) i) (range_with_len 0 (width_of kind))

-- a table that is given by its cells has this kind, this number of rows, these rows
module _ (kind : Kind) (coding : ℕ → Coding) (greatest : ℕ → ℕ) (count : ℕ) (cell : ℕ → ℕ → Cell) where
  pub kind-table_by : (table_by kind coding greatest count cell).kind ≡ kind
  unfolding table_by
  kind-table_by = refl

  pub rows-table_by : (table_by kind coding greatest count cell).rows ≡ rows_by kind count cell
  unfolding table_by
  rows-table_by = refl

  pub count-table_by : length (table_by kind coding greatest count cell).rows ≡ count
  unfolding table_by
  count-table_by = length-rows_by kind count cell

  -- its ids are stored in these ways, and are at most these
  pub coding-table_by : (column : ℕ) → is_id_at kind column ≡ true → coding_in (table_by kind coding greatest count cell) column ≡ coding column
  unfolding table_by
  coding-table_by column is = given coding kind column _ (id_within kind column is)

  pub greatest-table_by : (column : ℕ) → is_id_at kind column ≡ true → greatest_in (table_by kind coding greatest count cell) column ≡ greatest column
  unfolding table_by
  greatest-table_by column is = given greatest kind column 0 (id_within kind column is)
