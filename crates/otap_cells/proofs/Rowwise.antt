-- Rows that are filled cell by cell.
use Rattle.std.proofs.Common.{◌≡◌, ℕ, zero, suc, ◌+◌, ◌-◌, ◌<◌, ◌≤◌, List, [], ◌∷◌, ◌++◌, length, get_or, take, set, replicate, refl, sym, ◌∙◌, ap, arith, length-append, length-take-le, append_assoc, append-nil}
use Rattle.std.proofs.Math.Seq.{set-append_seam, get_or-append_seam}
use Rattle.std.proofs.lemmas.List.{take_all, take_more, set-append_right}
use Rattle.otap_cells.specs.Cells.{Cell, null, IsCellOf}
use Rattle.otap_cells.specs.Columns.{ColumnSpec, width_of}
use Rattle.otap_cells.specs.Tables.{Table, IsRow, null_row, with_cell}

-- the last row is the one that was added
pub with_cell-push : (column : ℕ) (x : Cell) (before : List (List Cell)) (row : List Cell) → with_cell column x (before ++ row ∷ []) ≡ before ++ set row column x ∷ []
unfolding with_cell
with_cell-push column x before row =
    let last : length (before ++ row ∷ []) - 1 ≡ length before = omega (arith, length-append before (row ∷ [])) in
    ap (λ place. set (before ++ row ∷ []) place (set (get_or (before ++ row ∷ []) place []) column x)) last
    ∙ ap (λ found. set (before ++ row ∷ []) (length before) (set found column x)) (get_or-append_seam before row [] [])
    ∙ set-append_seam before row [] (set row column x)

-- a row whose first cells are written
abbrev pub filled : List Cell → ℕ → List Cell
filled cells count = take count cells ++ replicate (length cells - count) null

pub filled_more : (cells : List Cell) (count : ℕ) → count < length cells → set (filled cells count) count (get_or cells count null) ≡ filled cells (count + 1)
filled_more cells count within =
    let long : length (take count cells) ≡ count = length-take-le count cells (omega arith) in
    let left : length cells - count ≡ suc (length cells - (count + 1)) = omega arith in
    let none : count - count ≡ 0 = omega arith in
    set-append_right (take count cells) (replicate (length cells - count) null) count count (get_or cells count null) long (omega arith)
    ∙ ap (λ n. take count cells ++ set (replicate n null) (count - count) (get_or cells count null)) left
    ∙ ap (λ n. take count cells ++ set (replicate (suc (length cells - (count + 1))) null) n (get_or cells count null)) none
    ∙ sym (append_assoc (take count cells) (get_or cells count null ∷ []) (replicate (length cells - (count + 1)) null))
    ∙ ap (λ front. front ++ replicate (length cells - (count + 1)) null) (sym (take_more cells count null within))

-- a row of the columns is as long as they are, and each of its cells is of its column's base
pub length-IsRow : (columns : List ColumnSpec) (cells : List Cell) → IsRow columns cells → length cells ≡ length columns
length-IsRow [] [] fits = refl
length-IsRow [] (cell ∷ cells) fits = absurd fits
length-IsRow (column ∷ columns) [] fits = absurd fits
length-IsRow (column ∷ columns) (cell ∷ cells) fits = ap suc (length-IsRow columns cells fits.1)

pub IsRow-at : (columns : List ColumnSpec) (cells : List Cell) (place : ℕ) (d : ColumnSpec) → IsRow columns cells → IsCellOf (get_or columns place d).base (get_or cells place null)
IsRow-at [] [] place d fits = tt
IsRow-at [] (cell ∷ cells) place d fits = absurd fits
IsRow-at (column ∷ columns) [] place d fits = absurd fits
IsRow-at (column ∷ columns) (cell ∷ cells) zero d fits = fits.0
IsRow-at (column ∷ columns) (cell ∷ cells) (suc place) d fits = IsRow-at columns cells place d fits.1

-- a row that was added, cell by cell: what else the table says stays
pub fill_begins : (old new : Table) (cells : List Cell) → new ≡ record old { rows = old.rows ++ null_row old.kind ∷ [] } → length cells ≡ width_of old.kind
    → new ≡ record old { rows = old.rows ++ filled cells 0 ∷ [] }
fill_begins old new cells is long =
    let all : width_of old.kind ≡ length cells - 0 = omega arith in
    is ∙ (λ i. record old { rows = old.rows ++ replicate (all i) null ∷ [] })

pub fill_goes_on : (first old new : Table) (before : List (List Cell)) (cells : List Cell) (column : ℕ) (x : Cell)
    → old ≡ record first { rows = before ++ filled cells column ∷ [] } → column < length cells → x ≡ get_or cells column null
    → new ≡ record old { rows = with_cell column x old.rows } → new ≡ record first { rows = before ++ filled cells (column + 1) ∷ [] }
fill_goes_on first old new before cells column x so_far within here is =
    is ∙ ap {B = Table} (λ t. record t { rows = with_cell column x t.rows }) so_far
    ∙ (λ i. record first {
      rows = (with_cell-push column x before (filled cells column)
          ∙ ap (λ row. before ++ row ∷ []) (ap (set (filled cells column) column) here ∙ filled_more cells column within)) i;
    })

-- a null cell is passed over
pub fill_passes : (first t : Table) (before : List (List Cell)) (cells : List Cell) (column : ℕ)
    → t ≡ record first { rows = before ++ filled cells column ∷ [] } → column < length cells → get_or cells column null ≡ null
    → t ≡ record first { rows = before ++ filled cells (column + 1) ∷ [] }
fill_passes first t before cells column so_far within here =
    let left : length cells - column ≡ suc (length cells - (column + 1)) = omega arith in
    let more : filled cells column ≡ filled cells (column + 1)
    = ap (λ n. take column cells ++ replicate n null) left
    ∙ sym (append_assoc (take column cells) (null ∷ []) (replicate (length cells - (column + 1)) null))
    ∙ ap (λ x. (take column cells ++ x ∷ []) ++ replicate (length cells - (column + 1)) null) (sym here)
    ∙ ap (λ front. front ++ replicate (length cells - (column + 1)) null) (sym (take_more cells column null within)) in
    so_far ∙ (λ i. record first { rows = before ++ more i ∷ [] })

pub fill_ends : (first t : Table) (before : List (List Cell)) (cells : List Cell) (column : ℕ)
    → t ≡ record first { rows = before ++ filled cells column ∷ [] } → length cells ≤ column → t ≡ record first { rows = before ++ cells ∷ [] }
fill_ends first t before cells column so_far all =
    let none : length cells - column ≡ 0 = omega arith in
    let whole : filled cells column ≡ cells
    = ap (λ front. front ++ replicate (length cells - column) null) (take_all column cells all)
    ∙ ap (λ n. cells ++ replicate n null) none ∙ append-nil cells in
    so_far ∙ (λ i. record first { rows = before ++ whole i ∷ [] })
