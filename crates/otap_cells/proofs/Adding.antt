-- A table's weight, row by row and column by column.
use Rattle.std.proofs.Common.{◌≡◌, ℕ, suc, ◌+◌, ◌*◌, ◌^◌, ◌<◌, ◌≤◌, false, List, [], ◌∷◌, length, get_or, take, min, map, refl, sym, ◌∙◌, ap, arith}
use Rattle.std.specs.Prelude.{All, sum_by}
use Rattle.std.specs.List.{range_with_len}
use Rattle.std.proofs.lemmas.List.Sums.{sum_by-cons, sum_by_more}
use Rattle.std.proofs.lemmas.List.FromFn.{fill_by_all, sum_by-map-range_with_len_more}
use Rattle.std.proofs.lemmas.List.{length-map, get_or-map}
use Rattle.std.proofs.lemmas.List.Elements.{All-map, All-from_get_or}
use Rattle.otap_cells.specs.declared.profile.Base.{Base}
use Rattle.otap_cells.specs.declared.profile.Base.TheVariants as base
use Rattle.otap_cells.specs.Bases.{holds_bytes}
use Rattle.otap_cells.specs.Cells.{Cell, null, number, bits, flag, bytes, IsCellOf}
use Rattle.otap_cells.specs.Columns.{base_at, width_of}
use Rattle.otap_cells.specs.Tables.{Table, IsTable, cell_in, column_in, each_column}
use Rattle.otap_cells.specs.Weights.{cell_weight, weight_of_row, weight_of_table}

-- what columns weigh
abbrev pub column_weights : List (List Cell) → ℕ
column_weights columns = sum_by (λ cells. sum_by cell_weight cells) columns

none_in : (places : List ℕ) → column_weights (map (column_in []) places) ≡ 0
none_in [] = refl
none_in (place ∷ places) = sum_by-cons (λ cells. sum_by cell_weight cells) [] (map (column_in []) places) ∙ omega (arith, none_in places)

one_more : (row : List Cell) (rows : List (List Cell)) (places : List ℕ)
    → column_weights (map (column_in (row ∷ rows)) places) ≡ sum_by cell_weight (map (λ place. get_or row place null) places) + column_weights (map (column_in rows) places)
one_more row rows [] = omega arith
one_more row rows (place ∷ places) =
    let all = sum_by-cons (λ cells. sum_by cell_weight cells) (column_in (row ∷ rows) place) (map (column_in (row ∷ rows)) places) in
    let first = sum_by-cons cell_weight (get_or row place null) (column_in rows place) in
    let cells = sum_by-cons cell_weight (get_or row place null) (map (λ place. get_or row place null) places) in
    let others = sum_by-cons (λ cells. sum_by cell_weight cells) (column_in rows place) (map (column_in rows) places) in
    omega (arith, all, first, cells, others, one_more row rows places)

by_columns : (n : ℕ) (rows : List (List Cell)) → All (λ row. length row ≡ n) rows
    → sum_by weight_of_row rows ≡ 32 * length rows + column_weights (map (column_in rows) (range_with_len 0 n))
by_columns n [] wide = omega (arith, none_in (range_with_len 0 n))
by_columns n (row ∷ rows) wide =
    let here : row ≡ map (λ place. get_or row place null) (range_with_len 0 n)
    = fill_by_all (λ place. get_or row place null) row n null (wide 0 row (omega arith)) (λ place _. refl) in
    let rest = by_columns n rows (λ k d within. wide (suc k) d (omega arith)) in
    let first = sum_by-cons weight_of_row row rows in
    let more = one_more row rows (range_with_len 0 n) in
    let cells : sum_by cell_weight row ≡ sum_by cell_weight (map (λ place. get_or row place null) (range_with_len 0 n)) = ap (sum_by cell_weight) here in
    omega (arith, rest, first, more, cells)

-- the columns of a table
abbrev columns_in : Table → List (List Cell)
columns_in t = each_column t.kind (column_in t.rows)

-- 32 for each row, and what the columns weigh
pub weight_by_columns : (t : Table) → IsTable t → weight_of_table t ≡ 32 * length t.rows + column_weights (columns_in t)
weight_by_columns t sound = by_columns (width_of t.kind) t.rows sound.wide

-- no cell of any other base has bytes
pub no_bytes : (holds : Base) (cell : Cell) → IsCellOf holds cell → holds_bytes holds ≡ false → cell_weight cell ≡ 0
no_bytes holds null fits not = refl
no_bytes holds (number n) fits not = refl
no_bytes holds (bits n) fits not = refl
no_bytes holds (flag b) fits not = refl
no_bytes base.U8 (bytes part) fits not = absurd fits
no_bytes base.U16 (bytes part) fits not = absurd fits
no_bytes base.U32 (bytes part) fits not = absurd fits
no_bytes base.U64 (bytes part) fits not = absurd fits
no_bytes base.I32 (bytes part) fits not = absurd fits
no_bytes base.I64 (bytes part) fits not = absurd fits
no_bytes base.Double (bytes part) fits not = absurd fits
no_bytes base.Bool (bytes part) fits not = absurd fits
no_bytes base.Utf8 (bytes part) fits not = cc
no_bytes base.Binary (bytes part) fits not = cc
no_bytes base.Fixed16 (bytes part) fits not = cc
no_bytes base.Fixed8 (bytes part) fits not = cc
no_bytes base.Timestamp (bytes part) fits not = absurd fits
no_bytes base.Duration (bytes part) fits not = absurd fits
no_bytes base.ListU64 (bytes part) fits not = cc
no_bytes base.ListF64 (bytes part) fits not = cc
no_bytes (base.Id wide) (bytes part) fits not = absurd fits

-- one more cell of a column
pub cells_go_on : (rows : List (List Cell)) (column row total b later : ℕ) (cell : Cell) → row < length rows
    → total ≡ min (sum_by cell_weight (take row (column_in rows column))) (2 ^ 63) → b ≡ cell_weight cell → cell ≡ cell_in rows column row
    → later ≡ min (total + b) (2 ^ 63) → later ≡ min (sum_by cell_weight (take (row + 1) (column_in rows column))) (2 ^ 63)
cells_go_on rows column row total b later cell within so_far weighs is added =
    let many : row < length (column_in rows column) = omega (arith, length-map rows (λ row. get_or row column null)) in
    let more = sum_by_more cell_weight (column_in rows column) row null many in
    let here : get_or (column_in rows column) row null ≡ cell_in rows column row = get_or-map (λ row. get_or row column null) rows row [] null within in
    let same : cell_weight (get_or (column_in rows column) row null) ≡ b = ap cell_weight (here ∙ sym is) ∙ sym weighs in
    omega (arith, so_far, added, more, same)

columns_more : (rows : List (List Cell)) (column : ℕ)
    → column_weights (map (column_in rows) (range_with_len 0 (column + 1))) ≡ column_weights (map (column_in rows) (range_with_len 0 column)) + sum_by cell_weight (column_in rows column)
columns_more rows column = sum_by-map-range_with_len_more (λ cells. sum_by cell_weight cells) (column_in rows) 0 column column (omega arith)

-- one more column
pub columns_go_on : (rows : List (List Cell)) (column first total b later : ℕ)
    → total ≡ min (first + column_weights (map (column_in rows) (range_with_len 0 column))) (2 ^ 63)
    → b ≡ min (sum_by cell_weight (column_in rows column)) (2 ^ 63) → later ≡ min (total + b) (2 ^ 63)
    → later ≡ min (first + column_weights (map (column_in rows) (range_with_len 0 (column + 1)))) (2 ^ 63)
columns_go_on rows column first total b later so_far weighs added = omega (arith, so_far, weighs, added, columns_more rows column)

-- all columns
pub columns_end : (t : Table) (column total : ℕ) → IsTable t → column ≡ width_of t.kind
    → total ≡ min (32 * length t.rows + column_weights (map (column_in t.rows) (range_with_len 0 column))) (2 ^ 63) → total ≡ min (weight_of_table t) (2 ^ 63)
columns_end t column total sound all so_far =
    so_far ∙ ap (λ n. min (32 * length t.rows + column_weights (map (column_in t.rows) (range_with_len 0 n))) (2 ^ 63)) all
    ∙ ap (λ n. min n (2 ^ 63)) (sym (weight_by_columns t sound))

-- the same of numbers of bytes that columns don't exceed
pub columns_go_up : (rows : List (List Cell)) (column first total b later : ℕ)
    → min (first + column_weights (map (column_in rows) (range_with_len 0 column))) (2 ^ 63) ≤ total
    → min (sum_by cell_weight (column_in rows column)) (2 ^ 63) ≤ b → later ≡ min (total + b) (2 ^ 63)
    → min (first + column_weights (map (column_in rows) (range_with_len 0 (column + 1)))) (2 ^ 63) ≤ later
columns_go_up rows column first total b later so_far weighs added = omega (arith, so_far, weighs, added, columns_more rows column)

pub columns_within : (t : Table) (column total : ℕ) → IsTable t → column ≡ width_of t.kind
    → min (32 * length t.rows + column_weights (map (column_in t.rows) (range_with_len 0 column))) (2 ^ 63) ≤ total → min (weight_of_table t) (2 ^ 63) ≤ total
columns_within t column total sound all so_far =
    let same : min (weight_of_table t) (2 ^ 63) ≡ min (32 * length t.rows + column_weights (map (column_in t.rows) (range_with_len 0 column))) (2 ^ 63) =
    ap (λ n. min n (2 ^ 63)) (weight_by_columns t sound)
    ∙ ap (λ n. min (32 * length t.rows + column_weights (map (column_in t.rows) (range_with_len 0 n))) (2 ^ 63)) (sym all) in
    omega (arith, same, so_far)

-- a column of a base without bytes weighs nothing
no_bytes_in : (holds : Base) → holds_bytes holds ≡ false → (cells : List Cell) → All (IsCellOf holds) cells → sum_by cell_weight cells ≡ 0
no_bytes_in holds not [] fits = refl
no_bytes_in holds not (cell ∷ cells) fits =
    let first = no_bytes holds cell (fits 0 cell (omega arith)) not in
    let rest = no_bytes_in holds not cells (λ k d within. fits (suc k) d (omega arith)) in
    omega (arith, sum_by-cons cell_weight cell cells, first, rest)

pub no_bytes_in_column : (t : Table) (column : ℕ) → IsTable t → holds_bytes (base_at t.kind column) ≡ false → sum_by cell_weight (column_in t.rows column) ≡ 0
no_bytes_in_column t column sound not =
    no_bytes_in (base_at t.kind column) not (column_in t.rows column)
    (All-map (IsCellOf (base_at t.kind column)) (λ row. get_or row column null) t.rows
    (All-from_get_or (λ row. IsCellOf (base_at t.kind column) (get_or row column null)) t.rows [] (λ row within. sound.fits column row)))
