-- The own cells of a row come after those of the front.
use Rattle.std.proofs.Common.{◌≡◌, ℕ, ◌+◌, ◌<◌, List, [], map, drop, length, get_or, ◌∙◌, sym, ap}
use Rattle.std.proofs.lemmas.List.{get_or-map, get_or-drop}
use Rattle.otap_cells.specs.Cells.{Cell, null, bytes_in, cell_at}
use Rattle.otap_cells.specs.Tables.{cell_in}

-- the own cells of a row, after this many of the front
abbrev pub own_cells : ℕ → List (List Cell) → ℕ → List Cell
own_cells front rows row = get_or (map (drop front) rows) row []

pub own_cell : (front : ℕ) (rows : List (List Cell)) (row k : ℕ) → row < length rows → cell_at (own_cells front rows row) k ≡ cell_in rows (front + k) row
own_cell front rows row k within = rw (get_or-map (drop front) rows row [] [] within) (get_or-drop front (get_or rows row []) k null)

-- the bytes of a cell, by its index among the own ones
pub length_own : (front : ℕ) (rows : List (List Cell)) (row k : ℕ) (part : List ℕ) → row < length rows → part ≡ bytes_in (cell_in rows (front + k) row)
    → length part ≡ length (bytes_in (cell_at (own_cells front rows row) k))
length_own front rows row k part within is = ap length (is ∙ ap bytes_in (sym (own_cell front rows row k within)))
