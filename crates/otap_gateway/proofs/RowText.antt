-- One more cell after what is printed.
use Rattle.std.proofs.Common.{◌≡◌, ℕ, ◌+◌, ◌<◌, List, ◌++◌, length, get_or, drop, map, ap, append_assoc, arith}
use Rattle.std.proofs.Math.ListN.{get_or-map}
use Rattle.std.proofs.lemmas.List.{drop_more, length-map}
use Rattle.otap_cells.specs.declared.profile.Column.{Column}
use Rattle.otap_cells.specs.Cells.{Cell, null}
use Rattle.otap_cells.specs.Columns.{ColumnSpec, described}
use Rattle.otap_gateway.specs.Rows.{named_cell, cells_text}

-- the cell at an index, below the column that the program's table has there, comes before those after it
pub cells_go_on : (columns : List ColumnSpec) (known : List Column) (cells : List Cell) (i : ℕ) (d : Column) (cell : Cell) (before after whole : List ℕ)
    → map described known ≡ columns → i < length known → length cells ≡ length columns
    → before ++ cells_text (drop i columns) (drop i cells) ≡ whole → cell ≡ get_or cells i null
    → after ≡ before ++ named_cell (described (get_or known i d)) cell
    → after ++ cells_text (drop (i + 1) columns) (drop (i + 1) cells) ≡ whole
cells_go_on columns known cells i d cell before after whole same here wide so_far shown is =
    let here' : i < length columns = omega (arith, ap length same, length-map known described) in
    let there : i < length cells = omega arith in
    let column : get_or columns i (described d) ≡ described (get_or known i d) = rw (← same) (get_or-map described known i d) in
    rw (is, shown, ← column, append_assoc) (rw (drop_more columns i (described d) here', drop_more cells i null there) at so_far)
