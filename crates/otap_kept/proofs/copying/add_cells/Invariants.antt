use Rattle.std.proofs.Common.{◌≡◌, ◌++◌, [], drop, map}
use Rattle.std.specs.List.{slice_index_or}
use Rattle.otap_cells.specs.Cells.{seen}
use Rattle.otap_kept.proofs.copying.add_cells.Given as goal

abbrev pub invariant-columns : goal.invariant-columns
invariant-columns g l =
    map seen l.cells.items ++ drop l.column (slice_index_or (g.R.Rows.table l.rows).rows l.row [])
    ≡ map seen l.fn.cells.items ++ drop l.from (slice_index_or (g.R.Rows.table l.rows).rows l.row [])
