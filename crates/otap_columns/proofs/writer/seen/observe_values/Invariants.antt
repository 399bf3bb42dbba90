use Rattle.std.proofs.Common.{◌≡◌, ◌<◌, ◌-◌}
use Rattle.otap_cells.specs.Cells.{seen}
use Rattle.otap_cells.specs.Columns.{base_at}
use Rattle.otap_cells.specs.Tables.{cell_in}
use Rattle.otap_columns.specs.declared.forms.ColumnForm.TheVariants as form
use Rattle.otap_columns.specs.Observed.{bytes_for}
use Rattle.otap_columns.proofs.Placing.{IsObserved}
use Rattle.otap_columns.proofs.writer.seen.observe_values.Given as goal

abbrev pub invariant-rows : goal.invariant-rows
invariant-rows l = record {
  observed :
      IsObserved (base_at l.fn.table.kind l.fn.column) l.fn.table.rows l.fn.column l.row l.fn.ladder l.ladder l.places.items (bytes_for (base_at l.fn.table.kind l.fn.column) form.Wide (seen l.before)) l.place;
  last : l.first < l.row → cell_in l.fn.table.rows l.fn.column (l.row - 1) ≡ seen l.before;
}
