use Rattle.std.proofs.Common.{[], length, take}
use Rattle.std.specs.Prelude.{sum_by}
use Rattle.otap_columns.specs.BuiltCells.{GrowsBy, group_most, group_parts}
use Rattle.otap_cells.specs.StaticGroups.{group_in}
use Rattle.otap_columns.specs.FormsIn.{forms_in}
use Rattle.otap_columns.specs.BuiltRows.{AddsSlots, columns_in}
use Rattle.otap_columns.proofs.RowsAdded.{group_slots}
use Rattle.otap_columns.proofs.writer.rows.rows_of.Given as goal

abbrev pub invariant-groups : goal.invariant-groups
invariant-groups l =
    AddsSlots (forms_in l.fn.forms) (columns_in l.fn.columns) l.fn.table (group_slots l.fn.table.kind (forms_in l.fn.forms) (take l.group-index l.groups))
    (record { rows = length l.fn.table.rows; nodes = []; buffers = [] }) l.batch
    × GrowsBy (sum_by (λ g. group_parts (group_in g)) (take l.group-index l.groups)) (sum_by (λ g. group_most l.fn.table (group_in g)) (take l.group-index l.groups))
    (record { rows = length l.fn.table.rows; nodes = []; buffers = [] }) l.batch
