use Rattle.std.proofs.Common.{take}
use Rattle.std.specs.Prelude.{sum_by}
use Rattle.otap_columns.specs.BuiltCells.{GrowsBy, column_most}
use Rattle.otap_columns.specs.FormsIn.{forms_in}
use Rattle.otap_columns.specs.BuiltRows.{AddsSlots, columns_in}
use Rattle.otap_columns.proofs.RowsAdded.{member_slots}
use Rattle.otap_columns.proofs.writer.rows.add_members.Given as goal

abbrev pub invariant-members : goal.invariant-members
invariant-members l =
    AddsSlots (forms_in l.fn.forms) (columns_in l.fn.columns) l.fn.table (member_slots l.fn.table.kind (forms_in l.fn.forms) (take l.member-index l.fn.members)) l.fn.batch l.batch
    × GrowsBy (sum_by (λ m. 1) (take l.member-index l.fn.members)) (sum_by (λ m. column_most l.fn.table m.column) (take l.member-index l.fn.members)) l.fn.batch l.batch
