use Rattle.std.proofs.Common.{ap, arith, ◌∙◌}
use Rattle.otap_cells.specs.ColumnIds.{id_in}
use Rattle.otap_columns.proofs.NarrowSums.{stays_with, stays_without}
use Rattle.otap_columns.proofs.writer.ids.most_after.Goals as goal

pub returns-in_default-clause-stays : goal.returns-in_default-clause-stays
returns-in_default-clause-stays c =
    stays_without c.args.table.now c.args.column c.args.row c.requires.row c.args.coding c.args.most c.id_of.result c.without_id.result
    c.requires.coded (c.id_of.ensures ∙ ap id_in c.cell.ensures.value) c.in_default.not-Some c.without_id.ensures

pub returns-else-next-gt-GREATEST_NARROW-clause-stays : goal.returns-else-next-gt-GREATEST_NARROW-clause-stays
returns-else-next-gt-GREATEST_NARROW-clause-stays c =
    stays_with c.args.table.now c.args.column c.args.row c.requires.row c.args.coding c.args.most c.most_with-next.result c.in-Some.number
    c.requires.coded (c.in-Some.ensures ∙ ap id_in c.cell.ensures.value) c.most_with-next.ensures (omega (arith, c.if-next-gt-GREATEST_NARROW.false))
