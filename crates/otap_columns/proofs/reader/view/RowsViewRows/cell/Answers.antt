use Rattle.std.proofs.Common.{sym, ◌∙◌, subst}
use Rattle.otap_cells.specs.Cells.{Cell, IsCellOf}
use Rattle.otap_cells.specs.Columns.{base_at}
use Rattle.otap_columns.proofs.reader.view.RowsViewRows.cell.Goals as goal

pub returns-clause-fits : goal.returns-clause-fits
returns-clause-fits c =
    subst (λ (x : Cell). IsCellOf (base_at c.args.self.now.kind c.args.column) x) (sym (c.cell.ensures ∙ c.column.ensures.cells c.args.row c.requires.row)) (c.column.ensures.holds c.args.row)
