use Rattle.std.proofs.Common.{ap, ◌∙◌, sym}
use Rattle.otap_columns.specs.Known.{stored_cell}
use Rattle.otap_columns.proofs.reader.view.RowsViewRows.lacks.Goals as goal

pub returns : goal.returns
unfolding stored_cell
returns c = λ missing row within.
    sym (c.column.ensures.cells row within) ∙ ap (stored_cell c.column.result.now.base) (c.is_missing.ensures missing row)
