use Rattle.std.proofs.Common.{[], ap, ◌∙◌, arith}
use Rattle.otap_cells.specs.Columns.{columns_of}
use Rattle.otap_gateway.proofs.RowText.{cells_go_on}
use Rattle.otap_gateway.proofs.texts.rows.push_cells.Goals as goal

pub columns-preserved : goal.columns-preserved
columns-preserved g c =
    cells_go_on _ c.columns-columns.result.now _ c.columns.place _ _ _ _ _ (c.columns-columns.ensures.table ∙ ap columns_of c.kind.ensures)
    (omega arith) (c.requires.sound.wide c.args.row [] c.requires.row) c.columns.invariant c.cell.ensures.value c.in_ok-push_named.ensures
