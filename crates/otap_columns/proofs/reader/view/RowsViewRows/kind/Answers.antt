use Rattle.std.proofs.Common.{sym, ap, ◌∙◌}
use Rattle.otap_cells.specs.Tables.{Table}
use Rattle.otap_columns.proofs.Tabled.{table_kind}
use Rattle.otap_columns.proofs.reader.view.RowsViewRows.kind.Goals as goal

pub returns : goal.returns
returns c =
    c.kind.ensures ∙ sym (table_kind c.self.inside.reader.now.kind c.self.inside.reader.now.substream c.self.inside.batch) ∙ ap (λ (t : Table). t.kind) c.self.view_is
