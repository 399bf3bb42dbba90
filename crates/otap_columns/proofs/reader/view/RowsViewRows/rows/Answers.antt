use Rattle.std.proofs.Common.{length, sym, ap, ◌∙◌}
use Rattle.otap_cells.specs.Tables.{Table}
use Rattle.otap_columns.proofs.Tabled.{table_count}
use Rattle.otap_columns.proofs.reader.view.RowsViewRows.rows.Goals as goal

pub returns-clause-count : goal.returns-clause-count
returns-clause-count c =
    c.rows.ensures ∙ sym (table_count c.self.inside.reader.now.kind c.self.inside.reader.now.substream c.self.inside.batch) ∙ ap (λ (t : Table). length t.rows) c.self.view_is
