use Rattle.std.proofs.Common.{◌≡◌, length, sym, ap, ◌∙◌}
use Rattle.std.proofs.lemmas.Option.{IfSome_then}
use Rattle.otap_cells.specs.Tables.{Table}
use Rattle.otap_columns.proofs.Bounded.{column_at_most}
use Rattle.otap_columns.proofs.Tabled.{table_count}
use Rattle.otap_columns.proofs.reader.view.RowsViewRows.most_bytes.Goals as goal

pub returns : goal.returns
returns c =
    let count : c.rows.result ≡ length c.args.self.now.rows =
    c.rows.ensures ∙ sym (table_count c.self.inside.reader.now.kind c.self.inside.reader.now.substream c.self.inside.batch) ∙ ap (λ (t : Table). length t.rows) c.self.view_is in
    IfSome_then c.most_bytes.result c.most_bytes.ensures (λ most limit. column_at_most c.args.self.now c.args.column c.rows.result most c.column.result.now c.column.ensures count limit)
