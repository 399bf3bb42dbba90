use Rattle.std.proofs.Common.{rules}
use Rattle.std.proofs.lemmas.Int.{ints}
use Rattle.otap_logs.proofs.RecordPlaces.{record_read}
use Rattle.otap_logs.proofs.LogColumns.{has_body}
use Rattle.otap_logs.proofs.reading.RecordsRowReader.read.Goals as goal

pub value_at-requires-clause-columns : goal.value_at-requires-clause-columns
value_at-requires-clause-columns g c = rw c.args.self.now.of_logs has_body

pub returns : goal.returns
returns g c =
    record_read _ (g.R.Rows.table c.args.self.now.rows.now).rows c.args.row _
    c.requires c.bits_in.ensures c.bits_in-2.ensures
    c.in_ok-octets_in.ensures c.in_ok-octets_in-2.ensures (search (rules, ints)) c.in_ok-text_in.ensures c.in_ok-value_at.ensures c.in_ok-of.ensures c.number_in.ensures c.number_in-2.ensures
    c.in_ok-text_in-2.ensures
