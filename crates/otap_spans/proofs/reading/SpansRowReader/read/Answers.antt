use Rattle.std.proofs.Common.{rules}
use Rattle.std.proofs.lemmas.Int.{ints}
use Rattle.otap_spans.proofs.SpanPlaces.{span_read}
use Rattle.otap_spans.proofs.reading.SpansRowReader.read.Goals as goal

pub returns : goal.returns
returns g c =
    span_read _ (g.R.Rows.table c.args.self.now.rows.now).rows c.args.row _ _ _
    c.requires c.in_ok-octets_in.ensures c.in_ok-octets_in-2.ensures c.in_ok-octets_in-3.ensures
    c.in_ok-text_in.ensures c.in_ok-text_in-2.ensures (search (rules, ints)) c.bits_in-start.ensures (search rules)
    c.number_in.ensures c.in_ok-of.ensures c.number_in-2.ensures c.in_ok-of-2.ensures c.number_in-3.ensures c.in_ok-of-3.ensures c.number_in-4.ensures
    (search (rules, ints)) c.in_ok-text_in-3.ensures
