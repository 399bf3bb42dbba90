use Rattle.otap_spans.proofs.SpanPlaces.{event_weighs}
use Rattle.otap_spans.proofs.reading.EventsRowReader.weight.Goals as goal

pub returns : goal.returns
returns g c =
    event_weighs (g.R.Rows.table c.args.self.now.rows.now).rows c.args.row (g.P.Lookup.finds c.args.self.now.pairs c.args.id)
    c.bytes_in.result.now _ _ g.P.Lookup.weigh
    c.requires c.bytes_in.ensures c.args.self.now.weighed c.weight_of.ensures c.sum_capped.ensures
