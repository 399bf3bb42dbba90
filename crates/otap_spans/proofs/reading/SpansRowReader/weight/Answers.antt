use Rattle.otap_spans.proofs.SpanPlaces.{span_weighs}
use Rattle.otap_spans.proofs.reading.SpansRowReader.weight.Goals as goal

pub returns : goal.returns
returns g c =
    span_weighs (g.R.Rows.table c.args.self.now.rows.now).rows c.args.row (g.P.Lookup.finds c.args.self.now.pairs c.args.id)
    (g.E.Lookup.finds c.args.self.now.events c.args.id) (g.L.Lookup.finds c.args.self.now.links c.args.id)
    c.bytes_in.result.now c.bytes_in-2.result.now c.bytes_in-3.result.now c.bytes_in-4.result.now c.bytes_in-5.result.now c.bytes_in-6.result.now _ _ _ _
    g.P.Lookup.weigh g.E.Lookup.weigh g.L.Lookup.weigh
    c.requires c.bytes_in.ensures c.bytes_in-2.ensures c.bytes_in-3.ensures c.bytes_in-4.ensures c.bytes_in-5.ensures c.bytes_in-6.ensures
    c.args.self.now.pairs_weighed c.weight_of.ensures c.args.self.now.events_weighed c.weight_of-2.ensures c.args.self.now.links_weighed c.weight_of-3.ensures
    c.sum_capped.ensures
