use Rattle.std.proofs.Common.{refl}
use Rattle.otap_points.proofs.PointPlaces.{hist_weighs}
use Rattle.otap_points.proofs.hist_points.HistPointsRowReader.weight.Goals as goal

pub returns : goal.returns
returns g c =
    hist_weighs (g.R.Rows.table c.args.self.now.rows.now).rows c.args.row (g.P.Lookup.finds c.args.self.now.pairs c.args.id) (g.X.Lookup.finds c.args.self.now.exemplars c.args.id)
    c.bytes_in.result.now c.bytes_in-2.result.now _ _ _ _ _ _ _ g.P.Lookup.weigh g.X.Lookup.weigh c.requires
    c.bytes_in.ensures refl c.list_weight.ensures c.bytes_in-2.ensures refl c.list_weight-2.ensures
    c.args.self.now.pairs_weighed c.weight_of.ensures c.args.self.now.exemplars_weighed c.weight_of-2.ensures c.sum_capped.ensures
