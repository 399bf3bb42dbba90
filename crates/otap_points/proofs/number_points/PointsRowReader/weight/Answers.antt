use Rattle.otap_points.proofs.PointPlaces.{point_weighs}
use Rattle.otap_points.proofs.number_points.PointsRowReader.weight.Goals as goal

pub returns : goal.returns
returns g c =
    point_weighs _ (g.P.Lookup.finds c.args.self.now.pairs c.args.id) (g.X.Lookup.finds c.args.self.now.exemplars c.args.id) _ _ _
    g.P.Lookup.weigh g.X.Lookup.weigh
    c.args.self.now.pairs_weighed c.weight_of.ensures c.args.self.now.exemplars_weighed c.weight_of-2.ensures c.sum_capped.ensures
