use Rattle.std.proofs.Common.{◌∙◌, ◌<◌, ap, arith, drop, length}
use Rattle.std.proofs.lemmas.List.{get_or_default, length-map}
use Rattle.otap_attrs.specs.Index.{pair_weight_in}
use Rattle.otap_attrs.proofs.IndexedPairs.{weight_known}
use Rattle.otap_attrs.proofs.reading.WeighedPairsRowReader.weight.Goals as goal

pub returns : goal.returns
returns g c =
    let rows = (g.R.Rows.table c.args.self.now.rows.now).rows in
    let weights = c.args.self.now.weights.items in
    let low : c.args.row < length weights =
    omega (arith, c.requires, length-map rows (drop 1), ap length c.args.self.now.weighed, length-map rows pair_weight_in) in
    c.index.ensures ∙ get_or_default weights c.args.row c.index.result.now 0 low ∙ weight_known rows weights c.args.row c.args.self.now.weighed c.requires
