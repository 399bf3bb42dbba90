use Rattle.std.proofs.Common.{◌≡◌, map, take}
use Rattle.otap_attrs.specs.Index.{pair_weight_in}
use Rattle.otap_attrs.proofs.index.weights_of.Given as goal

abbrev pub invariant-rows : goal.invariant-rows
invariant-rows g l = l.weights.items ≡ map pair_weight_in (take l.row (g.R.Rows.table l.rows).rows)
