use Rattle.std.proofs.Common.{◌≡◌, ◌+◌, [], ◌∷◌, drop, ◌∙◌, ap, arith}
use Rattle.std.proofs.lemmas.Grind.{common_steps}
use Rattle.std.proofs.lemmas.List.{drop_all}
use Rattle.otap_groups.specs.Weighing.{rows_of_groups}
use Rattle.otap_groups.proofs.RowSums.{rows_over, rows_split}
use Rattle.otap_groups.proofs.weighing.rows_weight.Goals as goal

pub groups-preserved : goal.groups-preserved
groups-preserved g c =
    let elem : drop c.groups.group-index c.args.groups.now ≡ c.group-item.result ∷ drop (c.groups.group-index + 1) c.args.groups.now = grind (arith, common_steps) in
    let more = ap (rows_of_groups g.W.RowWeights.of_resource g.W.RowWeights.of_scope g.W.RowWeights.of_item) elem
    ∙ rows_split g.W.RowWeights.of_resource g.W.RowWeights.of_scope g.W.RowWeights.of_item c.group-item.result (drop (c.groups.group-index + 1) c.args.groups.now) in
    record {
      capped = omega (arith, c.add_capped-weight.ensures);
      so_far = omega (arith, more, c.groups.invariant.so_far, c.add_capped-weight.ensures, c.group_weight.ensures, c.groups.invariant.capped);
    }

pub returns : goal.returns
returns g c =
    let over : drop c.groups.group-index c.args.groups.now ≡ [] = drop_all _ _ c.groups-test.false in
    let none = ap (rows_of_groups g.W.RowWeights.of_resource g.W.RowWeights.of_scope g.W.RowWeights.of_item) over ∙ rows_over g.W.RowWeights.of_resource g.W.RowWeights.of_scope g.W.RowWeights.of_item in
    omega (arith, none, c.groups.invariant.so_far, c.groups.invariant.capped)
