use Rattle.std.proofs.Common.{arith}
use Rattle.std.proofs.lemmas.List.{drop_all}
use Rattle.otap_groups.proofs.RowSums.{group_none, group_some}
use Rattle.otap_groups.proofs.weighing.group_weight.Goals as goal

pub returns-then-not-some : goal.returns-then-not-some
returns-then-not-some g c =
    omega (
      arith,
      group_none g.W.RowWeights.of_resource g.W.RowWeights.of_scope g.W.RowWeights.of_item c.args.group.now _ _ c.scopes.some
          c.as_slice-scope-items.ensures (drop_all _ _ c.scopes-test.false) c.scopes.invariant.some c.if-not-some.true,
    )

pub returns : goal.returns
returns g c =
    group_some g.W.RowWeights.of_resource g.W.RowWeights.of_scope g.W.RowWeights.of_item c.args.group.now _ _ c.scopes.some c.scopes.weight c.resource.result c.add_capped.result c.as_slice-scope-items.ensures
    (drop_all _ _ c.scopes-test.false) c.scopes.invariant.some c.if-not-some.false c.scopes.invariant.so_far c.resource.ensures c.add_capped.ensures
