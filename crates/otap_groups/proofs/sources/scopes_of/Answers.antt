use Rattle.std.proofs.Common.{◌≡◌, ◌+◌, ◌∷◌, drop, arith}
use Rattle.std.proofs.lemmas.Grind.{common_steps}
use Rattle.otap_groups.proofs.FlatItems.{scopes_added}
use Rattle.otap_groups.proofs.sources.scopes_of.Goals as goal

pub groups-preserved : goal.groups-preserved
groups-preserved g c =
    let elem : drop c.groups.group-index c.args.groups.now ≡ c.group-item.result ∷ drop (c.groups.group-index + 1) c.args.groups.now = grind (arith, common_steps) in
    scopes_added c.args.groups.now c.groups.group-index c.group-item.result c.as_slice.result.now _ _ _ elem c.as_slice.ensures c.in_ok-add_scopes.ensures c.groups.invariant
