use Rattle.std.proofs.Common.{arith}
use Rattle.otap_groups.specs.Groups.{regrouped}
use Rattle.otap_groups.proofs.FrontRows.{built}
use Rattle.otap_groups.proofs.groups.Main.groups.Goals as goal

pub returns : goal.returns
unfolding regrouped
returns g c =
    built _ c.args.self.now.front c.groups.groups c.groups.at c.len-to.result (omega (arith, c.groups-test.false)) c.len-to.ensures
    c.groups.invariant.so_far
