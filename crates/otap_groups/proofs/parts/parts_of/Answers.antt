use Rattle.std.proofs.Common.{◌≡◌, map, sym, subst, arith}
use Rattle.std.proofs.lemmas.Grind.{common_steps}
use Rattle.otap_groups.specs.Flat.{placed}
use Rattle.otap_groups.specs.Stored.{RisingParts}
use Rattle.otap_groups.specs.Views.{seen_placed}
use Rattle.otap_groups.proofs.FlatSteps.{rising_placed}
use Rattle.otap_groups.proofs.parts.parts_of.Goals as goal

pub returns-clause-parts : goal.returns-clause-parts
unfolding placed
returns-clause-parts g c = grind (arith, common_steps)

pub returns-clause-rising : goal.returns-clause-rising
unfolding placed
returns-clause-rising g c =
    let is : map seen_placed c.parents.found.items ≡ placed (map (λ p. g.P.PartsOf.parts p.part.now) c.args.parents.now) = grind (arith, common_steps) in
    subst (λ ps. RisingParts 0 ps) (sym is) (rising_placed (map (λ p. g.P.PartsOf.parts p.part.now) c.args.parents.now))
