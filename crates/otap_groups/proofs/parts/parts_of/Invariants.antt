use Rattle.std.proofs.Common.{◌≡◌, ◌++◌, drop, map}
use Rattle.otap_groups.specs.Flat.{placed_from}
use Rattle.otap_groups.specs.Views.{seen_placed}
use Rattle.otap_groups.proofs.parts.parts_of.Given as goal

abbrev pub invariant-parents : goal.invariant-parents
invariant-parents g l =
    map seen_placed l.found.items ++ placed_from l.place (map (λ p. g.P.PartsOf.parts p.part.now) (drop l.place l.parents))
    ≡ placed_from 0 (map (λ p. g.P.PartsOf.parts p.part.now) l.parents)
