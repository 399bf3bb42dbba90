use Rattle.std.proofs.Common.{◌≡◌, ◌++◌, drop, map}
use Rattle.otap_groups.specs.Flat.{placed_at}
use Rattle.otap_groups.specs.Views.{seen_placed}
use Rattle.otap_groups.proofs.parts.add_parts.Given as goal

abbrev pub invariant-parts : goal.invariant-parts
invariant-parts g l =
    map seen_placed l.found.items ++ map (placed_at l.parent) (drop l.part-index l.parts)
    ≡ map seen_placed l.fn.found.items ++ map (placed_at l.parent) l.parts
