use Rattle.std.proofs.Common.{◌≡◌, ◌++◌, drop, map}
use Rattle.otap_attrs.proofs.adding.parts_alone.Given as goal

abbrev pub invariant-parts : goal.invariant-parts
invariant-parts g l =
    map (λ part. part.now) l.found.items ++ map (λ placed. placed.part.now) (drop l.placed-index l.parts) ≡ map (λ placed. placed.part.now) l.parts
