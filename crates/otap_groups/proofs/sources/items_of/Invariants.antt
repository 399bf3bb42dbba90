use Rattle.std.proofs.Common.{◌≡◌, ◌++◌, drop, map}
use Rattle.otap_groups.proofs.sources.items_of.Given as goal

abbrev pub invariant-items : goal.invariant-items
invariant-items g l = map (λ p. p.part.now) l.found.items ++ map (λ f. f.item.now) (drop l.place l.flat) ≡ map (λ f. f.item.now) l.flat
