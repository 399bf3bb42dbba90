use Rattle.std.proofs.Common.{◌≡◌}
use Rattle.std.specs.Prelude.{map}
use Rattle.otlp_load.specs.Load.{item_number, places_below}
use Rattle.otlp_load.proofs.groups.items.Given as goal

abbrev pub invariant-places : goal.invariant-places
invariant-places g l = l.items ≡ map (λ k. g.I.LoadItem.item_of l.request (item_number l.request k)) (places_below l.place l.group)
