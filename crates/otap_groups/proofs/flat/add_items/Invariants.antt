use Rattle.std.proofs.Common.{◌≡◌, ◌++◌, drop, map}
use Rattle.otap_groups.specs.Flat.{flat_at}
use Rattle.otap_groups.specs.Views.{seen_flat}
use Rattle.otap_groups.proofs.flat.add_items.Given as goal

abbrev pub invariant-items : goal.invariant-items
invariant-items g l =
    map seen_flat l.found.items ++ map (flat_at l.resource_id l.scope_id l.resource l.group.scope) (drop l.item-index l.item-items)
    ≡ map seen_flat l.fn.found.items ++ map (flat_at l.resource_id l.scope_id l.resource l.group.scope) l.item-items
