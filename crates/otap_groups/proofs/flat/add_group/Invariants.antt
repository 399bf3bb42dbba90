use Rattle.std.proofs.Common.{◌≡◌, ◌<◌, ◌+◌, ◌^◌, ◌++◌, drop, length, map}
use Rattle.std.specs.List.{flat_map}
use Rattle.otap_groups.specs.Flat.{flat_scopes, scopes_past}
use Rattle.otap_groups.specs.Views.{seen_flat}
use Rattle.otap_groups.proofs.flat.add_group.Given as goal

abbrev pub invariant-scopes : goal.invariant-scopes
invariant-scopes g l = record {
  items : map seen_flat l.found.items ++ flat_scopes l.resource_id l.next l.group.resource (drop l.scope-index l.scope-items)
      ≡ map seen_flat l.fn.found.items ++ flat_scopes l.resource_id l.scope_id l.group.resource l.scope-items;
  next : scopes_past l.next (drop l.scope-index l.scope-items) ≡ scopes_past l.scope_id l.scope-items;
  few : l.next + length (flat_map (λ scope. scope.items) (drop l.scope-index l.scope-items)) < 2 ^ 32;
}
