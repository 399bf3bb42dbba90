use Rattle.std.proofs.Common.{◌≡◌, ◌<◌, ◌+◌, ◌^◌, ◌++◌, drop, length, map}
use Rattle.otap_groups.specs.Flat.{flat_groups, items_of}
use Rattle.otap_groups.specs.Views.{seen_flat}
use Rattle.otap_groups.proofs.flat.flatten.Given as goal

abbrev pub invariant-groups : goal.invariant-groups
invariant-groups g l = record {
  items : map seen_flat l.found.items ++ flat_groups l.resource_id l.scope_id (drop l.group-index l.groups) ≡ flat_groups 0 0 l.groups;
  resources : l.resource_id + length (items_of (drop l.group-index l.groups)) < 2 ^ 32;
  scopes : l.scope_id + length (items_of (drop l.group-index l.groups)) < 2 ^ 32;
}
