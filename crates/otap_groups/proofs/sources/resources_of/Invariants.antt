use Rattle.std.proofs.Common.{◌≡◌, ◌++◌, drop, map}
use Rattle.otap_groups.specs.Flat.{resources_of}
use Rattle.otap_groups.proofs.sources.resources_of.Given as goal

abbrev pub invariant-groups : goal.invariant-groups
invariant-groups g l = map (λ resource. resource.now) l.found.items ++ resources_of (drop l.group-index l.groups) ≡ resources_of l.groups
