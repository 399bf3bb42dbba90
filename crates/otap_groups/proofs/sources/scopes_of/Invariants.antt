use Rattle.std.proofs.Common.{◌≡◌, ◌++◌, drop, map}
use Rattle.otap_groups.specs.Flat.{scopes_of}
use Rattle.otap_groups.proofs.sources.scopes_of.Given as goal

abbrev pub invariant-groups : goal.invariant-groups
invariant-groups g l = map (λ scope. scope.now) l.found.items ++ scopes_of (drop l.group-index l.groups) ≡ scopes_of l.groups
