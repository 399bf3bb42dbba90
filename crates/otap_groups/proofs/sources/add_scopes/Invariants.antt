use Rattle.std.proofs.Common.{◌≡◌, ◌++◌, drop, length, map}
use Rattle.std.specs.Prelude.{filter, nat_lt}
use Rattle.otap_groups.proofs.sources.add_scopes.Given as goal

abbrev pub invariant-groups : goal.invariant-groups
invariant-groups g l =
    map (λ scope. scope.now) l.found.items ++ map (λ group. group.scope) (filter (λ group. nat_lt 0 (length group.items)) (drop l.group-index l.groups))
    ≡ map (λ scope. scope.now) l.fn.found.items ++ map (λ group. group.scope) (filter (λ group. nat_lt 0 (length group.items)) l.groups)
