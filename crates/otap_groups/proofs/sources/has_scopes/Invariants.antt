use Rattle.std.proofs.Common.{◌≡◌, drop, length}
use Rattle.std.specs.Prelude.{filter, nat_lt}
use Rattle.otap_groups.proofs.sources.has_scopes.Given as goal

abbrev pub invariant-scopes : goal.invariant-scopes
invariant-scopes g l =
    nat_lt 0 (length (filter (λ scope. nat_lt 0 (length scope.items)) (drop l.scope-index l.scope-items)))
    ≡ nat_lt 0 (length (filter (λ scope. nat_lt 0 (length scope.items)) l.scope-items))
