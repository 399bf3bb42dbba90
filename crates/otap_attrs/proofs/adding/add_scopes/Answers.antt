use Rattle.std.proofs.Common.{◌≤◌, ◌++◌, map, ap, ◌∙◌}
use Rattle.std.specs.Borrow.{Bor}
use Rattle.lists.proofs.Every.{found_all}
use Rattle.otlp_model.specs.Limits.{weight_limit}
use Rattle.otlp_model.specs.Weight.{total, weight_of_pair}
use Rattle.otlp_model.specs.declared.groups.Scope.{Scope}
use Rattle.otap_cells.specs.declared.payload.Kind.TheVariants as table
use Rattle.otap_groups.specs.Flat.{scopes_of}
use Rattle.otap_attrs.specs.Tables.{beside_kind, where_rows}
use Rattle.otap_attrs.proofs.FoundLists.{found_table}
use Rattle.otap_attrs.proofs.adding.add_scopes.Goals as goal

pub write_attributes-requires-clause-weight : goal.write_attributes-requires-clause-weight
write_attributes-requires-clause-weight g c =
    found_all (λ (b : Bor Scope). b.now) (λ (x : Scope). total 32 weight_of_pair x.pairs ≤ weight_limit) c.deref.result.now (scopes_of c.args.groups.now)
    (ap (map (λ (b : Bor Scope). b.now)) c.deref.ensures.value ∙ c.in_ok-scopes.ensures) c.requires.weight

pub returns-clause-ok : goal.returns-clause-ok
returns-clause-ok g c =
    c.in_ok-push_filled.ensures.ok ∙ ap (λ t. c.args.tables.now.items ++ map beside_kind (where_rows t))
    (found_table table.ScopeAttrs (λ (b : Bor Scope). b.now) (λ (x : Scope). x.pairs) c.deref.result.now (scopes_of c.args.groups.now) _
    (ap (map (λ (b : Bor Scope). b.now)) c.deref.ensures.value ∙ c.in_ok-scopes.ensures) c.in_ok-attributes.ensures)
