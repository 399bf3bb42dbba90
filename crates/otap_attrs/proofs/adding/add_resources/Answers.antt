use Rattle.std.proofs.Common.{◌≤◌, ◌++◌, map, ap, ◌∙◌}
use Rattle.std.specs.Borrow.{Bor}
use Rattle.lists.proofs.Every.{found_all}
use Rattle.otlp_model.specs.Limits.{weight_limit}
use Rattle.otlp_model.specs.Weight.{total, weight_of_pair}
use Rattle.otlp_model.specs.declared.groups.Resource.{Resource}
use Rattle.otap_cells.specs.declared.payload.Kind.TheVariants as table
use Rattle.otap_groups.specs.Flat.{resources_of}
use Rattle.otap_attrs.specs.Tables.{beside_kind, where_rows}
use Rattle.otap_attrs.proofs.FoundLists.{found_table}
use Rattle.otap_attrs.proofs.adding.add_resources.Goals as goal

pub write_attributes-requires-clause-weight : goal.write_attributes-requires-clause-weight
write_attributes-requires-clause-weight g c =
    found_all (λ (b : Bor Resource). b.now) (λ (x : Resource). total 32 weight_of_pair x.pairs ≤ weight_limit) c.deref.result.now (resources_of c.args.groups.now)
    (ap (map (λ (b : Bor Resource). b.now)) c.deref.ensures.value ∙ c.in_ok-resources.ensures) c.requires.weight

pub returns-clause-ok : goal.returns-clause-ok
returns-clause-ok g c =
    c.in_ok-push_filled.ensures.ok ∙ ap (λ t. c.args.tables.now.items ++ map beside_kind (where_rows t))
    (found_table table.ResourceAttrs (λ (b : Bor Resource). b.now) (λ (x : Resource). x.pairs) c.deref.result.now (resources_of c.args.groups.now) _
    (ap (map (λ (b : Bor Resource). b.now)) c.deref.ensures.value ∙ c.in_ok-resources.ensures) c.in_ok-attributes.ensures)
