use Rattle.std.proofs.Common.{◌≤◌, ◌++◌, map, ap, ◌∙◌}
use Rattle.std.specs.Borrow.{Bor}
use Rattle.otlp_model.specs.Limits.{weight_limit}
use Rattle.otlp_model.specs.Weight.{total, weight_of_pair}
use Rattle.otap_groups.specs.declared.flat.Placed.{Placed}
use Rattle.otap_attrs.specs.Tables.{beside_kind, where_rows}
use Rattle.otap_attrs.proofs.FoundLists.{all_through, found_through}
use Rattle.otap_attrs.proofs.adding.add_attributes.Goals as goal

pub write_attributes-requires-clause-weight : goal.write_attributes-requires-clause-weight
write_attributes-requires-clause-weight g c =
    all_through (λ (b : Bor g.row.P.Denot). b.now) (λ (p : Placed g.row.P.Denot). p.part.now) (λ x. total 32 weight_of_pair (g.P.Attributed.pairs x) ≤ weight_limit)
    c.deref.result.now c.args.parts.now (ap (map (λ (b : Bor g.row.P.Denot). b.now)) c.deref.ensures.value ∙ c.in_ok-parents.ensures) c.requires.weight

pub returns-clause-ok : goal.returns-clause-ok
returns-clause-ok g c =
    c.in_ok-push_filled.ensures.ok ∙ ap (λ t. c.args.tables.now.items ++ map beside_kind (where_rows t))
    (found_through c.args.kind (λ (b : Bor g.row.P.Denot). b.now) (λ (p : Placed g.row.P.Denot). p.part.now) g.P.Attributed.pairs c.deref.result.now c.args.parts.now _
    (ap (map (λ (b : Bor g.row.P.Denot). b.now)) c.deref.ensures.value ∙ c.in_ok-parents.ensures) c.in_ok-attributes.ensures)
