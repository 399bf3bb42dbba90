use Rattle.std.proofs.Common.{map, ap, ◌∙◌}
use Rattle.std.specs.Borrow.{Bor}
use Rattle.otlp_model.specs.declared.groups.Resource.{Resource}
use Rattle.otlp_model.specs.declared.groups.Scope.{Scope}
use Rattle.otlp_model.specs.declared.logs.LogRecord.{LogRecord}
use Rattle.otap_cells.specs.declared.payload.Kind.TheVariants as table
use Rattle.otap_cells.specs.Tables.{Table}
use Rattle.otap_groups.specs.Views.{seen_flat}
use Rattle.otap_groups.proofs.FlatItems.{items_of_rows}
use Rattle.otap_attrs.proofs.FoundLists.{found_table}
use Rattle.otap_logs.proofs.WrittenParts.{items_few, main_is, pushed, records_can, records_few, resources_can, resources_few, rows_can, scopes_can, scopes_few, written, written_set}
use Rattle.otap_logs.proofs.WrittenWeight.{all_can}
use Rattle.otap_logs.proofs.writing.tables_of.Goals as goal

pub flatten-requires : goal.flatten-requires
flatten-requires c = record { few = items_few c.args.groups.now c.as_slice-groups.result.now c.as_slice-groups.ensures c.requires.weight }

pub write_rows-requires-clause-items : goal.write_rows-requires-clause-items
write_rows-requires-clause-items c =
    rows_can c.as_slice-groups.result.now (all_can c.args.groups.now c.as_slice-groups.result.now c.as_slice-groups.ensures c.requires.profile c.requires.weight)
    c.deref.result.now (ap (map seen_flat) c.deref.ensures.value ∙ c.in_ok-rows.ensures.items)

pub write_attributes-requires-clause-few : goal.write_attributes-requires-clause-few
write_attributes-requires-clause-few c =
    resources_few c.args.groups.now c.as_slice-groups.result.now c.as_slice-groups.ensures c.requires.weight (λ (b : Bor Resource). b.now) c.deref-2.result.now
    (ap (map (λ (b : Bor Resource). b.now)) c.deref-2.ensures.value ∙ c.in_ok-resources.ensures)

pub write_attributes-requires-clause-weight : goal.write_attributes-requires-clause-weight
write_attributes-requires-clause-weight c =
    resources_can c.as_slice-groups.result.now (all_can c.args.groups.now c.as_slice-groups.result.now c.as_slice-groups.ensures c.requires.profile c.requires.weight)
    (λ (b : Bor Resource). b.now) c.deref-2.result.now (ap (map (λ (b : Bor Resource). b.now)) c.deref-2.ensures.value ∙ c.in_ok-resources.ensures)

pub write_attributes-requires-2-clause-few : goal.write_attributes-requires-2-clause-few
write_attributes-requires-2-clause-few c =
    scopes_few c.args.groups.now c.as_slice-groups.result.now c.as_slice-groups.ensures c.requires.weight (λ (b : Bor Scope). b.now) c.deref-3.result.now
    (ap (map (λ (b : Bor Scope). b.now)) c.deref-3.ensures.value ∙ c.in_ok-scopes.ensures)

pub write_attributes-requires-2-clause-weight : goal.write_attributes-requires-2-clause-weight
write_attributes-requires-2-clause-weight c =
    scopes_can c.as_slice-groups.result.now (all_can c.args.groups.now c.as_slice-groups.result.now c.as_slice-groups.ensures c.requires.profile c.requires.weight)
    (λ (b : Bor Scope). b.now) c.deref-3.result.now (ap (map (λ (b : Bor Scope). b.now)) c.deref-3.ensures.value ∙ c.in_ok-scopes.ensures)

pub write_attributes-requires-3-clause-few : goal.write_attributes-requires-3-clause-few
write_attributes-requires-3-clause-few c =
    records_few c.args.groups.now c.as_slice-groups.result.now c.as_slice-groups.ensures c.requires.weight (λ (b : Bor LogRecord). b.now) c.deref-5.result.now
    (ap (map (λ (b : Bor LogRecord). b.now)) c.deref-5.ensures.value ∙ c.in_ok-records.ensures
    ∙ items_of_rows c.deref-4.result.now c.as_slice-groups.result.now (ap (map seen_flat) c.deref-4.ensures.value ∙ c.in_ok-rows.ensures.items))

pub write_attributes-requires-3-clause-weight : goal.write_attributes-requires-3-clause-weight
write_attributes-requires-3-clause-weight c =
    records_can c.as_slice-groups.result.now (all_can c.args.groups.now c.as_slice-groups.result.now c.as_slice-groups.ensures c.requires.profile c.requires.weight)
    (λ (b : Bor LogRecord). b.now) c.deref-5.result.now
    (ap (map (λ (b : Bor LogRecord). b.now)) c.deref-5.ensures.value ∙ c.in_ok-records.ensures
    ∙ items_of_rows c.deref-4.result.now c.as_slice-groups.result.now (ap (map seen_flat) c.deref-4.ensures.value ∙ c.in_ok-rows.ensures.items))

pub returns : goal.returns
returns c =
    written c.as_slice-groups.result.now _ c.in_ok-main.main c.in_ok-resources-2.resources c.in_ok-scopes-2.scopes c.in_ok-records-2.records
    (pushed c.in_ok-main.main c.in_ok-resources-2.resources c.in_ok-scopes-2.scopes c.in_ok-records-2.records _ _ _ _ c.push_filled-3.new.tables.items
    c.new-tables.ensures.items c.in_ok-push.ensures.items (ap (λ (t : Table). t.kind) c.in_ok-main.ensures) c.in_ok-push_filled.ensures.ok c.in_ok-push_filled-2.ensures.ok
    c.in_ok-push_filled-3.ensures.ok)
    (main_is c.as_slice-groups.result.now (map seen_flat c.deref.result.now) c.in_ok-main.main (ap (map seen_flat) c.deref.ensures.value ∙ c.in_ok-rows.ensures.items) c.in_ok-main.ensures)
    (found_table table.ResourceAttrs (λ (b : Bor Resource). b.now) (λ (x : Resource). x.pairs) c.deref-2.result.now _ _
    (ap (map (λ (b : Bor Resource). b.now)) c.deref-2.ensures.value ∙ c.in_ok-resources.ensures) c.in_ok-resources-2.ensures)
    (found_table table.ScopeAttrs (λ (b : Bor Scope). b.now) (λ (x : Scope). x.pairs) c.deref-3.result.now _ _
    (ap (map (λ (b : Bor Scope). b.now)) c.deref-3.ensures.value ∙ c.in_ok-scopes.ensures) c.in_ok-scopes-2.ensures)
    (found_table table.LogAttrs (λ (b : Bor LogRecord). b.now) (λ (x : LogRecord). x.pairs) c.deref-5.result.now _ _
    (ap (map (λ (b : Bor LogRecord). b.now)) c.deref-5.ensures.value ∙ c.in_ok-records.ensures
    ∙ items_of_rows c.deref-4.result.now c.as_slice-groups.result.now (ap (map seen_flat) c.deref-4.ensures.value ∙ c.in_ok-rows.ensures.items)) c.in_ok-records-2.ensures)
    c.args.groups.now c.as_slice-groups.ensures

pub invariant_of-result : goal.invariant_of-result
invariant_of-result c =
    written_set c.as_slice-groups.result.now _ c.in_ok-main.main c.in_ok-resources-2.resources c.in_ok-scopes-2.scopes c.in_ok-records-2.records
    (pushed c.in_ok-main.main c.in_ok-resources-2.resources c.in_ok-scopes-2.scopes c.in_ok-records-2.records _ _ _ _ c.push_filled-3.new.tables.items
    c.new-tables.ensures.items c.in_ok-push.ensures.items (ap (λ (t : Table). t.kind) c.in_ok-main.ensures) c.in_ok-push_filled.ensures.ok c.in_ok-push_filled-2.ensures.ok
    c.in_ok-push_filled-3.ensures.ok)
    (main_is c.as_slice-groups.result.now (map seen_flat c.deref.result.now) c.in_ok-main.main (ap (map seen_flat) c.deref.ensures.value ∙ c.in_ok-rows.ensures.items) c.in_ok-main.ensures)
    (found_table table.ResourceAttrs (λ (b : Bor Resource). b.now) (λ (x : Resource). x.pairs) c.deref-2.result.now _ _
    (ap (map (λ (b : Bor Resource). b.now)) c.deref-2.ensures.value ∙ c.in_ok-resources.ensures) c.in_ok-resources-2.ensures)
    (found_table table.ScopeAttrs (λ (b : Bor Scope). b.now) (λ (x : Scope). x.pairs) c.deref-3.result.now _ _
    (ap (map (λ (b : Bor Scope). b.now)) c.deref-3.ensures.value ∙ c.in_ok-scopes.ensures) c.in_ok-scopes-2.ensures)
    (found_table table.LogAttrs (λ (b : Bor LogRecord). b.now) (λ (x : LogRecord). x.pairs) c.deref-5.result.now _ _
    (ap (map (λ (b : Bor LogRecord). b.now)) c.deref-5.ensures.value ∙ c.in_ok-records.ensures
    ∙ items_of_rows c.deref-4.result.now c.as_slice-groups.result.now (ap (map seen_flat) c.deref-4.ensures.value ∙ c.in_ok-rows.ensures.items)) c.in_ok-records-2.ensures)
