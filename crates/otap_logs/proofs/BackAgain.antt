-- The tables of a request say what the request says.
use Rattle.std.proofs.Common.{◌≡◌, ◌≤◌, ◌^◌, List, length, refl, sym, ap, ◌∙◌, subst, arith}
use Rattle.std.specs.Prelude.{All}
use Rattle.std.proofs.lemmas.List.{length-map}
use Rattle.std.proofs.lemmas.List.Elements.{All-map, All-weaker}
use Rattle.otlp_model.proofs.WithItems.{telemetry_kept}
use Rattle.otlp_model.specs.Limits.{weight_limit}
use Rattle.otlp_model.specs.Profile.{IsProfile}
use Rattle.otlp_model.specs.Real.{IsReal}
use Rattle.otlp_model.specs.Same.{Same, SameLogRecord, SameOften, SameTelemetry}
use Rattle.otlp_model.specs.Telemetry.{ItemEntry, Item, groups_with_items, log_record, telemetry}
use Rattle.otlp_model.specs.Weight.{weight_of, weight_of_log_record}
use Rattle.otlp_model.specs.declared.groups.Resource.{Resource}
use Rattle.otlp_model.specs.declared.groups.Scope.{Scope}
use Rattle.otlp_model.specs.declared.groups.ResourceGroup.{ResourceGroup}
use Rattle.otlp_model.specs.declared.logs.LogRecord.{LogRecord}
use Rattle.otlp_model.specs.declared.request.Request.TheVariants.{Logs}
use Rattle.otlp_model.specs.declared.value.Pair.{Pair}
use Rattle.otap_cells.specs.declared.payload.Kind.TheVariants as table
use Rattle.otap_cells.specs.Cells.{Cell}
use Rattle.otap_cells.specs.Tables.{Table}
use Rattle.otap_groups.specs.Children.{Agree, ReadsEach, numbered}
use Rattle.otap_groups.specs.Flat.{flat_items, items_of, numbered_rows, resources_of, scopes_of, resource_pairs, scope_pairs}
use Rattle.otap_groups.specs.Groups.{regrouped}
use Rattle.otap_groups.proofs.GroupsTold.{groups_told}
use Rattle.otap_groups.proofs.Grouping.{groups_back}
use Rattle.otap_groups.proofs.WritableGroups.{all_items_can, all_resources_can, all_scopes_can, few_items, few_resources, few_scopes}
use Rattle.otap_attrs.specs.Index.{pairs_in}
use Rattle.otap_checks.specs.Reading.{main_rows_in}
use Rattle.otap_checks.proofs.PairsAgain.{AreBack, IsBackResource, IsBackScope, pairs_agree, sorted_alike, unsorted}
use Rattle.otap_checks.proofs.RowsAgain.{main_rows_again}
use Rattle.otap_attrs.specs.Tables.{attribute_table}
use Rattle.otap_logs.specs.Records.{record_cells, record_of}
use Rattle.otap_logs.specs.Requests.{regrouped_logs}
use Rattle.otap_logs.specs.Tables.{record_pairs, tables_of_logs}
use Rattle.otap_checks.proofs.MainKinds.{logs_are_main}
use Rattle.otap_logs.proofs.NamedTables.{named_main, named_records, named_resources, named_scopes}
use Rattle.otap_logs.proofs.ReadAgain.{IsBack, IsBackRecord, groups_again, records_read}

same_record : (cells : List Cell) (xs ys : List Pair) → SameOften xs ys → SameLogRecord (record_of cells xs) (record_of cells ys)
unfolding record_of
same_record cells xs ys same = record { scalars = refl; pairs = same }

module _ (groups : List (ResourceGroup LogRecord)) (light : weight_of (Logs groups) ≤ weight_limit) where
  pub few_main : length (items_of groups) ≤ 2 ^ 32
  few_main = omega (arith, light, few_items weight_of_log_record groups)

  pub few_r : length (resource_pairs groups) ≤ 2 ^ 32
  few_r = omega (arith, light, few_resources weight_of_log_record groups, length-map (resources_of groups) (λ (resource : Resource). resource.pairs))

  pub few_s : length (scope_pairs groups) ≤ 2 ^ 32
  few_s = omega (arith, light, few_scopes weight_of_log_record groups, length-map (scopes_of groups) (λ (scope : Scope). scope.pairs))

  pub few_l : length (record_pairs groups) ≤ 2 ^ 32
  few_l = omega (arith, light, few_items weight_of_log_record groups, length-map (items_of groups) (λ (log : LogRecord). log.pairs))

  abbrev r : Table
  r = attribute_table table.ResourceAttrs (resource_pairs groups)

  abbrev s : Table
  s = attribute_table table.ScopeAttrs (scope_pairs groups)

  abbrev l : Table
  l = attribute_table table.LogAttrs (record_pairs groups)

  pub regrouped_is : regrouped (pairs_in r) (pairs_in s) (λ id cells. record_of cells (pairs_in l id)) (numbered_rows record_cells 0 (flat_items groups))
      ≡ regrouped_logs (tables_of_logs groups)
  unfolding regrouped_logs
  regrouped_is = λ i. regrouped (pairs_in (sym (named_resources groups) i)) (pairs_in (sym (named_scopes groups) i))
      (λ id cells. record_of cells (pairs_in (sym (named_records groups) i) id)) ((main_rows_again table.Logs record_cells groups logs_are_main few_main ∙ ap main_rows_in (sym (named_main groups))) i)

module _ (groups : List (ResourceGroup LogRecord)) (back : All IsBack groups) where
  logs_back : All IsBackRecord (items_of groups)
  logs_back = all_items_can IsBackResource IsBackScope IsBackRecord groups back

  items_read : ReadsEach numbered record_cells (λ id cells. record_of cells (unsorted (record_pairs groups) id)) 0 (items_of groups)
  items_read =
      records_read (items_of groups) (unsorted (record_pairs groups)) logs_back
      (pairs_agree (record_pairs groups) (All-map AreBack (λ (log : LogRecord). log.pairs) (items_of groups)
      (All-weaker IsBackRecord (λ (log : LogRecord). AreBack log.pairs) (λ log is. is.pairs) (items_of groups) logs_back)))

  resources_agree : Agree (unsorted (resource_pairs groups)) 0 (resource_pairs groups)
  resources_agree = pairs_agree (resource_pairs groups) (All-map AreBack (λ (resource : Resource). resource.pairs) (resources_of groups)
      (all_resources_can IsBackResource IsBackScope IsBackRecord groups back))

  scopes_agree : Agree (unsorted (scope_pairs groups)) 0 (scope_pairs groups)
  scopes_agree = pairs_agree (scope_pairs groups) (All-map AreBack (λ (scope : Scope). scope.pairs) (scopes_of groups)
      (all_scopes_can IsBackResource IsBackScope IsBackRecord groups back))

  -- before the pairs are sorted the request itself comes back
  pub unsorted_back : regrouped (unsorted (resource_pairs groups)) (unsorted (scope_pairs groups)) (λ id cells. record_of cells (unsorted (record_pairs groups) id))
      (numbered_rows record_cells 0 (flat_items groups)) ≡ groups_with_items groups
  unsorted_back =
      groups_back record_cells (unsorted (resource_pairs groups)) (unsorted (scope_pairs groups)) (λ id cells. record_of cells (unsorted (record_pairs groups) id)) groups
      items_read resources_agree scopes_agree

  -- and sorted ones are the same
  all_tell : weight_of (Logs groups) ≤ weight_limit → Same (Logs groups) (Logs (regrouped_logs (tables_of_logs groups)))
  all_tell light =
      let r : Table = attribute_table table.ResourceAttrs (resource_pairs groups) in
      let s : Table = attribute_table table.ScopeAttrs (scope_pairs groups) in
      let l : Table = attribute_table table.LogAttrs (record_pairs groups) in
      let found : SameTelemetry (telemetry (Logs (groups_with_items groups)))
      (telemetry (Logs (regrouped (pairs_in r) (pairs_in s) (λ id cells. record_of cells (pairs_in l id)) (numbered_rows record_cells 0 (flat_items groups))))) =
      groups_told log_record record_cells (unsorted (resource_pairs groups)) (pairs_in r) (unsorted (scope_pairs groups)) (pairs_in s)
      (λ id cells. record_of cells (unsorted (record_pairs groups) id)) (λ id cells. record_of cells (pairs_in l id)) groups items_read resources_agree scopes_agree
      (sorted_alike table.ResourceAttrs (resource_pairs groups) refl (few_r groups light)) (sorted_alike table.ScopeAttrs (scope_pairs groups) refl (few_s groups light))
      (λ id cells. same_record cells (unsorted (record_pairs groups) id) (pairs_in l id) (sorted_alike table.LogAttrs (record_pairs groups) refl (few_l groups light) id)) in
      subst (λ (xs : List (ItemEntry Item)). SameTelemetry xs (telemetry (Logs (regrouped_logs (tables_of_logs groups))))) (telemetry_kept (Logs groups))
      (subst (λ (gs : List (ResourceGroup LogRecord)). SameTelemetry (telemetry (Logs (groups_with_items groups))) (telemetry (Logs gs))) (regrouped_is groups light) found)

pub same_again : (groups : List (ResourceGroup LogRecord)) → IsReal (Logs groups) → IsProfile (Logs groups) → weight_of (Logs groups) ≤ weight_limit
    → Same (Logs groups) (Logs (regrouped_logs (tables_of_logs groups)))
same_again groups real is light = all_tell groups (groups_again groups real.at is.at) light
