-- The tables of a request are tables of the profile.
use Rattle.std.proofs.Common.{◌^◌, ◌≤◌, List, [], ◌∷◌, length, drop, refl, arith}
use Rattle.std.specs.Prelude.{All}
use Rattle.std.specs.List.{AllByRecursion}
use Rattle.std.proofs.lemmas.List.Elements.{All-nil, All-cons, All-head, All-tail, All-from_recursion, All-map, All-weaker}
use Rattle.lists.proofs.Every.{every_weaker}
use Rattle.otlp_model.specs.Limits.{weight_limit}
use Rattle.otlp_model.specs.Profile.{IsProfile, IsProfileLogRecord, IsProfileResourceGroup, IsProfileScopeGroup}
use Rattle.otlp_model.specs.Real.{IsReal, IsRealLogRecord, IsRealResource, IsRealResourceGroup, IsRealScope, IsRealScopeGroup}
use Rattle.otlp_model.specs.Weight.{weight_of}
use Rattle.otlp_model.specs.declared.groups.Resource.{Resource}
use Rattle.otlp_model.specs.declared.groups.Scope.{Scope}
use Rattle.otlp_model.specs.declared.groups.ScopeGroup.{ScopeGroup}
use Rattle.otlp_model.specs.declared.groups.ResourceGroup.{ResourceGroup}
use Rattle.otlp_model.specs.declared.logs.LogRecord.{LogRecord}
use Rattle.otlp_model.specs.declared.request.Request.TheVariants.{Logs}
use Rattle.otap_cells.specs.declared.payload.Kind.TheVariants as table
use Rattle.otap_cells.specs.Columns.{columns_of, logs}
use Rattle.otap_cells.specs.Tables.{IsRow}
use Rattle.otap_groups.specs.Flat.{flat_items, items_of, resources_of, scopes_of, resource_pairs, scope_pairs}
use Rattle.otap_groups.specs.ProfileTables.{IsProfileTable}
use Rattle.otap_groups.specs.Stored.{main_table, stored_rows}
use Rattle.otap_groups.specs.Weighing.{CanWriteGroup, CanWriteScope}
use Rattle.otap_groups.proofs.Bounds.{bounded}
use Rattle.otap_groups.proofs.ProfileRows.{OfFlat, OwnFit, of_flat, rows_fit}
use Rattle.otap_groups.proofs.WritableGroups.{all_items_can, all_resources_can, all_scopes_can}
use Rattle.otap_checks.specs.Written.{Written, table_of}
use Rattle.otap_checks.proofs.AllWritten.{main_profile, profile}
use Rattle.otap_checks.proofs.MainKinds.{logs_kind}
use Rattle.otap_checks.proofs.WrittenPairs.{AreReal, attributes_written}
use Rattle.otap_logs.specs.Records.{record_cells}
use Rattle.otap_logs.specs.Tables.{below_logs, record_pairs, tables_of_logs}
use Rattle.otap_logs.proofs.BackAgain.{few_l, few_main, few_r, few_s}
use Rattle.otap_logs.proofs.ValueFits.{own_fits}

-- ---- all of a request

record IsFitRecord (log : LogRecord) : Type 0 where
  own : IsRow (drop 9 logs) (record_cells log)
  pairs : AreReal log.pairs

abbrev IsFitScope : ScopeGroup LogRecord → Type 0
IsFitScope = CanWriteScope IsRealScope IsFitRecord

abbrev IsFit : ResourceGroup LogRecord → Type 0
IsFit = CanWriteGroup IsRealResource IsRealScope IsFitRecord

records_fit : (logs : List LogRecord) → All IsRealLogRecord logs → All IsProfileLogRecord logs → All IsFitRecord logs
records_fit [] real is = All-nil IsFitRecord
records_fit (log ∷ logs) real is =
    let r : IsRealLogRecord log = All-head IsRealLogRecord log logs real in
    All-cons IsFitRecord log logs (record { own = own_fits log r (All-head IsProfileLogRecord log logs is); pairs = r.pairs })
    (records_fit logs (All-tail IsRealLogRecord log logs real) (All-tail IsProfileLogRecord log logs is))

scopes_fit : (groups : List (ScopeGroup LogRecord)) → All (IsRealScopeGroup IsRealLogRecord) groups → All (IsProfileScopeGroup IsProfileLogRecord) groups → All IsFitScope groups
scopes_fit [] real is = All-nil IsFitScope
scopes_fit (group ∷ groups) real is =
    let r : IsRealScopeGroup IsRealLogRecord group = All-head (IsRealScopeGroup IsRealLogRecord) group groups real in
    let p : IsProfileScopeGroup IsProfileLogRecord group = All-head (IsProfileScopeGroup IsProfileLogRecord) group groups is in
    All-cons IsFitScope group groups (r.scope, records_fit group.items r.items.at p.items.at)
    (scopes_fit groups (All-tail (IsRealScopeGroup IsRealLogRecord) group groups real) (All-tail (IsProfileScopeGroup IsProfileLogRecord) group groups is))

groups_fit : (groups : List (ResourceGroup LogRecord)) → All (IsRealResourceGroup IsRealLogRecord) groups → All (IsProfileResourceGroup IsProfileLogRecord) groups → All IsFit groups
groups_fit [] real is = All-nil IsFit
groups_fit (group ∷ groups) real is =
    let r : IsRealResourceGroup IsRealLogRecord group = All-head (IsRealResourceGroup IsRealLogRecord) group groups real in
    let p : IsProfileResourceGroup IsProfileLogRecord group = All-head (IsProfileResourceGroup IsProfileLogRecord) group groups is in
    All-cons IsFit group groups (r.resource, scopes_fit group.scopes r.scopes.at p.scopes.at)
    (groups_fit groups (All-tail (IsRealResourceGroup IsRealLogRecord) group groups real) (All-tail (IsProfileResourceGroup IsProfileLogRecord) group groups is))

module _ (groups : List (ResourceGroup LogRecord)) (fit : All IsFit groups) (light : weight_of (Logs groups) ≤ weight_limit) where
  few : length (items_of groups) ≤ 2 ^ 32
  few = few_main groups light

  main_rows_fit : All (IsRow (columns_of table.Logs)) (stored_rows record_cells 0 0 0 (flat_items groups))
  unfolding logs
  main_rows_fit =
      rows_fit record_cells (drop 9 logs) 0 0 0 (flat_items groups) (omega arith) (bounded 4294967295 groups (omega (arith, few)))
      (every_weaker (OfFlat IsRealResource IsRealScope IsFitRecord) (OfFlat IsRealResource IsRealScope (OwnFit record_cells (drop 9 logs)))
      (λ f of. (of.0, of.1, of.2.own)) (flat_items groups) (of_flat IsRealResource IsRealScope IsFitRecord groups fit))

  main_written : IsProfileTable (main_table table.Logs record_cells groups)
  main_written = main_profile table.Logs record_cells groups logs_kind few main_rows_fit

  real_resources : All AreReal (resource_pairs groups)
  real_resources = All-map AreReal (λ (resource : Resource). resource.pairs) (resources_of groups)
      (All-weaker IsRealResource (λ (resource : Resource). AreReal resource.pairs) (λ resource real. real.pairs) (resources_of groups)
      (all_resources_can IsRealResource IsRealScope IsFitRecord groups fit))

  real_scopes : All AreReal (scope_pairs groups)
  real_scopes = All-map AreReal (λ (scope : Scope). scope.pairs) (scopes_of groups)
      (All-weaker IsRealScope (λ (scope : Scope). AreReal scope.pairs) (λ scope real. real.pairs) (scopes_of groups)
      (all_scopes_can IsRealResource IsRealScope IsFitRecord groups fit))

  real_records : All AreReal (record_pairs groups)
  real_records = All-map AreReal (λ (log : LogRecord). log.pairs) (items_of groups)
      (All-weaker IsFitRecord (λ (log : LogRecord). AreReal log.pairs) (λ log fit. fit.pairs) (items_of groups)
      (all_items_can IsRealResource IsRealScope IsFitRecord groups fit))

  below_written : AllByRecursion (λ (w : Written). IsProfileTable (table_of w)) (below_logs groups)
  below_written = (
    attributes_written table.ResourceAttrs (resource_pairs groups) refl (few_r groups light) real_resources,
    (
      attributes_written table.ScopeAttrs (scope_pairs groups) refl (few_s groups light) real_scopes,
      (
        attributes_written table.LogAttrs (record_pairs groups) refl (few_l groups light) real_records,
        tt,
      ),
    ),
  )

  all_written : All IsProfileTable (tables_of_logs groups)
  unfolding tables_of_logs
  all_written = profile table.Logs record_cells (below_logs groups) groups main_written
      (All-from_recursion (λ (w : Written). IsProfileTable (table_of w)) (below_logs groups) below_written)

pub tables_written : (groups : List (ResourceGroup LogRecord)) → IsReal (Logs groups) → IsProfile (Logs groups) → weight_of (Logs groups) ≤ weight_limit
    → All IsProfileTable (tables_of_logs groups)
tables_written groups real is light = all_written groups (groups_fit groups real.at is.at) light
