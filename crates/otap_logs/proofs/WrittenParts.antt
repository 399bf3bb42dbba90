-- The parts of a request that its tables are written from.
use Rattle.std.proofs.Common.{◌≡◌, ℕ, ◌*◌, ◌<◌, ◌≤◌, ◌^◌, List, [], ◌∷◌, ◌++◌, length, map, refl, sym, ap, ◌∙◌, subst, arith}
use Rattle.std.specs.Prelude.{All}
use Rattle.std.proofs.lemmas.List.{length-map}
use Rattle.std.proofs.lemmas.List.Elements.{All-weaker}
use Rattle.lists.proofs.Every.{found_all}
use Rattle.otlp_model.specs.declared.groups.Resource.{Resource}
use Rattle.otlp_model.specs.declared.groups.Scope.{Scope}
use Rattle.otlp_model.specs.declared.groups.ResourceGroup.{ResourceGroup}
use Rattle.otlp_model.specs.declared.logs.LogRecord.{LogRecord}
use Rattle.otlp_model.specs.declared.request.Request.TheVariants.{Logs}
use Rattle.otlp_model.specs.Limits.{weight_limit}
use Rattle.otlp_model.specs.Weight.{total, weight_of, weight_of_log_record, weight_of_pair}
use Rattle.otap_cells.specs.declared.payload.Kind.{Kind}
use Rattle.otap_cells.specs.declared.payload.Kind.TheVariants as table
use Rattle.otap_cells.specs.Sets.{IsSet, tables_in}
use Rattle.otap_cells.specs.Tables.{Table, profile_table}
use Rattle.otap_groups.specs.declared.flat.Flat.{Flat}
use Rattle.otap_groups.specs.Flat.{FlatIn, flat_items, items_of, resources_of, scopes_of}
use Rattle.otap_groups.specs.Stored.{main_table, stored_rows}
use Rattle.otap_groups.specs.Views.{seen_flat}
use Rattle.otap_groups.proofs.FlatItems.{all_items}
use Rattle.otap_groups.proofs.WritableGroups.{all_items_can, all_resources_can, all_scopes_can, few_items, few_resources, few_scopes, IsLightResource, IsLightScope}
use Rattle.otap_attrs.specs.Tables.{attribute_table, beside_kind, where_rows}
use Rattle.otap_attrs.proofs.FilledTables.{added, added_all, filled, filled_set, filled_tables}
use Rattle.otap_checks.specs.Written.{table_of, tables_written}
use Rattle.otap_logs.specs.Records.{record_cells}
use Rattle.otap_logs.specs.Tables.{below_logs, tables_of_logs}
use Rattle.otap_logs.specs.Writable.{CanWriteRecord}
use Rattle.otap_logs.proofs.WrittenWeight.{CanWrite}

-- ---- what is found through references

found_few : {B X : Type 0} (deref : B → X) (found : List B) (xs : List X) (n : ℕ) → map deref found ≡ xs → 32 * length xs ≤ n → 32 * length found ≤ n
found_few deref found xs n is few =
    let a = length-map found deref in
    let b = ap length is in
    omega (arith, a, b)

-- ---- how many there are

module _ (groups gs : List (ResourceGroup LogRecord)) (same : gs ≡ groups) (few : weight_of (Logs groups) ≤ weight_limit) where
  light : weight_of (Logs gs) ≤ weight_limit
  light = subst (λ gs. weight_of (Logs gs) ≤ weight_limit) (sym same) few

  pub items_few : length (items_of gs) < 2 ^ 32
  items_few = omega (arith, light, few_items weight_of_log_record gs)

  pub resources_few : {B : Type 0} (deref : B → Resource) (found : List B) → map deref found ≡ resources_of gs → length found ≤ 2 ^ 32
  resources_few deref found is =
      let a = found_few deref found (resources_of gs) (weight_of (Logs gs)) is (few_resources weight_of_log_record gs) in
      omega (arith, light, a)

  pub scopes_few : {B : Type 0} (deref : B → Scope) (found : List B) → map deref found ≡ scopes_of gs → length found ≤ 2 ^ 32
  scopes_few deref found is =
      let a = found_few deref found (scopes_of gs) (weight_of (Logs gs)) is (few_scopes weight_of_log_record gs) in
      omega (arith, light, a)

  pub records_few : {B : Type 0} (deref : B → LogRecord) (found : List B) → map deref found ≡ items_of gs → length found ≤ 2 ^ 32
  records_few deref found is =
      let a = found_few deref found (items_of gs) (weight_of (Logs gs)) is (few_items weight_of_log_record gs) in
      omega (arith, light, a)

-- ---- what can be written

module _ (gs : List (ResourceGroup LogRecord)) (can : All CanWrite gs) where
  pub rows_can : (rows : List (Flat LogRecord)) → map seen_flat rows ≡ flat_items gs → All (λ (f : Flat LogRecord). CanWriteRecord f.item.now) rows
  rows_can rows is = all_items CanWriteRecord rows gs is (all_items_can IsLightResource IsLightScope CanWriteRecord gs can)

  pub resources_can : {B : Type 0} (deref : B → Resource) (found : List B) → map deref found ≡ resources_of gs
      → All (λ b. total 32 weight_of_pair (deref b).pairs ≤ weight_limit) found
  resources_can deref found is =
      found_all deref IsLightResource found (resources_of gs) is (all_resources_can IsLightResource IsLightScope CanWriteRecord gs can)

  pub scopes_can : {B : Type 0} (deref : B → Scope) (found : List B) → map deref found ≡ scopes_of gs
      → All (λ b. total 32 weight_of_pair (deref b).pairs ≤ weight_limit) found
  scopes_can deref found is =
      found_all deref IsLightScope found (scopes_of gs) is (all_scopes_can IsLightResource IsLightScope CanWriteRecord gs can)

  pub records_can : {B : Type 0} (deref : B → LogRecord) (found : List B) → map deref found ≡ items_of gs
      → All (λ b. total 32 weight_of_pair (deref b).pairs ≤ weight_limit) found
  records_can deref found is = all_unmapped_pairs (found_all deref CanWriteRecord found (items_of gs) is (all_items_can IsLightResource IsLightScope CanWriteRecord gs can))
    where
      all_unmapped_pairs : All (λ b. CanWriteRecord (deref b)) found → All (λ b. total 32 weight_of_pair (deref b).pairs ≤ weight_limit) found
      all_unmapped_pairs all = All-weaker (λ b. CanWriteRecord (deref b)) (λ b. total 32 weight_of_pair (deref b).pairs ≤ weight_limit) (λ b can. can.pairs) found all

-- ---- the tables

pub main_is : (gs : List (ResourceGroup LogRecord)) (flats : List (FlatIn LogRecord)) (main : Table) → flats ≡ flat_items gs
    → main ≡ profile_table table.Logs (stored_rows record_cells 0 0 0 flats) → main ≡ main_table table.Logs record_cells gs
unfolding main_table
main_is gs flats main is m = m ∙ ap (λ fs. profile_table table.Logs (stored_rows record_cells 0 0 0 fs)) is

abbrev pub Items : Type 0
Items = List (Kind × Table)

pub pushed : (main r s l : Table) (i0 i1 i2 i3 i4 : Items) → i0 ≡ [] → i1 ≡ i0 ++ (table.Logs, main) ∷ [] → main.kind ≡ table.Logs
    → i2 ≡ i1 ++ map beside_kind (where_rows r) → i3 ≡ i2 ++ map beside_kind (where_rows s) → i4 ≡ i3 ++ map beside_kind (where_rows l)
    → i4 ≡ map beside_kind (main ∷ filled (r ∷ s ∷ l ∷ []))
pushed main r s l i0 i1 i2 i3 i4 e0 e1 km e2 e3 e4 =
    let b3 = added i3 i4 i4 l [] e4 (added_all i4) in
    let b2 = added i2 i3 i4 s (l ∷ []) e3 b3 in
    let b1 = added i1 i2 i4 r (s ∷ l ∷ []) e2 b2 in
    let front : i1 ≡ beside_kind main ∷ [] = e1 ∙ ap (λ (xs : Items). xs ++ (table.Logs, main) ∷ []) e0 ∙ (λ i. (sym km i, main) ∷ []) in
    b1 ∙ ap (λ (xs : Items). xs ++ map beside_kind (filled (r ∷ s ∷ l ∷ []))) front

module _ (gs : List (ResourceGroup LogRecord)) (items : Items) (main r s l : Table) (are : items ≡ map beside_kind (main ∷ filled (r ∷ s ∷ l ∷ [])))
    (is_main : main ≡ main_table table.Logs record_cells gs)
    (is_r : r ≡ attribute_table table.ResourceAttrs (map (λ (resource : Resource). resource.pairs) (resources_of gs)))
    (is_s : s ≡ attribute_table table.ScopeAttrs (map (λ (scope : Scope). scope.pairs) (scopes_of gs)))
    (is_l : l ≡ attribute_table table.LogAttrs (map (λ (log : LogRecord). log.pairs) (items_of gs))) where
  items_are : items ≡ map beside_kind (main_table table.Logs record_cells gs ∷ filled (map table_of (below_logs gs)))
  items_are = are ∙ (λ i. map beside_kind (is_main i ∷ filled (is_r i ∷ is_s i ∷ is_l i ∷ [])))

  tables_are : tables_in (λ t. t) items ≡ tables_of_logs gs
  unfolding tables_of_logs tables_written
  tables_are = filled_tables (main_table table.Logs record_cells gs) (map table_of (below_logs gs)) items items_are

  pub written : (groups : List (ResourceGroup LogRecord)) → gs ≡ groups → tables_in (λ t. t) items ≡ tables_of_logs groups
  written groups same = tables_are ∙ ap tables_of_logs same

  pub written_set : IsSet (λ t. t) items
  unfolding main_table attribute_table
  written_set = filled_set (main_table table.Logs record_cells gs) (map table_of (below_logs gs)) items items_are refl
