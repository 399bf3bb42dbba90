-- The law for any signal: the telemetry of the kept tables is the filter of that of the tables, and it is no heavier. An item is
-- read from its own cells and from what is found for its id in the tables below.
use Rattle.std.proofs.Common.{◌≡◌, ℕ, ◌+◌, ◌≤◌, ◌^◌, Bool, List, get_or, Option, None, Some, length, map, refl, sym, ◌∙◌, ap, subst, arith}
use Rattle.std.specs.Prelude.{filter}
use Rattle.std.proofs.lemmas.List.{length-map}
use Rattle.otlp_model.specs.Same.{SameItem, SameTelemetry}
use Rattle.otlp_model.specs.Telemetry.{Item, ItemEntry, item_entries, told_as}
use Rattle.otlp_model.specs.Weight.{total, weight_of_resource_group}
use Rattle.otlp_model.specs.declared.groups.ResourceGroup.{ResourceGroup}
use Rattle.otlp_model.specs.declared.value.Pair.{Pair}
use Rattle.otap_cells.specs.declared.payload.Kind.{Kind}
use Rattle.otap_cells.specs.declared.payload.Kind.TheVariants as table
use Rattle.otap_cells.specs.Cells.{Cell}
use Rattle.otap_cells.specs.Named.{table_named}
use Rattle.otap_cells.specs.Tables.{Table}
use Rattle.otap_groups.specs.Groups.{regrouped}
use Rattle.otap_groups.specs.Rows.{MainRow}
use Rattle.otap_groups.proofs.AlikeLaws.{alike_regrouped, alike_told}
use Rattle.otap_groups.proofs.LightGroups.{regrouped_weigh}
use Rattle.otap_attrs.specs.Index.{attribute_rows_in, pairs_in}
use Rattle.otap_checks.specs.Reading.{main_rows_in}
use Rattle.otap_checks.specs.Regrouping.{regrouped_in}
use Rattle.otap_kept.specs.Numbers.{first_ids}
use Rattle.otap_kept.specs.Rows.{own_ids, renewed, resource_ids, scope_ids, under}
use Rattle.otap_kept.proofs.AttributeTables.{AreLow, kept_pairs}
use Rattle.otap_kept.proofs.GroupWeights.{fewer_weigh}
use Rattle.otap_kept.proofs.KeptEntries.{filtered_told, kept_told}
use Rattle.otap_kept.proofs.MainTables.{few_first, under_low}
use Rattle.otap_kept.proofs.PairsBelow.{attributes_under, finds_pairs, pairs_under, renews_items}
use Rattle.otap_kept.proofs.RenewedWeigh.{kept_pairs_weigh, renewed_weigh}
use Rattle.otap_kept.proofs.RowsTold.{entry_of_row}

-- the pairs of resources and of scopes that tables have
abbrev pub of_resources : List Table → Option ℕ → List Pair
of_resources tables = pairs_in (table_named table.ResourceAttrs tables)

abbrev pub of_scopes : List Table → Option ℕ → List Pair
of_scopes tables = pairs_in (table_named table.ScopeAttrs tables)

-- WHAT TIES TABLES to those of which they keep these main rows. What is below an item is found in the tables by its id; among
-- the rows that are kept, before attributes are sorted, it is found by its index
pub record AreKept {D : Type 0} (main : Kind) (found : List Table → Option ℕ → D) (before : Option ℕ → D) (tables others : List Table) (rows : List MainRow) : Type 0 where
  pub main_rows : main_rows_in (table_named main others) ≡ renewed rows
  pub resources : table_named table.ResourceAttrs others ≡ attributes_under table.ResourceAttrs (first_ids (resource_ids rows)) (table_named table.ResourceAttrs tables)
  pub scopes : table_named table.ScopeAttrs others ≡ attributes_under table.ScopeAttrs (first_ids (scope_ids rows)) (table_named table.ScopeAttrs tables)
  pub few : length rows ≤ 2 ^ 32
  pub by_place : (k : ℕ) → before (Some k) ≡ found tables (get_or (own_ids rows) k None)

module _ {I D : Type 0} (main : Kind) (item : List Cell → D → I) (found : List Table → Option ℕ → D) (before : Option ℕ → D) (tables others : List Table) (rows : List MainRow)
    (kept : AreKept main found before tables others rows) where
  abbrev r : Table
  r = table_named table.ResourceAttrs tables

  abbrev s : Table
  s = table_named table.ScopeAttrs tables

  abbrev resources : List (Option ℕ)
  resources = first_ids (resource_ids rows)

  abbrev scopes : List (Option ℕ)
  scopes = first_ids (scope_ids rows)

  abbrev pub item_in : List Table → Option ℕ → List Cell → I
  item_in ts id cells = item cells (found ts id)

  abbrev item_before : Option ℕ → List Cell → I
  item_before id cells = item cells (before id)

  few_r : length resources ≤ 2 ^ 32
  few_r = omega (arith, few_first (resource_ids rows), length-map rows (λ (row : MainRow). row.resource_id), kept.few)

  few_s : length scopes ≤ 2 ^ 32
  few_s = omega (arith, few_first (scope_ids rows), length-map rows (λ (row : MainRow). row.scope_id), kept.few)

  low_r : AreLow (under resources (attribute_rows_in r))
  low_r = under_low resources few_r (attribute_rows_in r)

  low_s : AreLow (under scopes (attribute_rows_in s))
  low_s = under_low scopes few_s (attribute_rows_in s)

  -- the groups of the rows that are kept, before attributes are sorted
  abbrev before_sort : List (ResourceGroup I)
  before_sort = regrouped (pairs_under resources r) (pairs_under scopes s) item_before (renewed rows)

  abbrev after_sort : List (ResourceGroup I)
  after_sort = regrouped (pairs_in (attributes_under table.ResourceAttrs resources r)) (pairs_in (attributes_under table.ScopeAttrs scopes s)) (item_in others) (renewed rows)

  others_are : regrouped_in main item_in others ≡ after_sort
  others_are = λ i. regrouped (pairs_in (kept.resources i)) (pairs_in (kept.scopes i)) (item_in others) (kept.main_rows i)

  by_place : (k : ℕ) → before (Some (0 + k)) ≡ found tables (get_or (own_ids rows) k None)
  by_place k = ap (λ m. before (Some m)) (omega arith) ∙ kept.by_place k

  unsorted : (test : ItemEntry I → Bool) → rows ≡ filter (λ row. test (entry_of_row (of_resources tables) (of_scopes tables) (item_in tables) row)) (main_rows_in (table_named main tables))
      → item_entries before_sort ≡ filter test (item_entries (regrouped_in main item_in tables))
  unsorted test are =
      kept_told (pairs_in r) (pairs_under resources r) (pairs_in s) (pairs_under scopes s) (item_in tables) item_before
      test (main_rows_in (table_named main tables)) rows are (finds_pairs resources r) (finds_pairs scopes s)
      (renews_items (pairs_in r) (pairs_under resources r) (pairs_in s) (pairs_under scopes s) item (found tables) before 0 rows by_place)

  module _ (SameOne : I → I → Type 0) (kind : I → Item) (same_as : (a b : I) → SameOne a b → SameItem (kind a) (kind b))
      (same : (id : Option ℕ) (cells : List Cell) → SameOne (item cells (before id)) (item cells (found others id))) where
    sorted : SameTelemetry (map (told_as kind) (item_entries before_sort)) (map (told_as kind) (item_entries (regrouped_in main item_in others)))
    sorted =
        subst (λ (groups : List (ResourceGroup I)). SameTelemetry (map (told_as kind) (item_entries before_sort)) (map (told_as kind) (item_entries groups))) (sym others_are)
        (alike_told SameOne kind same_as (item_entries before_sort) (item_entries after_sort)
        (alike_regrouped SameOne (pairs_under resources r) (pairs_in (attributes_under table.ResourceAttrs resources r)) (pairs_under scopes s)
        (pairs_in (attributes_under table.ScopeAttrs scopes s)) item_before (item_in others)
        (λ id. kept_pairs table.ResourceAttrs (under resources (attribute_rows_in r)) refl low_r id)
        (λ id. kept_pairs table.ScopeAttrs (under scopes (attribute_rows_in s)) refl low_s id) same (renewed rows)))

    -- THE FILTER: the rows are those whose entries pass a test
    pub tells_filter : (test : ItemEntry Item → Bool)
        → rows ≡ filter (λ row. test (told_as kind (entry_of_row (of_resources tables) (of_scopes tables) (item_in tables) row))) (main_rows_in (table_named main tables))
        → SameTelemetry (filter test (map (told_as kind) (item_entries (regrouped_in main item_in tables)))) (map (told_as kind) (item_entries (regrouped_in main item_in others)))
    tells_filter test are =
        subst (λ (es : List (ItemEntry Item)). SameTelemetry es (map (told_as kind) (item_entries (regrouped_in main item_in others))))
        (ap (map (told_as kind)) (unsorted (λ e. test (told_as kind e)) are) ∙ sym (filtered_told test (told_as kind) (item_entries (regrouped_in main item_in tables)))) sorted

  -- IT IS NO HEAVIER
  pub weighs_no_more : (weigh : I → ℕ) → ((id : Option ℕ) (cells : List Cell) → weigh (item cells (before id)) ≡ weigh (item cells (found others id)))
      → (test : MainRow → Bool) → rows ≡ filter test (main_rows_in (table_named main tables))
      → total 32 (weight_of_resource_group weigh) (regrouped_in main item_in others) ≤ total 32 (weight_of_resource_group weigh) (regrouped_in main item_in tables)
  weighs_no_more weigh same test are =
      let all : List MainRow = main_rows_in (table_named main tables) in
      let now : total 32 (weight_of_resource_group weigh) (regrouped_in main item_in others) ≡ total 32 (weight_of_resource_group weigh) (regrouped (pairs_in r) (pairs_in s) (item_in tables) rows) =
      ap (total 32 (weight_of_resource_group weigh)) others_are
      ∙ sym (regrouped_weigh weigh (pairs_under resources r) (pairs_in (attributes_under table.ResourceAttrs resources r)) (pairs_under scopes s)
      (pairs_in (attributes_under table.ScopeAttrs scopes s)) item_before (item_in others)
      (λ id. kept_pairs_weigh table.ResourceAttrs (under resources (attribute_rows_in r)) refl low_r id)
      (λ id. kept_pairs_weigh table.ScopeAttrs (under scopes (attribute_rows_in s)) refl low_s id) same (renewed rows))
      ∙ renewed_weigh weigh (pairs_in r) (pairs_under resources r) (pairs_in s) (pairs_under scopes s) (item_in tables) item_before rows
      (finds_pairs resources r) (finds_pairs scopes s)
      (renews_items (pairs_in r) (pairs_under resources r) (pairs_in s) (pairs_under scopes s) item (found tables) before 0 rows by_place) in
      let fewer : total 32 (weight_of_resource_group weigh) (regrouped (pairs_in r) (pairs_in s) (item_in tables) rows)
      ≤ total 32 (weight_of_resource_group weigh) (regrouped (pairs_in r) (pairs_in s) (item_in tables) all) =
      subst (λ (some : List MainRow). total 32 (weight_of_resource_group weigh) (regrouped (pairs_in r) (pairs_in s) (item_in tables) some)
      ≤ total 32 (weight_of_resource_group weigh) (regrouped (pairs_in r) (pairs_in s) (item_in tables) all)) (sym are)
      (fewer_weigh weigh (pairs_in r) (pairs_in s) (item_in tables) test all) in
      omega (arith, now, fewer)
