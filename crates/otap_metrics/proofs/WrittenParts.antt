-- What is written of a request of metrics, as the tables that it is written as.
use Rattle.std.proofs.Common.{◌≡◌, ℕ, ◌<◌, ◌≤◌, ◌^◌, List, [], ◌∷◌, ◌++◌, None, length, map, refl, sym, ap, ◌∙◌, arith}
use Rattle.std.specs.List.{flat_map}
use Rattle.std.proofs.lemmas.List.{length-map}
use Rattle.lists.proofs.Every.{map_over}
use Rattle.otlp_model.specs.declared.groups.Resource.{Resource}
use Rattle.otlp_model.specs.declared.groups.Scope.{Scope}
use Rattle.otlp_model.specs.declared.groups.ResourceGroup.{ResourceGroup}
use Rattle.otlp_model.specs.declared.metrics.Metric.{Metric}
use Rattle.otlp_model.specs.declared.value.Pair.{Pair}
use Rattle.otap_cells.specs.declared.payload.Kind.{Kind}
use Rattle.otap_cells.specs.declared.payload.Kind.TheVariants as table
use Rattle.otap_cells.specs.Cells.{Cell}
use Rattle.otap_cells.specs.Columns.{coding_at}
use Rattle.otap_cells.specs.Continuing.{again_of}
use Rattle.otap_cells.specs.Sets.{IsSet, tables_in}
use Rattle.otap_cells.specs.Tables.{Table, profile_table}
use Rattle.otap_groups.specs.declared.flat.Flat.{Flat}
use Rattle.otap_groups.specs.declared.flat.Placed.{Placed}
use Rattle.otap_groups.specs.Flat.{FlatIn, PlacedIn, flat_items, items_of, placed, resources_of, scopes_of}
use Rattle.otap_groups.specs.Stored.{main_table, part_table, stored_parts, stored_rows}
use Rattle.otap_groups.specs.Views.{seen_flat, seen_placed}
use Rattle.otap_groups.proofs.FlatItems.{items_of_rows, parts_of_rows}
use Rattle.otap_attrs.specs.Tables.{attribute_table, beside_kind, where_rows}
use Rattle.otap_attrs.proofs.FilledTables.{added, added_all, filled, filled_set, filled_tables}
use Rattle.otap_attrs.proofs.FoundLists.{found_table}
use Rattle.otap_checks.specs.Written.{table_of, tables_written}
use Rattle.otap_checks.proofs.SeenParts.{table_seen}
use Rattle.otap_points.specs.Points.{exemplar_cells, hist_point_cells, point_cells, sum_point_cells}
use Rattle.otap_metrics.specs.Metrics.{metric_cells}
use Rattle.otap_metrics.specs.Tables.{below_metrics, exemplar_lists, exemplar_pairs, hist_exemplar_lists, hist_exemplar_pairs, hist_lists, hist_pairs, point_lists, point_pairs, summary_lists, summary_pairs, tables_of_metrics}

-- ---- what is found, by what it is seen as

pub found_few : {B X : Type 0} (deref : B → X) (found : List B) (xs : List X) (n : ℕ) → map deref found ≡ xs → length xs ≤ n → length found ≤ n
found_few deref found xs n is few =
    let a = length-map found deref in
    let b = ap length is in
    omega (arith, a, b, few)

pub rows_few : (gs : List (ResourceGroup Metric)) (rows : List (Flat Metric)) → map seen_flat rows ≡ flat_items gs → length (items_of gs) < 2 ^ 32 → length rows < 2 ^ 32
rows_few gs rows is few =
    let a = found_few (λ (f : Flat Metric). f.item.now) rows (items_of gs) 4294967295 (items_of_rows rows gs is) (omega (arith, few)) in
    omega (arith, a)

pub metrics_seen : (gs : List (ResourceGroup Metric)) (rows : List (Flat Metric)) (metrics : List (Placed Metric)) → map seen_flat rows ≡ flat_items gs
    → map (λ (p : Placed Metric). p.part.now) metrics ≡ map (λ (f : Flat Metric). f.item.now) rows → map (λ (p : Placed Metric). p.part.now) metrics ≡ items_of gs
metrics_seen gs rows metrics is same = same ∙ items_of_rows rows gs is

-- parts of parents
module _ {P C : Type 0} (parts : P → List C) (ps : List P) (parents : List (Placed P)) (found : List (Placed C))
    (are : map (λ (p : Placed P). p.part.now) parents ≡ ps) (is : map seen_placed found ≡ placed (map (λ (p : Placed P). parts p.part.now) parents)) where
  pub parts_placed : map seen_placed found ≡ placed (map parts ps)
  parts_placed = is ∙ ap placed (map_over (λ (p : Placed P). p.part.now) parts parents ∙ ap (map parts) are)

  pub parts_seen : map (λ (p : Placed C). p.part.now) found ≡ flat_map (λ (cs : List C). cs) (map parts ps)
  parts_seen = parts_of_rows found (map parts ps) parts_placed

  pub parts_table : (kind : Kind) (cells_of : C → List Cell)
      → profile_table kind (stored_parts (coding_at kind 1) (again_of kind) cells_of 0 0 None (map seen_placed found)) ≡ part_table kind cells_of (map parts ps)
  unfolding part_table
  parts_table kind cells_of = ap (λ (ps : List (PlacedIn C)). profile_table kind (stored_parts (coding_at kind 1) (again_of kind) cells_of 0 0 None ps)) parts_placed

  -- where the writer knows its kind
  pub table_of_kind : (kind other : Kind) (cells_of : C → List Cell) → other ≡ kind
      → profile_table other (stored_parts (coding_at other 1) (again_of other) cells_of 0 0 None (map seen_placed found)) ≡ part_table kind cells_of (map parts ps)
  table_of_kind kind other cells_of same =
      ap (λ (k : Kind). profile_table k (stored_parts (coding_at k 1) (again_of k) cells_of 0 0 None (map seen_placed found))) same ∙ parts_table kind cells_of

pub main_is : (gs : List (ResourceGroup Metric)) (rows : List (Flat Metric)) (main : Table) → map seen_flat rows ≡ flat_items gs
    → main ≡ profile_table table.Metrics (stored_rows metric_cells 0 0 0 (map seen_flat rows)) → main ≡ main_table table.Metrics metric_cells gs
unfolding main_table
main_is gs rows main is made = made ∙ ap (λ (fs : List (FlatIn Metric)). profile_table table.Metrics (stored_rows metric_cells 0 0 0 fs)) is

pub pairs_table : {B X : Type 0} (kind : Kind) (deref : B → X) (pairs : X → List Pair) (found : List B) (xs : List X)
    → map deref found ≡ xs → attribute_table kind (map (λ b. pairs (deref b)) found) ≡ attribute_table kind (map pairs xs)
pairs_table kind deref pairs found xs is = found_table kind deref pairs found xs _ is refl

-- ---- the set

abbrev pub Items : Type 0
Items = List (Kind × Table)

pub pushed : (main r s n y h np yp hp x e xp ep : Table) (i0 i1 i2 i3 i4 i5 i6 i7 i8 i9 i10 i11 i12 i13 : Items) → i0 ≡ [] → i1 ≡ i0 ++ (table.Metrics, main) ∷ [] → main.kind ≡ table.Metrics
    → i2 ≡ i1 ++ map beside_kind (where_rows r)
    → i3 ≡ i2 ++ map beside_kind (where_rows s)
    → i4 ≡ i3 ++ map beside_kind (where_rows n)
    → i5 ≡ i4 ++ map beside_kind (where_rows y)
    → i6 ≡ i5 ++ map beside_kind (where_rows h)
    → i7 ≡ i6 ++ map beside_kind (where_rows np)
    → i8 ≡ i7 ++ map beside_kind (where_rows yp)
    → i9 ≡ i8 ++ map beside_kind (where_rows hp)
    → i10 ≡ i9 ++ map beside_kind (where_rows x)
    → i11 ≡ i10 ++ map beside_kind (where_rows e)
    → i12 ≡ i11 ++ map beside_kind (where_rows xp)
    → i13 ≡ i12 ++ map beside_kind (where_rows ep)
    → i13 ≡ map beside_kind (main ∷ filled (r ∷ s ∷ n ∷ y ∷ h ∷ np ∷ yp ∷ hp ∷ x ∷ e ∷ xp ∷ ep ∷ []))
pushed main r s n y h np yp hp x e xp ep i0 i1 i2 i3 i4 i5 i6 i7 i8 i9 i10 i11 i12 i13 e0 e1 km e2 e3 e4 e5 e6 e7 e8 e9 e10 e11 e12 e13 =
    let b12 = added i12 i13 i13 ep [] e13 (added_all i13) in
    let b11 = added i11 i12 i13 xp (ep ∷ []) e12 b12 in
    let b10 = added i10 i11 i13 e (xp ∷ ep ∷ []) e11 b11 in
    let b9 = added i9 i10 i13 x (e ∷ xp ∷ ep ∷ []) e10 b10 in
    let b8 = added i8 i9 i13 hp (x ∷ e ∷ xp ∷ ep ∷ []) e9 b9 in
    let b7 = added i7 i8 i13 yp (hp ∷ x ∷ e ∷ xp ∷ ep ∷ []) e8 b8 in
    let b6 = added i6 i7 i13 np (yp ∷ hp ∷ x ∷ e ∷ xp ∷ ep ∷ []) e7 b7 in
    let b5 = added i5 i6 i13 h (np ∷ yp ∷ hp ∷ x ∷ e ∷ xp ∷ ep ∷ []) e6 b6 in
    let b4 = added i4 i5 i13 y (h ∷ np ∷ yp ∷ hp ∷ x ∷ e ∷ xp ∷ ep ∷ []) e5 b5 in
    let b3 = added i3 i4 i13 n (y ∷ h ∷ np ∷ yp ∷ hp ∷ x ∷ e ∷ xp ∷ ep ∷ []) e4 b4 in
    let b2 = added i2 i3 i13 s (n ∷ y ∷ h ∷ np ∷ yp ∷ hp ∷ x ∷ e ∷ xp ∷ ep ∷ []) e3 b3 in
    let b1 = added i1 i2 i13 r (s ∷ n ∷ y ∷ h ∷ np ∷ yp ∷ hp ∷ x ∷ e ∷ xp ∷ ep ∷ []) e2 b2 in
    let front : i1 ≡ beside_kind main ∷ [] = e1 ∙ ap (λ (xs : Items). xs ++ (table.Metrics, main) ∷ []) e0 ∙ (λ i. (sym km i, main) ∷ []) in
    b1 ∙ ap (λ (xs : Items). xs ++ map beside_kind (filled (r ∷ s ∷ n ∷ y ∷ h ∷ np ∷ yp ∷ hp ∷ x ∷ e ∷ xp ∷ ep ∷ []))) front

module _ (gs : List (ResourceGroup Metric)) (items : Items) (main n y h np yp hp x e xp ep : Table)
    (are : items ≡ map beside_kind (main ∷ filled (attribute_table table.ResourceAttrs (map (λ (resource : Resource). resource.pairs) (resources_of gs))
    ∷ attribute_table table.ScopeAttrs (map (λ (scope : Scope). scope.pairs) (scopes_of gs))
    ∷ n ∷ y ∷ h ∷ np ∷ yp ∷ hp ∷ x ∷ e ∷ xp ∷ ep ∷ [])))
    (is_main : main ≡ main_table table.Metrics metric_cells gs)
    (is_n : n ≡ part_table table.NumberPoints point_cells (point_lists gs))
    (is_y : y ≡ part_table table.SummaryPoints sum_point_cells (summary_lists gs))
    (is_h : h ≡ part_table table.HistPoints hist_point_cells (hist_lists gs))
    (is_np : np ≡ attribute_table table.NumberPointAttrs (point_pairs gs))
    (is_yp : yp ≡ attribute_table table.SummaryPointAttrs (summary_pairs gs))
    (is_hp : hp ≡ attribute_table table.HistPointAttrs (hist_pairs gs))
    (is_x : x ≡ part_table table.NumberExemplars exemplar_cells (exemplar_lists gs))
    (is_e : e ≡ part_table table.HistExemplars exemplar_cells (hist_exemplar_lists gs))
    (is_xp : xp ≡ attribute_table table.NumberExemplarAttrs (exemplar_pairs gs))
    (is_ep : ep ≡ attribute_table table.HistExemplarAttrs (hist_exemplar_pairs gs)) where
  items_are : items ≡ map beside_kind (main_table table.Metrics metric_cells gs ∷ filled (map table_of (below_metrics gs)))
  items_are =
      are ∙ (λ i. map beside_kind (is_main i ∷ filled (attribute_table table.ResourceAttrs (map (λ (resource : Resource). resource.pairs) (resources_of gs))
      ∷ attribute_table table.ScopeAttrs (map (λ (scope : Scope). scope.pairs) (scopes_of gs))
      ∷ (is_n ∙ sym (table_seen point_cells table.NumberPoints (point_lists gs))) i
      ∷ (is_y ∙ sym (table_seen sum_point_cells table.SummaryPoints (summary_lists gs))) i
      ∷ (is_h ∙ sym (table_seen hist_point_cells table.HistPoints (hist_lists gs))) i
      ∷ is_np i
      ∷ is_yp i
      ∷ is_hp i
      ∷ (is_x ∙ sym (table_seen exemplar_cells table.NumberExemplars (exemplar_lists gs))) i
      ∷ (is_e ∙ sym (table_seen exemplar_cells table.HistExemplars (hist_exemplar_lists gs))) i
      ∷ is_xp i
      ∷ is_ep i ∷ [])))

  tables_are : tables_in (λ t. t) items ≡ tables_of_metrics gs
  unfolding tables_of_metrics tables_written
  tables_are = filled_tables (main_table table.Metrics metric_cells gs) (map table_of (below_metrics gs)) items items_are

  pub written : (groups : List (ResourceGroup Metric)) → gs ≡ groups → tables_in (λ t. t) items ≡ tables_of_metrics groups
  written groups same = tables_are ∙ ap tables_of_metrics same

  pub written_set : IsSet (λ t. t) items
  unfolding main_table part_table attribute_table
  written_set = filled_set (main_table table.Metrics metric_cells gs) (map table_of (below_metrics gs)) items items_are refl
