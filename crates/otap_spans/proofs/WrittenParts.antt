-- What is written of a request of spans, as the tables that it is written as.
use Rattle.std.proofs.Common.{◌≡◌, ℕ, ◌<◌, ◌≤◌, ◌^◌, List, [], ◌∷◌, ◌++◌, None, length, map, refl, sym, ap, ◌∙◌, arith}
use Rattle.std.specs.List.{flat_map}
use Rattle.std.proofs.lemmas.List.{length-map}
use Rattle.std.proofs.lemmas.List.Folds.{flat_map-map}
use Rattle.lists.proofs.Every.{map_over}
use Rattle.otlp_model.specs.declared.groups.Resource.{Resource}
use Rattle.otlp_model.specs.declared.groups.Scope.{Scope}
use Rattle.otlp_model.specs.declared.groups.ResourceGroup.{ResourceGroup}
use Rattle.otlp_model.specs.declared.spans.Span.{Span}
use Rattle.otlp_model.specs.declared.spans.Event.{Event}
use Rattle.otlp_model.specs.declared.spans.Link.{Link}
use Rattle.otlp_model.specs.declared.value.Pair.{Pair}
use Rattle.otap_cells.specs.declared.payload.Kind.{Kind}
use Rattle.otap_cells.specs.declared.payload.Kind.TheVariants as table
use Rattle.otap_cells.specs.Cells.{Cell}
use Rattle.otap_cells.specs.Columns.{coding_at}
use Rattle.otap_cells.specs.Continuing.{again_of}
use Rattle.otap_cells.specs.Sets.{IsSet, tables_in}
use Rattle.otap_cells.specs.Tables.{Table, profile_table}
use Rattle.otap_groups.specs.declared.flat.Flat.{Flat}
use Rattle.otap_groups.specs.declared.flat.Placed.{Placed}
use Rattle.otap_groups.specs.Flat.{FlatIn, PlacedIn, flat_items, items_of, placed, resources_of, scopes_of}
use Rattle.otap_groups.specs.Stored.{main_table, part_table, stored_parts, stored_rows}
use Rattle.otap_groups.specs.Views.{seen_flat, seen_placed}
use Rattle.otap_groups.proofs.FlatItems.{items_of_rows, parts_of_rows}
use Rattle.otap_attrs.specs.Tables.{attribute_table, beside_kind, where_rows}
use Rattle.otap_attrs.proofs.FilledTables.{added, added_all, filled, filled_set, filled_tables}
use Rattle.otap_attrs.proofs.FoundLists.{found_table}
use Rattle.otap_checks.specs.Written.{table_of, tables_written}
use Rattle.otap_checks.proofs.SeenParts.{table_seen}
use Rattle.otap_spans.specs.Records.{event_cells, link_cells, span_cells}
use Rattle.otap_spans.specs.Tables.{all_events, all_links, below_spans, event_lists, link_lists, tables_of_spans}

-- ---- what is found, by what it is seen as

pub found_few : {B X : Type 0} (deref : B → X) (found : List B) (xs : List X) (n : ℕ) → map deref found ≡ xs → length xs ≤ n → length found ≤ n
found_few deref found xs n is few =
    let a = length-map found deref in
    let b = ap length is in
    omega (arith, a, b, few)

pub rows_few : (gs : List (ResourceGroup Span)) (rows : List (Flat Span)) → map seen_flat rows ≡ flat_items gs → length (items_of gs) < 2 ^ 32 → length rows < 2 ^ 32
rows_few gs rows is few =
    let a = found_few (λ (f : Flat Span). f.item.now) rows (items_of gs) 4294967295 (items_of_rows rows gs is) (omega (arith, few)) in
    omega (arith, a)

pub spans_seen : (gs : List (ResourceGroup Span)) (rows : List (Flat Span)) (spans : List (Placed Span)) → map seen_flat rows ≡ flat_items gs
    → map (λ (p : Placed Span). p.part.now) spans ≡ map (λ (f : Flat Span). f.item.now) rows → map (λ (p : Placed Span). p.part.now) spans ≡ items_of gs
spans_seen gs rows spans is same = same ∙ items_of_rows rows gs is

-- parts of spans
module _ {C : Type 0} (parts : Span → List C) (gs : List (ResourceGroup Span)) (spans : List (Placed Span)) (found : List (Placed C))
    (are : map (λ (p : Placed Span). p.part.now) spans ≡ items_of gs) (is : map seen_placed found ≡ placed (map (λ (p : Placed Span). parts p.part.now) spans)) where
  pub parts_placed : map seen_placed found ≡ placed (map parts (items_of gs))
  parts_placed = is ∙ ap placed (map_over (λ (p : Placed Span). p.part.now) parts spans ∙ ap (map parts) are)

  pub parts_seen : map (λ (p : Placed C). p.part.now) found ≡ flat_map parts (items_of gs)
  parts_seen = parts_of_rows found (map parts (items_of gs)) parts_placed ∙ flat_map-map (λ (cs : List C). cs) parts (items_of gs)

  pub parts_table : (kind : Kind) (cells_of : C → List Cell)
      → profile_table kind (stored_parts (coding_at kind 1) (again_of kind) cells_of 0 0 None (map seen_placed found)) ≡ part_table kind cells_of (map parts (items_of gs))
  unfolding part_table
  parts_table kind cells_of = ap (λ (ps : List (PlacedIn C)). profile_table kind (stored_parts (coding_at kind 1) (again_of kind) cells_of 0 0 None ps)) parts_placed

pub main_is : (gs : List (ResourceGroup Span)) (rows : List (Flat Span)) (main : Table) → map seen_flat rows ≡ flat_items gs
    → main ≡ profile_table table.Spans (stored_rows span_cells 0 0 0 (map seen_flat rows)) → main ≡ main_table table.Spans span_cells gs
unfolding main_table
main_is gs rows main is made = made ∙ ap (λ (fs : List (FlatIn Span)). profile_table table.Spans (stored_rows span_cells 0 0 0 fs)) is

pub pairs_table : {B X : Type 0} (kind : Kind) (deref : B → X) (pairs : X → List Pair) (found : List B) (xs : List X)
    → map deref found ≡ xs → attribute_table kind (map (λ b. pairs (deref b)) found) ≡ attribute_table kind (map pairs xs)
pairs_table kind deref pairs found xs is = found_table kind deref pairs found xs _ is refl

-- ---- the set

abbrev pub Items : Type 0
Items = List (Kind × Table)

pub pushed : (main r s a e l ea la : Table) (i0 i1 i2 i3 i4 i5 i6 i7 i8 : Items) → i0 ≡ [] → i1 ≡ i0 ++ (table.Spans, main) ∷ [] → main.kind ≡ table.Spans
    → i2 ≡ i1 ++ map beside_kind (where_rows r) → i3 ≡ i2 ++ map beside_kind (where_rows s) → i4 ≡ i3 ++ map beside_kind (where_rows a)
    → i5 ≡ i4 ++ map beside_kind (where_rows e) → i6 ≡ i5 ++ map beside_kind (where_rows l) → i7 ≡ i6 ++ map beside_kind (where_rows ea)
    → i8 ≡ i7 ++ map beside_kind (where_rows la)
    → i8 ≡ map beside_kind (main ∷ filled (r ∷ s ∷ a ∷ e ∷ l ∷ ea ∷ la ∷ []))
pushed main r s a e l ea la i0 i1 i2 i3 i4 i5 i6 i7 i8 e0 e1 km e2 e3 e4 e5 e6 e7 e8 =
    let b7 = added i7 i8 i8 la [] e8 (added_all i8) in
    let b6 = added i6 i7 i8 ea (la ∷ []) e7 b7 in
    let b5 = added i5 i6 i8 l (ea ∷ la ∷ []) e6 b6 in
    let b4 = added i4 i5 i8 e (l ∷ ea ∷ la ∷ []) e5 b5 in
    let b3 = added i3 i4 i8 a (e ∷ l ∷ ea ∷ la ∷ []) e4 b4 in
    let b2 = added i2 i3 i8 s (a ∷ e ∷ l ∷ ea ∷ la ∷ []) e3 b3 in
    let b1 = added i1 i2 i8 r (s ∷ a ∷ e ∷ l ∷ ea ∷ la ∷ []) e2 b2 in
    let front : i1 ≡ beside_kind main ∷ [] = e1 ∙ ap (λ (xs : Items). xs ++ (table.Spans, main) ∷ []) e0 ∙ (λ i. (sym km i, main) ∷ []) in
    b1 ∙ ap (λ (xs : Items). xs ++ map beside_kind (filled (r ∷ s ∷ a ∷ e ∷ l ∷ ea ∷ la ∷ []))) front

module _ (gs : List (ResourceGroup Span)) (items : Items) (main a e l ea la : Table)
    (are : items ≡ map beside_kind (main ∷ filled (attribute_table table.ResourceAttrs (map (λ (resource : Resource). resource.pairs) (resources_of gs))
    ∷ attribute_table table.ScopeAttrs (map (λ (scope : Scope). scope.pairs) (scopes_of gs)) ∷ a ∷ e ∷ l ∷ ea ∷ la ∷ [])))
    (is_main : main ≡ main_table table.Spans span_cells gs)
    (is_a : a ≡ attribute_table table.SpanAttrs (map (λ (span : Span). span.pairs) (items_of gs)))
    (is_e : e ≡ part_table table.SpanEvents event_cells (map (λ (span : Span). span.events) (items_of gs)))
    (is_l : l ≡ part_table table.SpanLinks link_cells (map (λ (span : Span). span.links) (items_of gs)))
    (is_ea : ea ≡ attribute_table table.EventAttrs (map (λ (event : Event). event.pairs) (all_events gs)))
    (is_la : la ≡ attribute_table table.LinkAttrs (map (λ (link : Link). link.pairs) (all_links gs))) where
  items_are : items ≡ map beside_kind (main_table table.Spans span_cells gs ∷ filled (map table_of (below_spans gs)))
  items_are =
      are ∙ (λ i. map beside_kind (is_main i ∷ filled (attribute_table table.ResourceAttrs (map (λ (resource : Resource). resource.pairs) (resources_of gs))
      ∷ attribute_table table.ScopeAttrs (map (λ (scope : Scope). scope.pairs) (scopes_of gs)) ∷ is_a i ∷ (is_e ∙ sym (table_seen event_cells table.SpanEvents (event_lists gs))) i
      ∷ (is_l ∙ sym (table_seen link_cells table.SpanLinks (link_lists gs))) i ∷ is_ea i ∷ is_la i ∷ [])))

  tables_are : tables_in (λ t. t) items ≡ tables_of_spans gs
  unfolding tables_of_spans tables_written
  tables_are = filled_tables (main_table table.Spans span_cells gs) (map table_of (below_spans gs)) items items_are

  pub written : (groups : List (ResourceGroup Span)) → gs ≡ groups → tables_in (λ t. t) items ≡ tables_of_spans groups
  written groups same = tables_are ∙ ap tables_of_spans same

  pub written_set : IsSet (λ t. t) items
  unfolding main_table part_table attribute_table
  written_set = filled_set (main_table table.Spans span_cells gs) (map table_of (below_spans gs)) items items_are refl
