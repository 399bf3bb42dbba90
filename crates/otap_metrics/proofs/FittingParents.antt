-- The rows of metrics that are written have the numbers of their shapes, and points stand below metrics of their shape.
use Rattle.std.proofs.Common.{◌≡◌, ℕ, zero, suc, ◌+◌, ◌<◌, ◌≤◌, ◌^◌, Bool, true, false, inl, inr, List, [], ◌∷◌, ◌++◌, Option, Some, get_or, length, map, refl, sym, ◌∙◌, ap, subst, arith}
use Rattle.std.specs.Prelude.{◌⊎◌, Contains}
use Rattle.std.proofs.lemmas.Bool.{false≢true}
use Rattle.std.proofs.lemmas.List.{get_or-map, length-map}
use Rattle.lists.proofs.Every.{map_over}
use Rattle.otlp_model.specs.declared.groups.ResourceGroup.{ResourceGroup}
use Rattle.otlp_model.specs.declared.metrics.Metric.{Metric}
use Rattle.otlp_model.specs.declared.metrics.Shape.{Shape}
use Rattle.otlp_model.specs.declared.metrics.Shape.TheVariants as shapes
use Rattle.otap_cells.specs.declared.payload.Kind.{Kind}
use Rattle.otap_cells.specs.declared.payload.Kind.TheVariants as table
use Rattle.otap_cells.specs.Cells.{Cell, nat_in, cell_at}
use Rattle.otap_cells.proofs.ScalarLaws.{number_back}
use Rattle.otap_cells.specs.Tables.{Table}
use Rattle.otap_groups.specs.Children.{numbered}
use Rattle.otap_groups.specs.Flat.{FlatIn, PlacedIn, flat_items, items_of, numbered_rows, part_rows, placed, placed_at, placed_from}
use Rattle.otap_groups.specs.Kinds.{IsPart}
use Rattle.otap_groups.specs.Rows.{ChildRow, MainRow, id_at}
use Rattle.otap_groups.specs.Stored.{main_table, part_table, stored_rows}
use Rattle.otap_groups.proofs.FlatItems.{items_of_flat}
use Rattle.otap_groups.proofs.PartTables.{parents_of}
use Rattle.otap_groups.proofs.StoredRows.{own_ids_of, part_parents_of}
use Rattle.otap_checks.proofs.GivenColumns.{one_given}
use Rattle.otap_checks.specs.Shapes.{WrongParent, WrongType, has_numbers, is_type, type_at}
use Rattle.otap_checks.proofs.MainKinds.{metrics_are_main}
use Rattle.otap_metrics.specs.Metrics.{metric_cells, points_of, shape_number}

size_of_stored : (step r s : ℕ) (fs : List (FlatIn Metric)) → length (stored_rows metric_cells step r s fs) ≡ length fs
size_of_stored step r s [] = refl
size_of_stored step r s (f ∷ fs) = ap suc (size_of_stored 1 f.resource_id f.scope_id fs)

-- ---- the shapes of rows

abbrev types_of : List Metric → List ℕ
types_of metrics = map (λ (metric : Metric). shape_number metric.shape) metrics

types_from : (step r s : ℕ) (fs : List (FlatIn Metric))
    → map (λ (row : List Cell). nat_in (cell_at row 9)) (stored_rows metric_cells step r s fs) ≡ map (λ (f : FlatIn Metric). shape_number f.item.shape) fs
types_from step r s [] = refl
types_from step r s (f ∷ fs) = λ i. number_back (shape_number f.item.shape) i ∷ types_from 1 f.resource_id f.scope_id fs i

type_fits : (shape : Shape) → is_type (shape_number shape) ≡ true
type_fits shapes.Empty = refl
type_fits (shapes.Gauge points) = refl
type_fits (shapes.Sum points temporality monotonic) = refl
type_fits (shapes.Histogram points temporality) = refl
type_fits (shapes.Summary points) = refl

each_type : (metrics : List Metric) (row : ℕ) → is_type (get_or (types_of metrics) row 0) ≡ true
each_type [] row = refl
each_type (metric ∷ metrics) zero = type_fits metric.shape
each_type (metric ∷ metrics) (suc row) = each_type metrics row

module _ (groups : List (ResourceGroup Metric)) where
  abbrev main : Table
  main = main_table table.Metrics metric_cells groups

  type_is : (row : ℕ) → row < length main.rows → type_at main row ≡ get_or (types_of (items_of groups)) row 0
  unfolding main_table
  type_is row there =
      sym (get_or-map (λ (row : List Cell). nat_in (cell_at row 9)) main.rows row [] 0 there)
      ∙ ap (λ (types : List ℕ). get_or types row 0)
      (types_from 0 0 0 (flat_items groups) ∙ map_over (λ (f : FlatIn Metric). f.item) (λ (metric : Metric). shape_number metric.shape) (flat_items groups) ∙ ap types_of (items_of_flat groups))

  size_is : length main.rows ≡ length (flat_items groups)
  unfolding main_table
  size_is = size_of_stored 0 0 0 (flat_items groups)

  -- each row has the number of a shape
  pub types_fine : WrongType main → ⊥
  types_fine wrong = false≢true (sym wrong.is ∙ ap is_type (type_is wrong.row wrong.there) ∙ each_type (items_of groups) wrong.row)

-- ---- ids and parents

own_at : (n row : ℕ) (fs : List (FlatIn Metric)) → row < length fs → id_at (map (λ (row : MainRow). row.id) (numbered_rows metric_cells n fs)) row ≡ Some (n + row)
own_at n row [] there = absurd (omega arith)
own_at n zero (f ∷ fs) there = ap Some (omega arith)
own_at n (suc row) (f ∷ fs) there = own_at (suc n) row fs (omega arith) ∙ ap Some (omega arith)

module _ {C : Type 0} where
  abbrev parent_numbers : List (PlacedIn C) → List (Option ℕ)
  parent_numbers ps = map (λ (p : PlacedIn C). Some p.parent) ps

  parent_rows : (cells_of : C → List Cell) (n : ℕ) (ps : List (PlacedIn C)) → map (λ (row : ChildRow). row.parent) (part_rows numbered cells_of n ps) ≡ parent_numbers ps
  parent_rows cells_of n [] = refl
  parent_rows cells_of n (p ∷ ps) = ap (λ ids. Some p.parent ∷ ids) (parent_rows cells_of (suc n) ps)

  one_list_of : (k p : ℕ) (parts : List C) (ps : List (PlacedIn C)) → Contains (parent_numbers (map (placed_at k) parts ++ ps)) (Some p)
      → ((p ≡ k) × (parts ≡ [] → ⊥)) ⊎ Contains (parent_numbers ps) (Some p)
  one_list_of k p [] ps there = inr there
  one_list_of k p (part ∷ parts) ps (zero, within, at) =
      let same : k ≡ p = cc in
      inl (sym same, λ none. omega (arith, ap length none))
  one_list_of k p (part ∷ parts) ps (suc j, within, at) = elim (one_list_of k p parts ps (j, omega arith, at)) [
    | inl here ↦ inl (here.0, λ none. omega (arith, ap length none))
    | inr after ↦ inr after
  ]

  some_from : (k p : ℕ) (lists : List (List C)) → Contains (parent_numbers (placed_from k lists)) (Some p) → (j : ℕ) × (k + j ≡ p) × (get_or lists j [] ≡ [] → ⊥)
  some_from k p [] (j, within, at) = absurd (omega arith)
  some_from k p (parts ∷ lists) there = elim (one_list_of k p parts (placed_from (suc k) lists) there) [
    | inl here ↦ (0, omega (arith, here.0), here.1)
    | inr after ↦ (let found = some_from (suc k) p lists after in (suc found.0, omega (arith, found.1), found.2))
  ]

  -- each parent has parts
  some_parts : (cells_of : C → List Cell) (lists : List (List C)) (p : ℕ) → Contains (parents_of cells_of lists) (Some p) → get_or lists p [] ≡ [] → ⊥
  unfolding placed
  some_parts cells_of lists p there =
      let found = some_from 0 p lists (subst (λ ids. Contains ids (Some p)) (parent_rows cells_of 0 (placed lists)) there) in
      subst (λ (j : ℕ). get_or lists j [] ≡ [] → ⊥) (omega (arith, found.1)) found.2

-- ---- points below metrics

-- parts of some shapes alone: a shape that doesn't fit has none
module _ {C : Type 0} (fits : ℕ → Bool) (parts : Shape → List C) (fit : (shape : Shape) → fits (shape_number shape) ≡ false → parts shape ≡ []) where
  none_below : (metrics : List Metric) (row : ℕ) → fits (get_or (types_of metrics) row 0) ≡ false → get_or (map (λ (metric : Metric). parts metric.shape) metrics) row [] ≡ []
  none_below [] row other = refl
  none_below (metric ∷ metrics) zero other = fit metric.shape other
  none_below (metric ∷ metrics) (suc row) other = none_below metrics row other

  -- no part names a metric of another shape
  pub parents_fine : (groups : List (ResourceGroup Metric)) (kind : Kind) (cells_of : C → List Cell) → IsPart kind → length (items_of groups) ≤ 2 ^ 32
      → WrongParent fits (part_table kind cells_of (map (λ (metric : Metric). parts metric.shape) (items_of groups))) (main_table table.Metrics metric_cells groups) → ⊥
  parents_fine groups kind cells_of part few wrong =
      let lists : List (List C) = map (λ (metric : Metric). parts metric.shape) (items_of groups) in
      let few_lists : length lists ≤ 2 ^ 32 = (let size = length-map (items_of groups) (λ (metric : Metric). parts metric.shape) in omega (arith, size, few)) in
      let ids : wrong.ids ≡ map (λ (row : MainRow). row.id) (numbered_rows metric_cells 0 (flat_items groups)) =
      one_given (main groups) 0 wrong.ids _ wrong.known (own_ids_of metric_cells table.Metrics groups metrics_are_main few) in
      let parents : wrong.parents ≡ parents_of cells_of lists =
      one_given (part_table kind cells_of lists) 1 wrong.parents _ wrong.are (part_parents_of kind cells_of lists part few_lists) in
      let row : ℕ = wrong.is.row in
      let id : Some wrong.is.id ≡ Some row = sym wrong.is.own ∙ ap (λ ids. id_at ids row) ids
      ∙ own_at 0 row (flat_items groups) (let size = size_is groups in let there = wrong.is.there in omega (arith, size, there)) ∙ ap Some (omega arith) in
      some_parts cells_of lists row (subst (λ ids. Contains ids (Some row)) parents (subst (Contains wrong.parents) id wrong.is.named))
      (none_below (items_of groups) row (ap fits (sym (type_is groups row wrong.is.there)) ∙ wrong.is.other))

pub numbers_fit : (shape : Shape) → has_numbers (shape_number shape) ≡ false → points_of shape ≡ []
numbers_fit shapes.Empty other = refl
numbers_fit (shapes.Gauge points) other = absurd (false≢true (sym other))
numbers_fit (shapes.Sum points temporality monotonic) other = absurd (false≢true (sym other))
numbers_fit (shapes.Histogram points temporality) other = refl
numbers_fit (shapes.Summary points) other = refl
