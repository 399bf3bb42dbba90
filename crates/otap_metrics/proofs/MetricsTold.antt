-- The tables of a request of metrics tell what the request tells, and their request weighs no more.
use Rattle.std.proofs.Common.{◌≡◌, ℕ, ◌≤◌, Bool, List, Option, refl, sym, ap, ◌∙◌, subst, arith, inl, inr}
use Rattle.std.specs.Prelude.{ℤ, ◌==◌}
use Rattle.std.specs.List.{AllZip}
use Rattle.std.proofs.lemmas.Bool.{cases_Bool}
use Rattle.otlp_model.proofs.WithItems.{telemetry_kept}
use Rattle.otlp_model.specs.Limits.{weight_limit}
use Rattle.otlp_model.specs.Profile.{IsProfile}
use Rattle.otlp_model.specs.Real.{IsReal}
use Rattle.otlp_model.specs.Same.{Same, SameExemplar, SameHistPoint, SameMetric, SameOften, SamePoint, SameShape, SameSumPoint, SameTelemetry}
use Rattle.otlp_model.specs.Telemetry.{ItemEntry, Item, groups_with_items, metric, telemetry}
use Rattle.otlp_model.specs.Weight.{total, weight_of, weight_of_exemplar, weight_of_hist_point, weight_of_metric, weight_of_pair, weight_of_point, weight_of_resource_group, weight_of_shape, weight_of_sum_point}
use Rattle.otlp_model.specs.declared.groups.ResourceGroup.{ResourceGroup}
use Rattle.otlp_model.specs.declared.histograms.HistPoint.{HistPoint}
use Rattle.otlp_model.specs.declared.histograms.SumPoint.{SumPoint}
use Rattle.otlp_model.specs.declared.metrics.Exemplar.{Exemplar}
use Rattle.otlp_model.specs.declared.metrics.Metric.{Metric}
use Rattle.otlp_model.specs.declared.metrics.Point.{Point}
use Rattle.otlp_model.specs.declared.request.Request.TheVariants.{Metrics}
use Rattle.otlp_model.specs.declared.value.Pair.{Pair}
use Rattle.otap_cells.specs.declared.payload.Kind.TheVariants as table
use Rattle.otap_cells.specs.Cells.{Cell, nat_in, cell_at}
use Rattle.otap_cells.specs.Scalars.{flag_in, int_in}
use Rattle.otap_cells.specs.Named.{table_named}
use Rattle.otap_cells.specs.Tables.{Table}
use Rattle.otap_groups.specs.Children.{Agree, children, numbered}
use Rattle.otap_groups.specs.Flat.{flat_items, numbered_rows, part_rows, placed, resource_pairs, scope_pairs}
use Rattle.otap_groups.specs.Groups.{regrouped}
use Rattle.otap_groups.specs.Rows.{ChildRow}
use Rattle.otap_groups.specs.Stored.{part_table}
use Rattle.otap_groups.proofs.AlikeLaws.{alike_children}
use Rattle.otap_groups.proofs.GroupsTold.{groups_told}
use Rattle.otap_groups.proofs.LightGroups.{children_weigh, kept_weigh, regrouped_weigh}
use Rattle.otap_attrs.specs.Tables.{attribute_table}
use Rattle.otap_attrs.specs.Index.{pairs_in}
use Rattle.otap_checks.specs.Reading.{main_rows_in, part_rows_in}
use Rattle.otap_checks.proofs.PairsAgain.{sorted_alike, sorted_weigh, unsorted}
use Rattle.otap_checks.proofs.RowsAgain.{main_rows_again, part_rows_again}
use Rattle.otap_metrics.specs.Metrics.{Below, metric_cells, metric_of, shape_of}
use Rattle.otap_points.specs.Points.{exemplar_cells, exemplar_of, point_cells, point_of}
use Rattle.otap_points.specs.Found.{exemplar_in, exemplars_in, point_in, points_in}
use Rattle.otap_points.proofs.PointColumns.{exemplars_are_parts, points_are_parts}
use Rattle.otap_metrics.specs.Tables.{exemplar_lists, exemplar_pairs, hist_lists, point_lists, point_pairs, summary_lists}
use Rattle.otap_metrics.proofs.FewParts.{few_all_exemplars, few_all_points, few_exemplar_lists, few_exemplar_pairs, few_metrics, few_point_lists, few_point_pairs, few_resource_pairs, few_scope_pairs}
use Rattle.otap_metrics.proofs.FoundParts.{exemplars_found, groups_again, metric_found, metrics_read, points_found, resources_agree, scopes_agree, unsorted_back}
use Rattle.otap_checks.proofs.MainKinds.{metrics_are_main}
use Rattle.otap_metrics.proofs.NamedTables.{HoldMetrics}

-- the request that tables make, where the points of histograms and summaries are found in these ways
abbrev pub regrouped_with : (Option ℕ → List HistPoint) → (Option ℕ → List SumPoint) → List Table → List (ResourceGroup Metric)
regrouped_with hists summaries tables = regrouped
    (pairs_in (table_named table.ResourceAttrs tables))
    (pairs_in (table_named table.ScopeAttrs tables))
    (λ id cells. metric_of cells (record { points = points_in tables id; hist_points = hists id; summary_points = summaries id }))
    (main_rows_in (table_named table.Metrics tables))

-- ---- parts that are read alike

pub same_exemplar : (cells : List Cell) (xs ys : List Pair) → SameOften xs ys → SameExemplar (exemplar_of cells xs) (exemplar_of cells ys)
unfolding exemplar_of
same_exemplar cells xs ys same = record { scalars = refl; pairs = same }

same_point : (cells : List Cell) (xs ys : List Pair) (es fs : List Exemplar) → SameOften xs ys → AllZip SameExemplar es fs → SamePoint (point_of cells xs es) (point_of cells ys fs)
unfolding point_of
same_point cells xs ys es fs same alike = record { scalars = refl; pairs = same; exemplars = alike }

pub record SameBelow (x y : Below) : Type 0 where
  pub points : AllZip SamePoint x.points y.points
  pub hist_points : AllZip SameHistPoint x.hist_points y.hist_points
  pub summary_points : AllZip SameSumPoint x.summary_points y.summary_points

same_shape : (kind : ℕ) (t : ℤ) (b : Bool) (x y : Below) → SameBelow x y → SameShape (shape_of kind t b x) (shape_of kind t b y)
same_shape kind t b x y same = elim (cases_Bool (kind == 1)) [
  | inl gauge ↦ rw gauge same.points
  | inr e1 ↦ rw e1 (elim (cases_Bool (kind == 2)) [
    | inl sum ↦ rw sum (same.points, refl, refl)
    | inr e2 ↦ rw e2 (elim (cases_Bool (kind == 3)) [
      | inl hist ↦ rw hist (same.hist_points, refl)
      | inr e3 ↦ rw e3 (elim (cases_Bool (kind == 5)) [
        | inl summary ↦ rw summary same.summary_points
        | inr e5 ↦ rw e5 tt
      ])
    ])
  ])
]

same_metric : (cells : List Cell) (x y : Below) → SameBelow x y → SameMetric (metric_of cells x) (metric_of cells y)
unfolding metric_of
same_metric cells x y same = record { scalars = refl; shape = same_shape (nat_in (cell_at cells 0)) (int_in (cell_at cells 4)) (flag_in (cell_at cells 5)) x y same }

-- ---- parts that weigh the same

pub exemplar_weighs : (cells : List Cell) (xs ys : List Pair) → total 32 weight_of_pair xs ≡ total 32 weight_of_pair ys
    → weight_of_exemplar (exemplar_of cells xs) ≡ weight_of_exemplar (exemplar_of cells ys)
unfolding exemplar_of
exemplar_weighs cells xs ys same = omega (arith, same)

point_weighs : (cells : List Cell) (xs ys : List Pair) (es fs : List Exemplar) → total 32 weight_of_pair xs ≡ total 32 weight_of_pair ys
    → total 32 weight_of_exemplar es ≡ total 32 weight_of_exemplar fs → weight_of_point (point_of cells xs es) ≡ weight_of_point (point_of cells ys fs)
unfolding point_of
point_weighs cells xs ys es fs same alike = omega (arith, same, alike)

pub record WeighSame (x y : Below) : Type 0 where
  pub points : total 32 weight_of_point x.points ≡ total 32 weight_of_point y.points
  pub hist_points : total 32 weight_of_hist_point x.hist_points ≡ total 32 weight_of_hist_point y.hist_points
  pub summary_points : total 32 weight_of_sum_point x.summary_points ≡ total 32 weight_of_sum_point y.summary_points

shape_weighs : (kind : ℕ) (t : ℤ) (b : Bool) (x y : Below) → WeighSame x y → weight_of_shape (shape_of kind t b x) ≡ weight_of_shape (shape_of kind t b y)
shape_weighs kind t b x y same = elim (cases_Bool (kind == 1)) [
  | inl gauge ↦ rw gauge same.points
  | inr e1 ↦ rw e1 (elim (cases_Bool (kind == 2)) [
    | inl sum ↦ rw sum same.points
    | inr e2 ↦ rw e2 (elim (cases_Bool (kind == 3)) [
      | inl hist ↦ rw hist same.hist_points
      | inr e3 ↦ rw e3 (elim (cases_Bool (kind == 5)) [
        | inl summary ↦ rw summary same.summary_points
        | inr e5 ↦ rw e5 refl
      ])
    ])
  ])
]

metric_weighs : (cells : List Cell) (x y : Below) → WeighSame x y → weight_of_metric (metric_of cells x) ≡ weight_of_metric (metric_of cells y)
unfolding metric_of
metric_weighs cells x y same = let a = shape_weighs (nat_in (cell_at cells 0)) (int_in (cell_at cells 4)) (flag_in (cell_at cells 5)) x y same in omega (arith, a)

-- ---- all of a request

module _ (groups : List (ResourceGroup Metric)) (light : weight_of (Metrics groups) ≤ weight_limit) where
  abbrev r : Table
  r = attribute_table table.ResourceAttrs (resource_pairs groups)

  abbrev s : Table
  s = attribute_table table.ScopeAttrs (scope_pairs groups)

  abbrev n : Table
  n = part_table table.NumberPoints point_cells (point_lists groups)

  abbrev np : Table
  np = attribute_table table.NumberPointAttrs (point_pairs groups)

  abbrev x : Table
  x = part_table table.NumberExemplars exemplar_cells (exemplar_lists groups)

  abbrev xp : Table
  xp = attribute_table table.NumberExemplarAttrs (exemplar_pairs groups)

  -- the points that these tables have
  abbrev points_with : Table → Table → Table → Table → Option ℕ → List Point
  points_with n np x xp = children (point_in np (exemplars_in x xp)) (part_rows_in n)

  exemplar_rows : part_rows numbered exemplar_cells 0 (placed (exemplar_lists groups)) ≡ part_rows_in x
  exemplar_rows = part_rows_again table.NumberExemplars exemplar_cells (exemplar_lists groups) exemplars_are_parts (few_exemplar_lists groups light) (few_all_exemplars groups light)

  point_rows : part_rows numbered point_cells 0 (placed (point_lists groups)) ≡ part_rows_in n
  point_rows = part_rows_again table.NumberPoints point_cells (point_lists groups) points_are_parts (few_point_lists groups light) (few_all_points groups light)

  abbrev found_exemplar : Option ℕ → List Cell → Exemplar
  found_exemplar id cells = exemplar_of cells (unsorted (exemplar_pairs groups) id)

  abbrev found_point : Option ℕ → List Cell → Point
  found_point id cells = point_of cells (unsorted (point_pairs groups) id) (exemplars_found groups id)

  exemplars_alike : (parent : Option ℕ) → AllZip SameExemplar (exemplars_found groups parent) (exemplars_in x xp parent)
  exemplars_alike parent =
      subst (λ (rows : List ChildRow). AllZip SameExemplar (exemplars_found groups parent) (children (exemplar_in xp) rows parent)) exemplar_rows
      (alike_children SameExemplar found_exemplar (exemplar_in xp)
      (λ id cells. same_exemplar cells (unsorted (exemplar_pairs groups) id) (pairs_in xp id) (sorted_alike table.NumberExemplarAttrs (exemplar_pairs groups) refl (few_exemplar_pairs groups light) id))
      (part_rows numbered exemplar_cells 0 (placed (exemplar_lists groups))) parent)

  points_alike : (parent : Option ℕ) → AllZip SamePoint (points_found groups parent) (points_with n np x xp parent)
  points_alike parent =
      subst (λ (rows : List ChildRow). AllZip SamePoint (points_found groups parent) (children (point_in np (exemplars_in x xp)) rows parent)) point_rows
      (alike_children SamePoint found_point (point_in np (exemplars_in x xp))
      (λ id cells. same_point cells (unsorted (point_pairs groups) id) (pairs_in np id) (exemplars_found groups id) (exemplars_in x xp id)
      (sorted_alike table.NumberPointAttrs (point_pairs groups) refl (few_point_pairs groups light) id) (exemplars_alike id))
      (part_rows numbered point_cells 0 (placed (point_lists groups))) parent)

  exemplars_weigh : (parent : Option ℕ) → total 32 weight_of_exemplar (exemplars_found groups parent) ≡ total 32 weight_of_exemplar (exemplars_in x xp parent)
  exemplars_weigh parent =
      subst (λ (rows : List ChildRow). total 32 weight_of_exemplar (exemplars_found groups parent) ≡ total 32 weight_of_exemplar (children (exemplar_in xp) rows parent)) exemplar_rows
      (children_weigh weight_of_exemplar found_exemplar (exemplar_in xp)
      (λ id cells. exemplar_weighs cells (unsorted (exemplar_pairs groups) id) (pairs_in xp id) (sorted_weigh table.NumberExemplarAttrs (exemplar_pairs groups) refl (few_exemplar_pairs groups light) id))
      (part_rows numbered exemplar_cells 0 (placed (exemplar_lists groups))) parent)

  points_weigh : (parent : Option ℕ) → total 32 weight_of_point (points_found groups parent) ≡ total 32 weight_of_point (points_with n np x xp parent)
  points_weigh parent =
      subst (λ (rows : List ChildRow). total 32 weight_of_point (points_found groups parent) ≡ total 32 weight_of_point (children (point_in np (exemplars_in x xp)) rows parent)) point_rows
      (children_weigh weight_of_point found_point (point_in np (exemplars_in x xp))
      (λ id cells. point_weighs cells (unsorted (point_pairs groups) id) (pairs_in np id) (exemplars_found groups id) (exemplars_in x xp id)
      (sorted_weigh table.NumberPointAttrs (point_pairs groups) refl (few_point_pairs groups light) id) (exemplars_weigh id))
      (part_rows numbered point_cells 0 (placed (point_lists groups))) parent)

  abbrev metric_with : (Option ℕ → List HistPoint) → (Option ℕ → List SumPoint) → Option ℕ → List Cell → Metric
  metric_with hists summaries id cells = metric_of cells (record { points = points_with n np x xp id; hist_points = hists id; summary_points = summaries id })

  regrouped_is : (tables : List Table) → HoldMetrics groups tables → (hists : Option ℕ → List HistPoint) (summaries : Option ℕ → List SumPoint)
      → regrouped (pairs_in r) (pairs_in s) (metric_with hists summaries) (numbered_rows metric_cells 0 (flat_items groups)) ≡ regrouped_with hists summaries tables
  regrouped_is tables hold hists summaries = λ i. regrouped (pairs_in (sym hold.resources i)) (pairs_in (sym hold.scopes i))
      (λ id cells. metric_of cells (record {
        points = points_with (sym hold.points i) (sym hold.of_points i) (sym hold.exemplars i) (sym hold.of_exemplars i) id;
        hist_points = hists id;
        summary_points = summaries id;
      }))
      ((main_rows_again table.Metrics metric_cells groups metrics_are_main (few_metrics groups light) ∙ ap main_rows_in (sym hold.main)) i)

pub same_again : (groups : List (ResourceGroup Metric)) (tables : List Table) (hists found_hists : Option ℕ → List HistPoint) (summaries found_summaries : Option ℕ → List SumPoint)
    → IsReal (Metrics groups) → IsProfile (Metrics groups) → weight_of (Metrics groups) ≤ weight_limit → HoldMetrics groups tables
    → Agree hists 0 (hist_lists groups) → Agree summaries 0 (summary_lists groups)
    → ((id : Option ℕ) → AllZip SameHistPoint (hists id) (found_hists id)) → ((id : Option ℕ) → AllZip SameSumPoint (summaries id) (found_summaries id))
    → Same (Metrics groups) (Metrics (regrouped_with found_hists found_summaries tables))
same_again groups tables hists found_hists summaries found_summaries real is light hold of_hists of_summaries alike_hists alike_summaries =
    let back = groups_again groups real is in
    let found : SameTelemetry (telemetry (Metrics (groups_with_items groups)))
    (telemetry (Metrics (regrouped (pairs_in (r groups light)) (pairs_in (s groups light)) (metric_with groups light found_hists found_summaries) (numbered_rows metric_cells 0 (flat_items groups))))) =
    groups_told metric metric_cells (unsorted (resource_pairs groups)) (pairs_in (r groups light)) (unsorted (scope_pairs groups)) (pairs_in (s groups light))
    (metric_found groups hists summaries) (metric_with groups light found_hists found_summaries) groups (metrics_read groups back hists summaries of_hists of_summaries)
    (resources_agree groups back) (scopes_agree groups back)
    (sorted_alike table.ResourceAttrs (resource_pairs groups) refl (few_resource_pairs groups light)) (sorted_alike table.ScopeAttrs (scope_pairs groups) refl (few_scope_pairs groups light))
    (λ id cells. same_metric cells _ _ (record { points = points_alike groups light id; hist_points = alike_hists id; summary_points = alike_summaries id })) in
    subst (λ (xs : List (ItemEntry Item)). SameTelemetry xs (telemetry (Metrics (regrouped_with found_hists found_summaries tables)))) (telemetry_kept (Metrics groups))
    (subst (λ (gs : List (ResourceGroup Metric)). SameTelemetry (telemetry (Metrics (groups_with_items groups))) (telemetry (Metrics gs)))
    (regrouped_is groups light tables hold found_hists found_summaries) found)

pub light_tables : (groups : List (ResourceGroup Metric)) (tables : List Table) (hists found_hists : Option ℕ → List HistPoint) (summaries found_summaries : Option ℕ → List SumPoint)
    → IsReal (Metrics groups) → IsProfile (Metrics groups) → weight_of (Metrics groups) ≤ weight_limit → HoldMetrics groups tables
    → Agree hists 0 (hist_lists groups) → Agree summaries 0 (summary_lists groups)
    → ((id : Option ℕ) → total 32 weight_of_hist_point (hists id) ≡ total 32 weight_of_hist_point (found_hists id))
    → ((id : Option ℕ) → total 32 weight_of_sum_point (summaries id) ≡ total 32 weight_of_sum_point (found_summaries id))
    → weight_of (Metrics (regrouped_with found_hists found_summaries tables)) ≤ weight_of (Metrics groups)
light_tables groups tables hists found_hists summaries found_summaries real is light hold of_hists of_summaries weigh_hists weigh_summaries =
    let back = groups_again groups real is in
    let found = regrouped_weigh weight_of_metric (unsorted (resource_pairs groups)) (pairs_in (r groups light)) (unsorted (scope_pairs groups)) (pairs_in (s groups light))
    (metric_found groups hists summaries) (metric_with groups light found_hists found_summaries)
    (sorted_weigh table.ResourceAttrs (resource_pairs groups) refl (few_resource_pairs groups light)) (sorted_weigh table.ScopeAttrs (scope_pairs groups) refl (few_scope_pairs groups light))
    (λ id cells. metric_weighs cells _ _ (record { points = points_weigh groups light id; hist_points = weigh_hists id; summary_points = weigh_summaries id }))
    (numbered_rows metric_cells 0 (flat_items groups)) in
    let here : total 32 (weight_of_resource_group weight_of_metric) (groups_with_items groups) ≡ weight_of (Metrics (regrouped_with found_hists found_summaries tables)) =
    ap (total 32 (weight_of_resource_group weight_of_metric)) (sym (unsorted_back groups back hists summaries of_hists of_summaries)) ∙ found
    ∙ ap (total 32 (weight_of_resource_group weight_of_metric)) (regrouped_is groups light tables hold found_hists found_summaries) in
    let most = kept_weigh weight_of_metric groups in
    omega (arith, here, most)
