-- What is found in the rows that are written for a request of metrics, before pairs are sorted: its points and exemplars, by the ids of
-- what they stand below.
use Rattle.std.proofs.Common.{◌≡◌, ℕ, suc, List, [], ◌∷◌, Option, map}
use Rattle.std.specs.Prelude.{All}
use Rattle.std.proofs.lemmas.List.Elements.{All-map, All-weaker, recursion_from_All}
use Rattle.lists.proofs.Every.{all_joined}
use Rattle.otlp_model.specs.Profile.{IsProfile, IsProfileMetric}
use Rattle.otlp_model.specs.Real.{IsReal, IsRealMetric}
use Rattle.otlp_model.specs.Telemetry.{groups_with_items}
use Rattle.otlp_model.specs.declared.groups.Resource.{Resource}
use Rattle.otlp_model.specs.declared.groups.Scope.{Scope}
use Rattle.otlp_model.specs.declared.groups.ResourceGroup.{ResourceGroup}
use Rattle.otlp_model.specs.declared.histograms.HistPoint.{HistPoint}
use Rattle.otlp_model.specs.declared.histograms.SumPoint.{SumPoint}
use Rattle.otlp_model.specs.declared.metrics.Exemplar.{Exemplar}
use Rattle.otlp_model.specs.declared.metrics.Metric.{Metric}
use Rattle.otlp_model.specs.declared.metrics.Point.{Point}
use Rattle.otlp_model.specs.declared.request.Request.TheVariants.{Metrics}
use Rattle.otlp_model.specs.declared.value.Pair.{Pair}
use Rattle.otap_cells.specs.Cells.{Cell}
use Rattle.otap_groups.specs.Children.{Agree, ReadsEach, children, numbered}
use Rattle.otap_groups.specs.Flat.{flat_items, items_of, numbered_rows, part_rows, placed, resources_of, scopes_of, resource_pairs, scope_pairs}
use Rattle.otap_groups.specs.Groups.{regrouped}
use Rattle.otap_groups.specs.Weighing.{CanWriteGroup}
use Rattle.otap_groups.proofs.Grouping.{groups_back}
use Rattle.otap_groups.proofs.ReadLaws.{agree_two, agrees_with, reads_with}
use Rattle.otap_groups.proofs.RealGroups.{real_groups}
use Rattle.otap_groups.proofs.WritableGroups.{all_items_can, all_resources_can, all_scopes_can}
use Rattle.otap_checks.proofs.PairsAgain.{AreBack, IsBackResource, IsBackScope, pairs_agree, pairs_back, unsorted}
use Rattle.otap_metrics.specs.Metrics.{Below, hist_points_of, metric_cells, metric_of, points_of, summary_points_of}
use Rattle.otap_points.specs.Points.{exemplar_cells, exemplar_of, point_cells, point_of}
use Rattle.otap_points.proofs.PointsBack.{IsBackExemplar, IsBackPoint}
use Rattle.otap_metrics.specs.Tables.{all_exemplars, all_points, exemplar_lists, exemplar_pairs, hist_lists, point_lists, point_pairs, summary_lists}
use Rattle.otap_metrics.proofs.MetricsBack.{IsBackMetric, below_of, metric_again}

-- ---- what is found

module _ (groups : List (ResourceGroup Metric)) where
  abbrev pub exemplars_found : Option ℕ → List Exemplar
  exemplars_found = children (λ id cells. exemplar_of cells (unsorted (exemplar_pairs groups) id)) (part_rows numbered exemplar_cells 0 (placed (exemplar_lists groups)))

  abbrev pub points_found : Option ℕ → List Point
  points_found =
      children (λ id cells. point_of cells (unsorted (point_pairs groups) id) (exemplars_found id)) (part_rows numbered point_cells 0 (placed (point_lists groups)))

  abbrev pub below_found : (Option ℕ → List HistPoint) → (Option ℕ → List SumPoint) → Option ℕ → Below
  below_found hists summaries id = record { points = points_found id; hist_points = hists id; summary_points = summaries id }

  abbrev pub metric_found : (Option ℕ → List HistPoint) → (Option ℕ → List SumPoint) → Option ℕ → List Cell → Metric
  metric_found hists summaries id cells = metric_of cells (below_found hists summaries id)

-- ---- that it is what was written

agree_three : (f : Option ℕ → List Point) (g : Option ℕ → List HistPoint) (h : Option ℕ → List SumPoint) (k : ℕ) (xs : List Metric)
    → Agree f k (map (λ (metric : Metric). points_of metric.shape) xs) → Agree g k (map (λ (metric : Metric). hist_points_of metric.shape) xs)
    → Agree h k (map (λ (metric : Metric). summary_points_of metric.shape) xs)
    → Agree {C = Below} (λ id. record { points = f id; hist_points = g id; summary_points = h id }) k (map (λ (metric : Metric). below_of metric.shape) xs)
agree_three f g h k [] a b c = tt
agree_three f g h k (x ∷ xs) a b c =
    ((λ i. record { points = a.0 i; hist_points = b.0 i; summary_points = c.0 i }), agree_three f g h (suc k) xs a.1 b.1 c.1)

abbrev pub IsBack : ResourceGroup Metric → Type 0
IsBack = CanWriteGroup IsBackResource IsBackScope IsBackMetric

pub groups_again : (groups : List (ResourceGroup Metric)) → IsReal (Metrics groups) → IsProfile (Metrics groups) → All IsBack groups
groups_again groups real is = real_groups IsRealMetric IsProfileMetric IsBackMetric metric_again AreBack pairs_back groups real.at is.at

module _ (groups : List (ResourceGroup Metric)) (back : All IsBack groups) where
  metrics_back : All IsBackMetric (items_of groups)
  metrics_back = all_items_can IsBackResource IsBackScope IsBackMetric groups back

  points_back : All IsBackPoint (all_points groups)
  points_back = all_joined IsBackPoint (λ (metric : Metric). points_of metric.shape) (items_of groups)
      (All-weaker IsBackMetric (λ (metric : Metric). All IsBackPoint (points_of metric.shape)) (λ metric back. back.points) (items_of groups) metrics_back)

  exemplars_back : All IsBackExemplar (all_exemplars groups)
  exemplars_back = all_joined IsBackExemplar (λ (point : Point). point.exemplars) (all_points groups)
      (All-weaker IsBackPoint (λ (point : Point). All IsBackExemplar point.exemplars) (λ point back. back.exemplars) (all_points groups) points_back)

  exemplar_pairs_agree : Agree (unsorted (exemplar_pairs groups)) 0 (exemplar_pairs groups)
  exemplar_pairs_agree = pairs_agree (exemplar_pairs groups) (All-map AreBack (λ (exemplar : Exemplar). exemplar.pairs) (all_exemplars groups)
      (All-weaker IsBackExemplar (λ (exemplar : Exemplar). AreBack exemplar.pairs) (λ exemplar back. back.pairs) (all_exemplars groups) exemplars_back))

  exemplars_agree : Agree (exemplars_found groups) 0 (exemplar_lists groups)
  exemplars_agree =
      agrees_with exemplar_cells exemplar_of (λ (exemplar : Exemplar). exemplar.pairs) (unsorted (exemplar_pairs groups)) IsBackExemplar (λ exemplar back. back.again)
      (exemplar_lists groups) (recursion_from_All IsBackExemplar (all_exemplars groups) exemplars_back) exemplar_pairs_agree

  point_pairs_agree : Agree (unsorted (point_pairs groups)) 0 (point_pairs groups)
  point_pairs_agree = pairs_agree (point_pairs groups) (All-map AreBack (λ (point : Point). point.pairs) (all_points groups)
      (All-weaker IsBackPoint (λ (point : Point). AreBack point.pairs) (λ point back. back.pairs) (all_points groups) points_back))

  points_agree : Agree (points_found groups) 0 (point_lists groups)
  points_agree =
      agrees_with {D = List Pair × List Exemplar} point_cells (λ cells below. point_of cells below.0 below.1) (λ (point : Point). (point.pairs, point.exemplars))
      (λ id. (unsorted (point_pairs groups) id, exemplars_found groups id)) IsBackPoint (λ point back. back.again)
      (point_lists groups) (recursion_from_All IsBackPoint (all_points groups) points_back)
      (agree_two (unsorted (point_pairs groups)) (exemplars_found groups) (λ (point : Point). point.pairs) (λ (point : Point). point.exemplars) 0 (all_points groups)
      point_pairs_agree exemplars_agree)

  pub metrics_read : (hists : Option ℕ → List HistPoint) (summaries : Option ℕ → List SumPoint) → Agree hists 0 (hist_lists groups) → Agree summaries 0 (summary_lists groups)
      → ReadsEach numbered metric_cells (metric_found groups hists summaries) 0 (items_of groups)
  metrics_read hists summaries of_hists of_summaries =
      reads_with metric_cells metric_of (λ (metric : Metric). below_of metric.shape) (below_found groups hists summaries) IsBackMetric (λ metric back. back.again) 0 (items_of groups)
      (recursion_from_All IsBackMetric (items_of groups) metrics_back) (agree_three (points_found groups) hists summaries 0 (items_of groups) points_agree of_hists of_summaries)

  pub resources_agree : Agree (unsorted (resource_pairs groups)) 0 (resource_pairs groups)
  resources_agree = pairs_agree (resource_pairs groups) (All-map AreBack (λ (resource : Resource). resource.pairs) (resources_of groups)
      (all_resources_can IsBackResource IsBackScope IsBackMetric groups back))

  pub scopes_agree : Agree (unsorted (scope_pairs groups)) 0 (scope_pairs groups)
  scopes_agree = pairs_agree (scope_pairs groups) (All-map AreBack (λ (scope : Scope). scope.pairs) (scopes_of groups)
      (all_scopes_can IsBackResource IsBackScope IsBackMetric groups back))

  -- the request itself comes back
  pub unsorted_back : (hists : Option ℕ → List HistPoint) (summaries : Option ℕ → List SumPoint) → Agree hists 0 (hist_lists groups) → Agree summaries 0 (summary_lists groups)
      → regrouped (unsorted (resource_pairs groups)) (unsorted (scope_pairs groups)) (metric_found groups hists summaries) (numbered_rows metric_cells 0 (flat_items groups)) ≡ groups_with_items groups
  unsorted_back hists summaries of_hists of_summaries =
      groups_back metric_cells (unsorted (resource_pairs groups)) (unsorted (scope_pairs groups)) (metric_found groups hists summaries) groups
      (metrics_read hists summaries of_hists of_summaries) resources_agree scopes_agree
