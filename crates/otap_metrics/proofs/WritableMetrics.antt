-- Which parts of a request of metrics can be written, and how many there are.
use Rattle.std.proofs.Common.{◌≡◌, ◌<◌, ◌≤◌, ◌^◌, List, length, sym, subst, arith}
use Rattle.std.specs.Prelude.{All}
use Rattle.std.proofs.lemmas.List.Elements.{All-weaker}
use Rattle.lists.proofs.Every.{all_joined}
use Rattle.otlp_model.specs.Limits.{weight_limit}
use Rattle.otlp_model.specs.Weight.{total, weight_of, weight_of_metric, weight_of_pair}
use Rattle.otlp_model.specs.declared.groups.ResourceGroup.{ResourceGroup}
use Rattle.otlp_model.specs.declared.histograms.HistPoint.{HistPoint}
use Rattle.otlp_model.specs.declared.histograms.SumPoint.{SumPoint}
use Rattle.otlp_model.specs.declared.metrics.Exemplar.{Exemplar}
use Rattle.otlp_model.specs.declared.metrics.Metric.{Metric}
use Rattle.otlp_model.specs.declared.metrics.Point.{Point}
use Rattle.otlp_model.specs.declared.request.Request.TheVariants.{Metrics}
use Rattle.otap_groups.specs.Flat.{items_of, resources_of, scopes_of}
use Rattle.otap_groups.proofs.WritableGroups.{all_items_can, all_resources_can, all_scopes_can, few_items, few_resources, few_scopes, IsLightResource, IsLightScope}
use Rattle.otap_points.specs.Writable.{CanWriteExemplar, CanWriteHistPoint, CanWritePoint, CanWriteSumPoint}
use Rattle.otap_metrics.specs.Metrics.{hist_points_of, points_of, summary_points_of}
use Rattle.otap_metrics.specs.Tables.{all_exemplars, all_hist_exemplars, all_hist_points, all_points, all_summary_points}
use Rattle.otap_metrics.specs.Writable.{CanWriteMetric}
use Rattle.otap_metrics.proofs.LightHists.{CanWrite, few_hist_exemplars, few_hist_points, few_summary_points}
use Rattle.otap_metrics.proofs.LightParts.{few_exemplars, few_points}

module _ (gs : List (ResourceGroup Metric)) (can : All CanWrite gs) where
  pub resources_can : All IsLightResource (resources_of gs)
  resources_can = all_resources_can IsLightResource IsLightScope CanWriteMetric gs can

  pub scopes_can : All IsLightScope (scopes_of gs)
  scopes_can = all_scopes_can IsLightResource IsLightScope CanWriteMetric gs can

  pub metrics_can : All CanWriteMetric (items_of gs)
  metrics_can = all_items_can IsLightResource IsLightScope CanWriteMetric gs can

  pub points_can : All CanWritePoint (all_points gs)
  points_can = all_joined CanWritePoint (λ (metric : Metric). points_of metric.shape) (items_of gs)
      (All-weaker CanWriteMetric (λ (metric : Metric). All CanWritePoint (points_of metric.shape)) (λ metric can. can.points) (items_of gs) metrics_can)

  pub summaries_can : All CanWriteSumPoint (all_summary_points gs)
  summaries_can = all_joined CanWriteSumPoint (λ (metric : Metric). summary_points_of metric.shape) (items_of gs)
      (All-weaker CanWriteMetric (λ (metric : Metric). All CanWriteSumPoint (summary_points_of metric.shape)) (λ metric can. can.summary_points) (items_of gs) metrics_can)

  pub hists_can : All CanWriteHistPoint (all_hist_points gs)
  hists_can = all_joined CanWriteHistPoint (λ (metric : Metric). hist_points_of metric.shape) (items_of gs)
      (All-weaker CanWriteMetric (λ (metric : Metric). All CanWriteHistPoint (hist_points_of metric.shape)) (λ metric can. can.hist_points) (items_of gs) metrics_can)

  pub exemplars_can : All CanWriteExemplar (all_exemplars gs)
  exemplars_can = all_joined CanWriteExemplar (λ (point : Point). point.exemplars) (all_points gs)
      (All-weaker CanWritePoint (λ (point : Point). All CanWriteExemplar point.exemplars) (λ point can. can.exemplars) (all_points gs) points_can)

  pub hist_exemplars_can : All CanWriteExemplar (all_hist_exemplars gs)
  hist_exemplars_can = all_joined CanWriteExemplar (λ (point : HistPoint). point.exemplars) (all_hist_points gs)
      (All-weaker CanWriteHistPoint (λ (point : HistPoint). All CanWriteExemplar point.exemplars) (λ point can. can.exemplars) (all_hist_points gs) hists_can)

  pub point_pairs_can : All (λ (point : Point). total 32 weight_of_pair point.pairs ≤ weight_limit) (all_points gs)
  point_pairs_can = All-weaker CanWritePoint (λ (point : Point). total 32 weight_of_pair point.pairs ≤ weight_limit) (λ point can. can.pairs) (all_points gs) points_can

  pub summary_pairs_can : All (λ (point : SumPoint). total 32 weight_of_pair point.pairs ≤ weight_limit) (all_summary_points gs)
  summary_pairs_can = All-weaker CanWriteSumPoint (λ (point : SumPoint). total 32 weight_of_pair point.pairs ≤ weight_limit) (λ point can. can.pairs) (all_summary_points gs) summaries_can

  pub hist_pairs_can : All (λ (point : HistPoint). total 32 weight_of_pair point.pairs ≤ weight_limit) (all_hist_points gs)
  hist_pairs_can = All-weaker CanWriteHistPoint (λ (point : HistPoint). total 32 weight_of_pair point.pairs ≤ weight_limit) (λ point can. can.pairs) (all_hist_points gs) hists_can

  pub exemplar_pairs_can : All (λ (exemplar : Exemplar). total 32 weight_of_pair exemplar.pairs ≤ weight_limit) (all_exemplars gs)
  exemplar_pairs_can = All-weaker CanWriteExemplar (λ (exemplar : Exemplar). total 32 weight_of_pair exemplar.pairs ≤ weight_limit) (λ exemplar can. can.pairs) (all_exemplars gs) exemplars_can

  pub hist_exemplar_pairs_can : All (λ (exemplar : Exemplar). total 32 weight_of_pair exemplar.pairs ≤ weight_limit) (all_hist_exemplars gs)
  hist_exemplar_pairs_can = All-weaker CanWriteExemplar (λ (exemplar : Exemplar). total 32 weight_of_pair exemplar.pairs ≤ weight_limit) (λ exemplar can. can.pairs) (all_hist_exemplars gs)
      hist_exemplars_can

-- ---- how many there are

module _ (groups gs : List (ResourceGroup Metric)) (same : gs ≡ groups) (few : weight_of (Metrics groups) ≤ weight_limit) where
  light : weight_of (Metrics gs) ≤ weight_limit
  light = subst (λ gs. weight_of (Metrics gs) ≤ weight_limit) (sym same) few

  pub metrics_few : length (items_of gs) < 2 ^ 32
  metrics_few = omega (arith, light, few_items weight_of_metric gs)

  pub metrics_most : length (items_of gs) ≤ 2 ^ 32
  metrics_most = omega (arith, metrics_few)

  pub resources_few : length (resources_of gs) ≤ 2 ^ 32
  resources_few = omega (arith, light, few_resources weight_of_metric gs)

  pub scopes_few : length (scopes_of gs) ≤ 2 ^ 32
  scopes_few = omega (arith, light, few_scopes weight_of_metric gs)

  pub points_few : length (all_points gs) ≤ 2 ^ 32
  points_few = omega (arith, light, few_points gs)

  pub summaries_few : length (all_summary_points gs) ≤ 2 ^ 32
  summaries_few = omega (arith, light, few_summary_points gs)

  pub hists_few : length (all_hist_points gs) ≤ 2 ^ 32
  hists_few = omega (arith, light, few_hist_points gs)

  pub exemplars_few : length (all_exemplars gs) ≤ 2 ^ 32
  exemplars_few = omega (arith, light, few_exemplars gs)

  pub hist_exemplars_few : length (all_hist_exemplars gs) ≤ 2 ^ 32
  hist_exemplars_few = omega (arith, light, few_hist_exemplars gs)
