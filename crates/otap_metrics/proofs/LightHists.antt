-- The points of histograms and summaries, and what is below them, weigh no more than a request; so there are few, and each can be
-- written.
use Rattle.std.proofs.Common.{◌≡◌, ◌*◌, ◌≤◌, List, length, sym, subst, arith}
use Rattle.std.specs.Prelude.{All}
use Rattle.std.proofs.lemmas.List.Elements.{All-nil}
use Rattle.otlp_model.specs.Limits.{weight_limit}
use Rattle.otlp_model.specs.Profile.{IsProfile, IsProfileExemplar, IsProfileHistPoint, IsProfileMetric, IsProfileShape, IsProfileSumPoint}
use Rattle.otlp_model.specs.Weight.{total, weight_of, weight_of_exemplar, weight_of_hist_point, weight_of_metric, weight_of_resource_group, weight_of_shape, weight_of_sum_point}
use Rattle.otlp_model.specs.declared.groups.ResourceGroup.{ResourceGroup}
use Rattle.otlp_model.specs.declared.histograms.HistPoint.{HistPoint}
use Rattle.otlp_model.specs.declared.histograms.SumPoint.{SumPoint}
use Rattle.otlp_model.specs.declared.metrics.Metric.{Metric}
use Rattle.otlp_model.specs.declared.metrics.Shape.{Shape}
use Rattle.otlp_model.specs.declared.metrics.Shape.TheVariants as shapes
use Rattle.otlp_model.specs.declared.request.Request.TheVariants.{Metrics}
use Rattle.otlp_model.proofs.Totals.{few_parts, parts_can}
use Rattle.otap_groups.specs.Flat.{items_of}
use Rattle.otap_groups.specs.Weighing.{CanWriteGroup}
use Rattle.otap_groups.proofs.WritableGroups.{groups_can, IsLightResource, IsLightScope}
use Rattle.otap_metrics.specs.Metrics.{hist_points_of, summary_points_of}
use Rattle.otap_points.specs.Writable.{CanWriteExemplar, CanWriteHistPoint, CanWriteSumPoint}
use Rattle.otap_metrics.proofs.LightParts.{exemplar_can, items_light, parts_light, shape_can}
use Rattle.otap_metrics.specs.Tables.{all_hist_exemplars, all_hist_points, all_summary_points}
use Rattle.otap_metrics.specs.Writable.{CanWriteMetric}

-- ---- how many there are

hist_shape_light : (shape : Shape) → total 32 weight_of_hist_point (hist_points_of shape) ≤ weight_of_shape shape
hist_shape_light shapes.Empty = omega arith
hist_shape_light (shapes.Gauge points) = omega arith
hist_shape_light (shapes.Sum points temporality monotonic) = omega arith
hist_shape_light (shapes.Histogram points temporality) = omega arith
hist_shape_light (shapes.Summary points) = omega arith

summary_shape_light : (shape : Shape) → total 32 weight_of_sum_point (summary_points_of shape) ≤ weight_of_shape shape
summary_shape_light shapes.Empty = omega arith
summary_shape_light (shapes.Gauge points) = omega arith
summary_shape_light (shapes.Sum points temporality monotonic) = omega arith
summary_shape_light (shapes.Histogram points temporality) = omega arith
summary_shape_light (shapes.Summary points) = omega arith

hist_metric_light : (metric : Metric) → total 32 weight_of_hist_point (hist_points_of metric.shape) ≤ weight_of_metric metric
hist_metric_light metric = let a = hist_shape_light metric.shape in omega (arith, a)

summary_metric_light : (metric : Metric) → total 32 weight_of_sum_point (summary_points_of metric.shape) ≤ weight_of_metric metric
summary_metric_light metric = let a = summary_shape_light metric.shape in omega (arith, a)

point_light : (point : HistPoint) → total 32 weight_of_exemplar point.exemplars ≤ weight_of_hist_point point
point_light point = omega arith

module _ (groups : List (ResourceGroup Metric)) where
  hists_light : total 32 weight_of_hist_point (all_hist_points groups) ≤ total 32 (weight_of_resource_group weight_of_metric) groups
  hists_light =
      let a = parts_light weight_of_metric weight_of_hist_point (λ (metric : Metric). hist_points_of metric.shape) hist_metric_light (items_of groups) in
      let b = items_light weight_of_metric groups in
      omega (arith, a, b)

  pub few_hist_points : 32 * length (all_hist_points groups) ≤ total 32 (weight_of_resource_group weight_of_metric) groups
  few_hist_points = let a = hists_light in let b = few_parts weight_of_hist_point (all_hist_points groups) in omega (arith, a, b)

  pub few_summary_points : 32 * length (all_summary_points groups) ≤ total 32 (weight_of_resource_group weight_of_metric) groups
  few_summary_points =
      let a = parts_light weight_of_metric weight_of_sum_point (λ (metric : Metric). summary_points_of metric.shape) summary_metric_light (items_of groups) in
      let b = items_light weight_of_metric groups in
      let c = few_parts weight_of_sum_point (all_summary_points groups) in
      omega (arith, a, b, c)

  pub few_hist_exemplars : 32 * length (all_hist_exemplars groups) ≤ total 32 (weight_of_resource_group weight_of_metric) groups
  few_hist_exemplars =
      let a = parts_light weight_of_hist_point weight_of_exemplar (λ (point : HistPoint). point.exemplars) point_light (all_hist_points groups) in
      let b = hists_light in
      let c = few_parts weight_of_exemplar (all_hist_exemplars groups) in
      omega (arith, a, b, c)

-- ---- what can be written

hist_point_can : (point : HistPoint) → IsProfileHistPoint point → weight_of_hist_point point ≤ weight_limit → CanWriteHistPoint point
hist_point_can point is few = record {
  pairs = omega arith;
  exemplars = parts_can IsProfileExemplar CanWriteExemplar weight_of_exemplar weight_limit exemplar_can point.exemplars is.exemplars.at (omega arith);
}

summary_point_can : (point : SumPoint) → IsProfileSumPoint point → weight_of_sum_point point ≤ weight_limit → CanWriteSumPoint point
summary_point_can point is few = record { pairs = omega arith }

hist_shape_can : (shape : Shape) → IsProfileShape shape → weight_of_shape shape ≤ weight_limit → All CanWriteHistPoint (hist_points_of shape)
hist_shape_can shapes.Empty is few = All-nil CanWriteHistPoint
hist_shape_can (shapes.Gauge points) is few = All-nil CanWriteHistPoint
hist_shape_can (shapes.Sum points temporality monotonic) is few = All-nil CanWriteHistPoint
hist_shape_can (shapes.Histogram points temporality) is few = parts_can IsProfileHistPoint CanWriteHistPoint weight_of_hist_point weight_limit hist_point_can points is.at few
hist_shape_can (shapes.Summary points) is few = All-nil CanWriteHistPoint

summary_shape_can : (shape : Shape) → IsProfileShape shape → weight_of_shape shape ≤ weight_limit → All CanWriteSumPoint (summary_points_of shape)
summary_shape_can shapes.Empty is few = All-nil CanWriteSumPoint
summary_shape_can (shapes.Gauge points) is few = All-nil CanWriteSumPoint
summary_shape_can (shapes.Sum points temporality monotonic) is few = All-nil CanWriteSumPoint
summary_shape_can (shapes.Histogram points temporality) is few = All-nil CanWriteSumPoint
summary_shape_can (shapes.Summary points) is few = parts_can IsProfileSumPoint CanWriteSumPoint weight_of_sum_point weight_limit summary_point_can points is.at few

pub metric_can : (metric : Metric) → IsProfileMetric metric → weight_of_metric metric ≤ weight_limit → CanWriteMetric metric
metric_can metric is few = record {
  points = shape_can metric.shape is.shape (omega arith);
  hist_points = hist_shape_can metric.shape is.shape (omega arith);
  summary_points = summary_shape_can metric.shape is.shape (omega arith);
}

abbrev pub CanWrite : ResourceGroup Metric → Type 0
CanWrite = CanWriteGroup IsLightResource IsLightScope CanWriteMetric

pub all_can : (groups gs : List (ResourceGroup Metric)) → gs ≡ groups → IsProfile (Metrics groups) → weight_of (Metrics groups) ≤ weight_limit → All CanWrite gs
all_can groups gs same is few = subst (All CanWrite) (sym same) (groups_can IsProfileMetric weight_of_metric weight_limit CanWriteMetric metric_can groups is.at few)
