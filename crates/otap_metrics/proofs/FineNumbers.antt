-- The attributes of resources, scopes, points of gauges and sums, and their exemplars have fine values.
use Rattle.std.proofs.Common.{List}
use Rattle.std.specs.Prelude.{All}
use Rattle.std.proofs.lemmas.List.Elements.{All-map, All-nil, All-weaker}
use Rattle.lists.proofs.Every.{all_joined, all_of_both}
use Rattle.otlp_model.specs.Profile.{IsProfile, IsProfileExemplar, IsProfileMetric, IsProfilePoint, IsProfileShape}
use Rattle.otlp_model.specs.Real.{IsReal, IsRealExemplar, IsRealMetric, IsRealPoint, IsRealShape}
use Rattle.otlp_model.specs.declared.groups.Resource.{Resource}
use Rattle.otlp_model.specs.declared.groups.Scope.{Scope}
use Rattle.otlp_model.specs.declared.groups.ResourceGroup.{ResourceGroup}
use Rattle.otlp_model.specs.declared.metrics.Exemplar.{Exemplar}
use Rattle.otlp_model.specs.declared.metrics.Metric.{Metric}
use Rattle.otlp_model.specs.declared.metrics.Point.{Point}
use Rattle.otlp_model.specs.declared.metrics.Shape.{Shape}
use Rattle.otlp_model.specs.declared.metrics.Shape.TheVariants as shapes
use Rattle.otlp_model.specs.declared.request.Request.TheVariants.{Metrics}
use Rattle.otap_cells.specs.declared.payload.Kind.TheVariants as table
use Rattle.otap_cells.specs.Tables.{Table}
use Rattle.otap_groups.specs.Flat.{items_of, resources_of, scopes_of, resource_pairs, scope_pairs}
use Rattle.otap_groups.specs.Weighing.{CanWriteGroup}
use Rattle.otap_groups.proofs.RealGroups.{real_groups}
use Rattle.otap_groups.proofs.WritableGroups.{all_items_can, all_resources_can, all_scopes_can}
use Rattle.otap_checks.proofs.FinePairs.{IsFineList, pairs_fine, fine_table, IsFineResource, IsFineScope}
use Rattle.otap_checks.specs.ValueDefects.{HasFineValues}
use Rattle.otap_metrics.specs.Metrics.{points_of}
use Rattle.otap_metrics.specs.Tables.{all_exemplars, all_points, exemplar_pairs, point_pairs}
use Rattle.otap_metrics.proofs.NamedTables.{HoldMetrics}

-- ---- values

pub record IsFineExemplar (exemplar : Exemplar) : Type 0 where
  pub pairs : IsFineList exemplar.pairs

record IsFinePoint (point : Point) : Type 0 where
  pairs : IsFineList point.pairs
  exemplars : All IsFineExemplar point.exemplars

abbrev IsFineMetric : Metric → Type 0
IsFineMetric metric = All IsFinePoint (points_of metric.shape)

pub exemplar_fine : (exemplar : Exemplar) → IsRealExemplar exemplar → IsProfileExemplar exemplar → IsFineExemplar exemplar
exemplar_fine exemplar real is = record { pairs = pairs_fine exemplar.pairs real.pairs is.pairs.at }

point_fine : (point : Point) → IsRealPoint point → IsProfilePoint point → IsFinePoint point
point_fine point real is = record {
  pairs = pairs_fine point.pairs real.pairs is.pairs.at;
  exemplars = all_of_both IsRealExemplar IsProfileExemplar IsFineExemplar exemplar_fine point.exemplars real.exemplars.at is.exemplars.at;
}

points_fine : (points : List Point) → All IsRealPoint points → All IsProfilePoint points → All IsFinePoint points
points_fine = all_of_both IsRealPoint IsProfilePoint IsFinePoint point_fine

shape_fine : (shape : Shape) → IsRealShape shape → IsProfileShape shape → All IsFinePoint (points_of shape)
shape_fine shapes.Empty real is = All-nil IsFinePoint
shape_fine (shapes.Gauge points) real is = points_fine points real.at is.at
shape_fine (shapes.Sum points temporality monotonic) real is = points_fine points real.0.at is.at
shape_fine (shapes.Histogram points temporality) real is = All-nil IsFinePoint
shape_fine (shapes.Summary points) real is = All-nil IsFinePoint

metric_fine : (metric : Metric) → IsRealMetric metric → IsProfileMetric metric → IsFineMetric metric
metric_fine metric real is = shape_fine metric.shape real.shape is.shape

module _ (groups : List (ResourceGroup Metric)) (tables : List Table) (have : HoldMetrics groups tables) (real : IsReal (Metrics groups)) (is : IsProfile (Metrics groups)) where
  all : All (CanWriteGroup IsFineResource IsFineScope IsFineMetric) groups
  all = real_groups IsRealMetric IsProfileMetric IsFineMetric metric_fine IsFineList pairs_fine groups real.at is.at

  all_fine_points : All IsFinePoint (all_points groups)
  all_fine_points = all_joined IsFinePoint (λ (metric : Metric). points_of metric.shape) (items_of groups) (all_items_can IsFineResource IsFineScope IsFineMetric groups all)

  all_fine_exemplars : All IsFineExemplar (all_exemplars groups)
  all_fine_exemplars = all_joined IsFineExemplar (λ (point : Point). point.exemplars) (all_points groups)
      (All-weaker IsFinePoint (λ (point : Point). All IsFineExemplar point.exemplars) (λ point fine. fine.exemplars) (all_points groups) all_fine_points)

  pub fine_resources : HasFineValues tables table.ResourceAttrs
  fine_resources = fine_table tables table.ResourceAttrs (resource_pairs groups) have.resources
      (All-map IsFineList (λ (resource : Resource). resource.pairs) (resources_of groups) (all_resources_can IsFineResource IsFineScope IsFineMetric groups all))

  pub fine_scopes : HasFineValues tables table.ScopeAttrs
  fine_scopes = fine_table tables table.ScopeAttrs (scope_pairs groups) have.scopes
      (All-map IsFineList (λ (scope : Scope). scope.pairs) (scopes_of groups) (all_scopes_can IsFineResource IsFineScope IsFineMetric groups all))

  pub fine_points : HasFineValues tables table.NumberPointAttrs
  fine_points = fine_table tables table.NumberPointAttrs (point_pairs groups) have.of_points
      (All-map IsFineList (λ (point : Point). point.pairs) (all_points groups)
      (All-weaker IsFinePoint (λ (point : Point). IsFineList point.pairs) (λ point fine. fine.pairs) (all_points groups) all_fine_points))

  pub fine_exemplars : HasFineValues tables table.NumberExemplarAttrs
  fine_exemplars = fine_table tables table.NumberExemplarAttrs (exemplar_pairs groups) have.of_exemplars
      (All-map IsFineList (λ (exemplar : Exemplar). exemplar.pairs) (all_exemplars groups)
      (All-weaker IsFineExemplar (λ (exemplar : Exemplar). IsFineList exemplar.pairs) (λ exemplar fine. fine.pairs) (all_exemplars groups) all_fine_exemplars))
