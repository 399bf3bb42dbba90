-- What is below metrics weighs no more than they do; so there are few points and exemplars, and each can be written.
use Rattle.std.proofs.Common.{ℕ, ◌*◌, ◌≤◌, List, [], ◌∷◌, length, map, arith}
use Rattle.std.specs.Prelude.{All}
use Rattle.std.specs.List.{flat_map}
use Rattle.std.proofs.lemmas.List.Elements.{All-nil}
use Rattle.otlp_model.specs.Limits.{weight_limit}
use Rattle.otlp_model.specs.Profile.{IsProfileExemplar, IsProfilePoint, IsProfileShape}
use Rattle.otlp_model.specs.Weight.{total, weight_of_exemplar, weight_of_metric, weight_of_point, weight_of_resource_group, weight_of_scope_group, weight_of_shape}
use Rattle.otlp_model.specs.declared.groups.ScopeGroup.{ScopeGroup}
use Rattle.otlp_model.specs.declared.groups.ResourceGroup.{ResourceGroup}
use Rattle.otlp_model.specs.declared.metrics.Exemplar.{Exemplar}
use Rattle.otlp_model.specs.declared.metrics.Metric.{Metric}
use Rattle.otlp_model.specs.declared.metrics.Point.{Point}
use Rattle.otlp_model.specs.declared.metrics.Shape.{Shape}
use Rattle.otlp_model.specs.declared.metrics.Shape.TheVariants as shapes
use Rattle.otlp_model.proofs.Totals.{few_parts, parts_can, total_append}
use Rattle.otap_groups.specs.Flat.{items_of}
use Rattle.otap_metrics.specs.Metrics.{points_of}
use Rattle.otap_metrics.specs.Tables.{all_exemplars, all_points}
use Rattle.otap_points.specs.Writable.{CanWriteExemplar, CanWritePoint}

-- ---- any parts

-- where the parts of each weigh no more than it
pub parts_light : {A B : Type 0} (weigh : A → ℕ) (below : B → ℕ) (parts : A → List B) → ((a : A) → total 32 below (parts a) ≤ weigh a) → (xs : List A)
    → total 32 below (flat_map (λ (ys : List B). ys) (map parts xs)) ≤ total 32 weigh xs
parts_light weigh below parts light [] = omega arith
parts_light {B = B} weigh below parts light (x ∷ xs) =
    let a = light x in
    let b = parts_light weigh below parts light xs in
    let c = total_append 32 below (parts x) (flat_map (λ (ys : List B). ys) (map parts xs)) in
    omega (arith, a, b, c)

module _ {I : Type 0} (weigh : I → ℕ) where
  scopes_light : (groups : List (ScopeGroup I)) → total 32 weigh (flat_map (λ (group : ScopeGroup I). group.items) groups) ≤ total 32 (weight_of_scope_group weigh) groups
  scopes_light [] = omega arith
  scopes_light (group ∷ groups) =
      let a = scopes_light groups in
      let b = total_append 32 weigh group.items (flat_map (λ (group : ScopeGroup I). group.items) groups) in
      omega (arith, a, b)

  pub items_light : (groups : List (ResourceGroup I)) → total 32 weigh (items_of groups) ≤ total 32 (weight_of_resource_group weigh) groups
  items_light [] = omega arith
  items_light (group ∷ groups) =
      let a = scopes_light group.scopes in
      let b = items_light groups in
      let c = total_append 32 weigh (flat_map (λ (scope : ScopeGroup I). scope.items) group.scopes) (items_of groups) in
      omega (arith, a, b, c)

-- ---- points and exemplars

shape_light : (shape : Shape) → total 32 weight_of_point (points_of shape) ≤ weight_of_shape shape
shape_light shapes.Empty = omega arith
shape_light (shapes.Gauge points) = omega arith
shape_light (shapes.Sum points temporality monotonic) = omega arith
shape_light (shapes.Histogram points temporality) = omega arith
shape_light (shapes.Summary points) = omega arith

metric_light : (metric : Metric) → total 32 weight_of_point (points_of metric.shape) ≤ weight_of_metric metric
metric_light metric = let a = shape_light metric.shape in omega (arith, a)

point_light : (point : Point) → total 32 weight_of_exemplar point.exemplars ≤ weight_of_point point
point_light point = omega arith

module _ (groups : List (ResourceGroup Metric)) where
  points_light : total 32 weight_of_point (all_points groups) ≤ total 32 (weight_of_resource_group weight_of_metric) groups
  points_light =
      let a = parts_light weight_of_metric weight_of_point (λ (metric : Metric). points_of metric.shape) metric_light (items_of groups) in
      let b = items_light weight_of_metric groups in
      omega (arith, a, b)

  exemplars_light : total 32 weight_of_exemplar (all_exemplars groups) ≤ total 32 (weight_of_resource_group weight_of_metric) groups
  exemplars_light =
      let a = parts_light weight_of_point weight_of_exemplar (λ (point : Point). point.exemplars) point_light (all_points groups) in
      let b = points_light in
      omega (arith, a, b)

  pub few_points : 32 * length (all_points groups) ≤ total 32 (weight_of_resource_group weight_of_metric) groups
  few_points = let a = points_light in let b = few_parts weight_of_point (all_points groups) in omega (arith, a, b)

  pub few_exemplars : 32 * length (all_exemplars groups) ≤ total 32 (weight_of_resource_group weight_of_metric) groups
  few_exemplars = let a = exemplars_light in let b = few_parts weight_of_exemplar (all_exemplars groups) in omega (arith, a, b)

-- ---- what can be written

pub exemplar_can : (exemplar : Exemplar) → IsProfileExemplar exemplar → weight_of_exemplar exemplar ≤ weight_limit → CanWriteExemplar exemplar
exemplar_can exemplar is few = record { trace_id = is.trace_id; span_id = is.span_id; pairs = omega arith }

point_can : (point : Point) → IsProfilePoint point → weight_of_point point ≤ weight_limit → CanWritePoint point
point_can point is few = record {
  pairs = omega arith;
  exemplars = parts_can IsProfileExemplar CanWriteExemplar weight_of_exemplar weight_limit exemplar_can point.exemplars is.exemplars.at (omega arith);
}

points_can : (points : List Point) → All IsProfilePoint points → total 32 weight_of_point points ≤ weight_limit → All CanWritePoint points
points_can = parts_can IsProfilePoint CanWritePoint weight_of_point weight_limit point_can

pub shape_can : (shape : Shape) → IsProfileShape shape → weight_of_shape shape ≤ weight_limit → All CanWritePoint (points_of shape)
shape_can shapes.Empty is few = All-nil CanWritePoint
shape_can (shapes.Gauge points) is few = points_can points is.at few
shape_can (shapes.Sum points temporality monotonic) is few = points_can points is.at few
shape_can (shapes.Histogram points temporality) is few = All-nil CanWritePoint
shape_can (shapes.Summary points) is few = All-nil CanWritePoint
