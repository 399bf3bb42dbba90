-- A request within the weight has few parents of each sort.
use Rattle.std.proofs.Common.{◌≤◌, ◌^◌, List, length, arith}
use Rattle.std.proofs.lemmas.List.{length-map}
use Rattle.otlp_model.specs.Limits.{weight_limit}
use Rattle.otlp_model.specs.Weight.{weight_of, weight_of_metric}
use Rattle.otlp_model.specs.declared.groups.Resource.{Resource}
use Rattle.otlp_model.specs.declared.groups.Scope.{Scope}
use Rattle.otlp_model.specs.declared.groups.ResourceGroup.{ResourceGroup}
use Rattle.otlp_model.specs.declared.metrics.Exemplar.{Exemplar}
use Rattle.otlp_model.specs.declared.metrics.Metric.{Metric}
use Rattle.otlp_model.specs.declared.metrics.Point.{Point}
use Rattle.otlp_model.specs.declared.request.Request.TheVariants.{Metrics}
use Rattle.otap_groups.specs.Flat.{items_of, resources_of, scopes_of, resource_pairs, scope_pairs}
use Rattle.otap_groups.proofs.WritableGroups.{few_items, few_resources, few_scopes}
use Rattle.otap_metrics.specs.Metrics.{points_of}
use Rattle.otap_metrics.specs.Tables.{all_exemplars, all_points, exemplar_lists, exemplar_pairs, point_lists, point_pairs}
use Rattle.otap_metrics.proofs.LightParts.{few_exemplars, few_points}

module _ (groups : List (ResourceGroup Metric)) (light : weight_of (Metrics groups) ≤ weight_limit) where
  pub few_metrics : length (items_of groups) ≤ 2 ^ 32
  few_metrics = omega (arith, light, few_items weight_of_metric groups)

  pub few_resource_pairs : length (resource_pairs groups) ≤ 2 ^ 32
  few_resource_pairs = omega (arith, light, few_resources weight_of_metric groups, length-map (resources_of groups) (λ (resource : Resource). resource.pairs))

  pub few_scope_pairs : length (scope_pairs groups) ≤ 2 ^ 32
  few_scope_pairs = omega (arith, light, few_scopes weight_of_metric groups, length-map (scopes_of groups) (λ (scope : Scope). scope.pairs))

  pub few_point_lists : length (point_lists groups) ≤ 2 ^ 32
  few_point_lists = omega (arith, light, few_items weight_of_metric groups, length-map (items_of groups) (λ (metric : Metric). points_of metric.shape))

  pub few_all_points : length (all_points groups) ≤ 2 ^ 32
  few_all_points = omega (arith, light, few_points groups)

  pub few_point_pairs : length (point_pairs groups) ≤ 2 ^ 32
  few_point_pairs = omega (arith, light, few_points groups, length-map (all_points groups) (λ (point : Point). point.pairs))

  pub few_exemplar_lists : length (exemplar_lists groups) ≤ 2 ^ 32
  few_exemplar_lists = omega (arith, light, few_points groups, length-map (all_points groups) (λ (point : Point). point.exemplars))

  pub few_all_exemplars : length (all_exemplars groups) ≤ 2 ^ 32
  few_all_exemplars = omega (arith, light, few_exemplars groups)

  pub few_exemplar_pairs : length (exemplar_pairs groups) ≤ 2 ^ 32
  few_exemplar_pairs = omega (arith, light, few_exemplars groups, length-map (all_exemplars groups) (λ (exemplar : Exemplar). exemplar.pairs))
