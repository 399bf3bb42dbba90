-- The main table of a request of metrics, and the tables of the points of gauges and sums and of what is below them, are tables of the
-- profile.
use Rattle.std.proofs.Common.{◌≤◌, List, [], ◌∷◌, drop, refl, arith}
use Rattle.std.specs.Prelude.{All}
use Rattle.std.specs.List.{AllByRecursion}
use Rattle.std.proofs.lemmas.List.Elements.{All-nil, All-cons, All-head, All-tail, All-map, All-weaker, recursion_from_All}
use Rattle.lists.proofs.Every.{all_joined, every_weaker, all_of_both}
use Rattle.otlp_model.specs.Limits.{weight_limit}
use Rattle.otlp_model.specs.Profile.{IsProfile, IsProfileExemplar, IsProfileMetric, IsProfilePoint, IsProfileResourceGroup, IsProfileScopeGroup, IsProfileShape}
use Rattle.otlp_model.specs.Real.{IsReal, IsRealExemplar, IsRealMetric, IsRealPoint, IsRealResource, IsRealResourceGroup, IsRealScope, IsRealScopeGroup, IsRealShape}
use Rattle.otlp_model.specs.Weight.{weight_of}
use Rattle.otlp_model.specs.declared.groups.Resource.{Resource}
use Rattle.otlp_model.specs.declared.groups.Scope.{Scope}
use Rattle.otlp_model.specs.declared.groups.ScopeGroup.{ScopeGroup}
use Rattle.otlp_model.specs.declared.groups.ResourceGroup.{ResourceGroup}
use Rattle.otlp_model.specs.declared.metrics.Exemplar.{Exemplar}
use Rattle.otlp_model.specs.declared.metrics.Metric.{Metric}
use Rattle.otlp_model.specs.declared.metrics.Point.{Point}
use Rattle.otlp_model.specs.declared.metrics.Shape.{Shape}
use Rattle.otlp_model.specs.declared.metrics.Shape.TheVariants as shapes
use Rattle.otlp_model.specs.declared.request.Request.TheVariants.{Metrics}
use Rattle.otap_cells.specs.declared.payload.Kind.TheVariants as table
use Rattle.otap_cells.specs.Columns.{columns_of, exemplars, metrics, number_points}
use Rattle.otap_cells.specs.Tables.{IsRow, Table}
use Rattle.otap_groups.specs.Flat.{flat_items, items_of, resources_of, scopes_of, resource_pairs, scope_pairs}
use Rattle.otap_groups.specs.ProfileTables.{IsProfileTable}
use Rattle.otap_groups.specs.Stored.{main_table, part_table, stored_rows}
use Rattle.otap_groups.specs.Weighing.{CanWriteGroup, CanWriteScope}
use Rattle.otap_groups.proofs.Bounds.{bounded}
use Rattle.otap_groups.proofs.PartTables.{part_written}
use Rattle.otap_groups.proofs.ProfileRows.{OfFlat, OwnFit, of_flat, rows_fit}
use Rattle.otap_groups.proofs.WritableGroups.{all_items_can, all_resources_can, all_scopes_can}
use Rattle.otap_checks.proofs.WrittenPairs.{AreReal, attributes_written}
use Rattle.otap_checks.proofs.MainKinds.{metrics_kind}
use Rattle.otap_metrics.specs.Metrics.{metric_cells, points_of}
use Rattle.otap_points.specs.Points.{exemplar_cells, point_cells}
use Rattle.otap_points.proofs.PointColumns.{exemplar_ids, exemplars_are_parts, point_ids, points_are_parts}
use Rattle.otap_points.proofs.PointFits.{exemplar_own, exemplar_row, point_own, point_row}
use Rattle.otap_metrics.specs.Tables.{all_exemplars, all_points, exemplar_lists, exemplar_pairs, point_lists, point_pairs}
use Rattle.otap_metrics.proofs.FewParts.{few_all_exemplars, few_all_points, few_exemplar_lists, few_exemplar_pairs, few_metrics, few_point_lists, few_point_pairs, few_resource_pairs, few_scope_pairs}
use Rattle.otap_metrics.proofs.MetricFits.{metric_own}
use Rattle.otap_attrs.specs.Tables.{attribute_table}
use Rattle.otap_checks.proofs.AllWritten.{main_profile}

-- ---- what fits

pub record IsFitExemplar (exemplar : Exemplar) : Type 0 where
  pub own : IsRow (drop 2 exemplars) (exemplar_cells exemplar)
  pub pairs : AreReal exemplar.pairs

record IsFitPoint (point : Point) : Type 0 where
  own : IsRow (drop 2 number_points) (point_cells point)
  pairs : AreReal point.pairs
  exemplars : All IsFitExemplar point.exemplars

record IsFitMetric (metric : Metric) : Type 0 where
  own : IsRow (drop 9 metrics) (metric_cells metric)
  points : All IsFitPoint (points_of metric.shape)

pub exemplar_fit : (exemplar : Exemplar) → IsRealExemplar exemplar → IsProfileExemplar exemplar → IsFitExemplar exemplar
exemplar_fit exemplar real is = record { own = exemplar_own exemplar real is; pairs = real.pairs }

point_fit : (point : Point) → IsRealPoint point → IsProfilePoint point → IsFitPoint point
point_fit point real is = record {
  own = point_own point real;
  pairs = real.pairs;
  exemplars = all_of_both IsRealExemplar IsProfileExemplar IsFitExemplar exemplar_fit point.exemplars real.exemplars.at is.exemplars.at;
}

shape_fit : (shape : Shape) → IsRealShape shape → IsProfileShape shape → All IsFitPoint (points_of shape)
shape_fit shapes.Empty real is = All-nil IsFitPoint
shape_fit (shapes.Gauge points) real is = all_of_both IsRealPoint IsProfilePoint IsFitPoint point_fit points real.at is.at
shape_fit (shapes.Sum points temporality monotonic) real is = all_of_both IsRealPoint IsProfilePoint IsFitPoint point_fit points real.0.at is.at
shape_fit (shapes.Histogram points temporality) real is = All-nil IsFitPoint
shape_fit (shapes.Summary points) real is = All-nil IsFitPoint

metric_fit : (metric : Metric) → IsRealMetric metric → IsProfileMetric metric → IsFitMetric metric
metric_fit metric real is = record { own = metric_own metric real; points = shape_fit metric.shape real.shape is.shape }

abbrev IsFitScope : ScopeGroup Metric → Type 0
IsFitScope = CanWriteScope IsRealScope IsFitMetric

abbrev IsFit : ResourceGroup Metric → Type 0
IsFit = CanWriteGroup IsRealResource IsRealScope IsFitMetric

scopes_fit : (groups : List (ScopeGroup Metric)) → All (IsRealScopeGroup IsRealMetric) groups → All (IsProfileScopeGroup IsProfileMetric) groups → All IsFitScope groups
scopes_fit [] real is = All-nil IsFitScope
scopes_fit (group ∷ groups) real is =
    let r : IsRealScopeGroup IsRealMetric group = All-head (IsRealScopeGroup IsRealMetric) group groups real in
    let p : IsProfileScopeGroup IsProfileMetric group = All-head (IsProfileScopeGroup IsProfileMetric) group groups is in
    All-cons IsFitScope group groups (r.scope, all_of_both IsRealMetric IsProfileMetric IsFitMetric metric_fit group.items r.items.at p.items.at)
    (scopes_fit groups (All-tail (IsRealScopeGroup IsRealMetric) group groups real) (All-tail (IsProfileScopeGroup IsProfileMetric) group groups is))

groups_fit : (groups : List (ResourceGroup Metric)) → All (IsRealResourceGroup IsRealMetric) groups → All (IsProfileResourceGroup IsProfileMetric) groups → All IsFit groups
groups_fit [] real is = All-nil IsFit
groups_fit (group ∷ groups) real is =
    let r : IsRealResourceGroup IsRealMetric group = All-head (IsRealResourceGroup IsRealMetric) group groups real in
    let p : IsProfileResourceGroup IsProfileMetric group = All-head (IsProfileResourceGroup IsProfileMetric) group groups is in
    All-cons IsFit group groups (r.resource, scopes_fit group.scopes r.scopes.at p.scopes.at)
    (groups_fit groups (All-tail (IsRealResourceGroup IsRealMetric) group groups real) (All-tail (IsProfileResourceGroup IsProfileMetric) group groups is))

-- ---- all of a request

module _ (groups : List (ResourceGroup Metric)) (fit : All IsFit groups) (light : weight_of (Metrics groups) ≤ weight_limit) where
  main_rows_fit : All (IsRow (columns_of table.Metrics)) (stored_rows metric_cells 0 0 0 (flat_items groups))
  unfolding metrics
  main_rows_fit =
      rows_fit metric_cells (drop 9 metrics) 0 0 0 (flat_items groups) (omega arith) (bounded 4294967295 groups (omega (arith, few_metrics groups light)))
      (every_weaker (OfFlat IsRealResource IsRealScope IsFitMetric) (OfFlat IsRealResource IsRealScope (OwnFit metric_cells (drop 9 metrics)))
      (λ f of. (of.0, of.1, of.2.own)) (flat_items groups) (of_flat IsRealResource IsRealScope IsFitMetric groups fit))

  main_written : IsProfileTable (main_table table.Metrics metric_cells groups)
  main_written = main_profile table.Metrics metric_cells groups metrics_kind (few_metrics groups light) main_rows_fit

  fit_metrics : All IsFitMetric (items_of groups)
  fit_metrics = all_items_can IsRealResource IsRealScope IsFitMetric groups fit

  fit_points : All IsFitPoint (all_points groups)
  fit_points = all_joined IsFitPoint (λ (metric : Metric). points_of metric.shape) (items_of groups)
      (All-weaker IsFitMetric (λ (metric : Metric). All IsFitPoint (points_of metric.shape)) (λ metric fit. fit.points) (items_of groups) fit_metrics)

  fit_exemplars : All IsFitExemplar (all_exemplars groups)
  fit_exemplars = all_joined IsFitExemplar (λ (point : Point). point.exemplars) (all_points groups)
      (All-weaker IsFitPoint (λ (point : Point). All IsFitExemplar point.exemplars) (λ point fit. fit.exemplars) (all_points groups) fit_points)

  real_resources : All AreReal (resource_pairs groups)
  real_resources = All-map AreReal (λ (resource : Resource). resource.pairs) (resources_of groups)
      (All-weaker IsRealResource (λ (resource : Resource). AreReal resource.pairs) (λ resource real. real.pairs) (resources_of groups)
      (all_resources_can IsRealResource IsRealScope IsFitMetric groups fit))

  real_scopes : All AreReal (scope_pairs groups)
  real_scopes = All-map AreReal (λ (scope : Scope). scope.pairs) (scopes_of groups)
      (All-weaker IsRealScope (λ (scope : Scope). AreReal scope.pairs) (λ scope real. real.pairs) (scopes_of groups)
      (all_scopes_can IsRealResource IsRealScope IsFitMetric groups fit))

  real_points : All AreReal (point_pairs groups)
  real_points = All-map AreReal (λ (point : Point). point.pairs) (all_points groups)
      (All-weaker IsFitPoint (λ (point : Point). AreReal point.pairs) (λ point fit. fit.pairs) (all_points groups) fit_points)

  real_exemplars : All AreReal (exemplar_pairs groups)
  real_exemplars = All-map AreReal (λ (exemplar : Exemplar). exemplar.pairs) (all_exemplars groups)
      (All-weaker IsFitExemplar (λ (exemplar : Exemplar). AreReal exemplar.pairs) (λ exemplar fit. fit.pairs) (all_exemplars groups) fit_exemplars)

  points_written : IsProfileTable (part_table table.NumberPoints point_cells (point_lists groups))
  points_written =
      part_written table.NumberPoints point_cells (drop 2 number_points) (point_lists groups) points_are_parts point_row point_ids (few_point_lists groups light) (few_all_points groups light)
      (recursion_from_All (λ (point : Point). IsRow (drop 2 number_points) (point_cells point)) (all_points groups)
      (All-weaker IsFitPoint (λ (point : Point). IsRow (drop 2 number_points) (point_cells point)) (λ point fit. fit.own) (all_points groups) fit_points))

  exemplars_written : IsProfileTable (part_table table.NumberExemplars exemplar_cells (exemplar_lists groups))
  exemplars_written =
      part_written table.NumberExemplars exemplar_cells (drop 2 exemplars) (exemplar_lists groups) exemplars_are_parts exemplar_row exemplar_ids
      (few_exemplar_lists groups light) (few_all_exemplars groups light)
      (recursion_from_All (λ (exemplar : Exemplar). IsRow (drop 2 exemplars) (exemplar_cells exemplar)) (all_exemplars groups)
      (All-weaker IsFitExemplar (λ (exemplar : Exemplar). IsRow (drop 2 exemplars) (exemplar_cells exemplar)) (λ exemplar fit. fit.own) (all_exemplars groups) fit_exemplars))

-- the tables of attributes of resources and scopes, of points of gauges and sums, and of what is below them
abbrev pub number_tables : List (ResourceGroup Metric) → List Table
number_tables groups =
    attribute_table table.ResourceAttrs (resource_pairs groups)
    ∷ attribute_table table.ScopeAttrs (scope_pairs groups)
    ∷ part_table table.NumberPoints point_cells (point_lists groups)
    ∷ attribute_table table.NumberPointAttrs (point_pairs groups)
    ∷ part_table table.NumberExemplars exemplar_cells (exemplar_lists groups)
    ∷ attribute_table table.NumberExemplarAttrs (exemplar_pairs groups)
    ∷ []

module _ (groups : List (ResourceGroup Metric)) (real : IsReal (Metrics groups)) (is : IsProfile (Metrics groups)) (light : weight_of (Metrics groups) ≤ weight_limit) where
  fit : All IsFit groups
  fit = groups_fit groups real.at is.at

  pub main_is_written : IsProfileTable (main_table table.Metrics metric_cells groups)
  main_is_written = main_written groups fit light

  pub numbers_are_written : AllByRecursion IsProfileTable (number_tables groups)
  numbers_are_written = (
    attributes_written table.ResourceAttrs (resource_pairs groups) refl (few_resource_pairs groups light) (real_resources groups fit light),
    (
      attributes_written table.ScopeAttrs (scope_pairs groups) refl (few_scope_pairs groups light) (real_scopes groups fit light),
      (
        points_written groups fit light,
        (
          attributes_written table.NumberPointAttrs (point_pairs groups) refl (few_point_pairs groups light) (real_points groups fit light),
          (
            exemplars_written groups fit light,
            (
              attributes_written table.NumberExemplarAttrs (exemplar_pairs groups) refl (few_exemplar_pairs groups light) (real_exemplars groups fit light),
              tt,
            ),
          ),
        ),
      ),
    ),
  )
