use Rattle.std.proofs.Common.{◌≤◌, ◌^◌, List, map, ap, ◌∙◌}
use Rattle.lists.proofs.Every.{found_all}
use Rattle.otlp_model.specs.Limits.{weight_limit}
use Rattle.otlp_model.specs.Weight.{total, weight_of_pair}
use Rattle.otlp_model.specs.declared.histograms.HistPoint.{HistPoint}
use Rattle.otlp_model.specs.declared.histograms.SumPoint.{SumPoint}
use Rattle.otlp_model.specs.declared.metrics.Exemplar.{Exemplar}
use Rattle.otlp_model.specs.declared.metrics.Metric.{Metric}
use Rattle.otlp_model.specs.declared.metrics.Point.{Point}
use Rattle.otlp_model.specs.declared.value.Pair.{Pair}
use Rattle.otap_cells.specs.declared.payload.Kind.TheVariants as table
use Rattle.otap_cells.specs.Tables.{Table}
use Rattle.otap_groups.specs.declared.flat.Placed.{Placed}
use Rattle.otap_groups.specs.Flat.{items_of}
use Rattle.otap_groups.specs.Views.{seen_flat, seen_placed}
use Rattle.otap_groups.proofs.FlatItems.{all_items}
use Rattle.otap_points.specs.Points.{exemplar_cells, hist_point_cells, point_cells, sum_point_cells}
use Rattle.otap_points.specs.Writable.{CanWriteExemplar, CanWriteHistPoint, CanWritePoint, CanWriteSumPoint}
use Rattle.otap_metrics.specs.Metrics.{hist_points_of, points_of, summary_points_of}
use Rattle.otap_metrics.specs.Tables.{all_exemplars, all_hist_exemplars, all_hist_points, all_points, all_summary_points}
use Rattle.otap_metrics.specs.Writable.{CanWriteMetric}
use Rattle.otap_metrics.proofs.LightHists.{all_can}
use Rattle.otap_metrics.proofs.WritableMetrics.{exemplar_pairs_can, exemplars_can, exemplars_few, hist_exemplar_pairs_can, hist_exemplars_can, hist_exemplars_few, hist_pairs_can, hists_can, hists_few}
use Rattle.otap_metrics.proofs.WritableMetrics.{metrics_can, metrics_few, metrics_most, point_pairs_can, points_can, points_few, resources_can, resources_few, scopes_can, scopes_few, summaries_can, summaries_few, summary_pairs_can}
use Rattle.otap_metrics.proofs.WrittenParts.{found_few, main_is, metrics_seen, pairs_table, parts_seen, parts_table, pushed, rows_few, table_of_kind, written, written_set}
use Rattle.otap_metrics.proofs.writing.tables_of.Goals as goal

abbrev metric_now : Placed Metric → Metric
metric_now p = p.part.now

abbrev point_now : Placed Point → Point
point_now p = p.part.now

abbrev summary_now : Placed SumPoint → SumPoint
summary_now p = p.part.now

abbrev hist_now : Placed HistPoint → HistPoint
hist_now p = p.part.now

abbrev exemplar_now : Placed Exemplar → Exemplar
exemplar_now p = p.part.now

abbrev IsLight : {X : Type 0} → (X → List Pair) → X → Type 0
IsLight pairs x = total 32 weight_of_pair (pairs x) ≤ weight_limit

pub flatten-requires : goal.flatten-requires
flatten-requires c =
    record { few = metrics_few c.args.groups.now c.as_slice-groups.result.now c.as_slice-groups.ensures c.requires.weight }

pub write_rows-requires-clause-items : goal.write_rows-requires-clause-items
write_rows-requires-clause-items c =
    all_items CanWriteMetric c.deref.result.now c.as_slice-groups.result.now (ap (map seen_flat) c.deref.ensures.value ∙ c.in_ok-rows.ensures.items)
    (metrics_can c.as_slice-groups.result.now (all_can c.args.groups.now c.as_slice-groups.result.now c.as_slice-groups.ensures c.requires.profile c.requires.weight))

pub items_of-requires : goal.items_of-requires
items_of-requires c =
    rows_few c.as_slice-groups.result.now c.deref-2.result.now (ap (map seen_flat) c.deref-2.ensures.value ∙ c.in_ok-rows.ensures.items) (metrics_few c.args.groups.now c.as_slice-groups.result.now c.as_slice-groups.ensures c.requires.weight)

pub parts_of-requires : goal.parts_of-requires
parts_of-requires c =
    record {
      few = found_few metric_now c.deref-3.result.now (items_of c.as_slice-groups.result.now) (2 ^ 32) (ap (map metric_now) c.deref-3.ensures.value ∙ metrics_seen c.as_slice-groups.result.now c.deref-2.result.now c.in_ok-metrics.metrics.items
          (ap (map seen_flat) c.deref-2.ensures.value ∙ c.in_ok-rows.ensures.items) c.in_ok-metrics.ensures) (metrics_most c.args.groups.now c.as_slice-groups.result.now c.as_slice-groups.ensures c.requires.weight);
    }

pub parts_of-requires-2 : goal.parts_of-requires-2
parts_of-requires-2 c =
    record {
      few = found_few metric_now c.deref-4.result.now (items_of c.as_slice-groups.result.now) (2 ^ 32) (ap (map metric_now) c.deref-4.ensures.value ∙ metrics_seen c.as_slice-groups.result.now c.deref-2.result.now c.in_ok-metrics.metrics.items
          (ap (map seen_flat) c.deref-2.ensures.value ∙ c.in_ok-rows.ensures.items) c.in_ok-metrics.ensures) (metrics_most c.args.groups.now c.as_slice-groups.result.now c.as_slice-groups.ensures c.requires.weight);
    }

pub parts_of-requires-3 : goal.parts_of-requires-3
parts_of-requires-3 c =
    record {
      few = found_few metric_now c.deref-5.result.now (items_of c.as_slice-groups.result.now) (2 ^ 32) (ap (map metric_now) c.deref-5.ensures.value ∙ metrics_seen c.as_slice-groups.result.now c.deref-2.result.now c.in_ok-metrics.metrics.items
          (ap (map seen_flat) c.deref-2.ensures.value ∙ c.in_ok-rows.ensures.items) c.in_ok-metrics.ensures) (metrics_most c.args.groups.now c.as_slice-groups.result.now c.as_slice-groups.ensures c.requires.weight);
    }

pub parts_of-requires-4 : goal.parts_of-requires-4
parts_of-requires-4 c =
    record {
      few = found_few point_now c.deref-6.result.now (all_points c.as_slice-groups.result.now) (2 ^ 32) (ap (map point_now) c.deref-6.ensures.value ∙ parts_seen (λ (metric : Metric). points_of metric.shape) (items_of c.as_slice-groups.result.now) c.deref-3.result.now c.in_ok-points.points.items
          (ap (map metric_now) c.deref-3.ensures.value ∙ metrics_seen c.as_slice-groups.result.now c.deref-2.result.now c.in_ok-metrics.metrics.items
          (ap (map seen_flat) c.deref-2.ensures.value ∙ c.in_ok-rows.ensures.items) c.in_ok-metrics.ensures) c.in_ok-points.ensures.parts) (points_few c.args.groups.now c.as_slice-groups.result.now c.as_slice-groups.ensures c.requires.weight);
    }

pub parts_of-requires-5 : goal.parts_of-requires-5
parts_of-requires-5 c =
    record {
      few = found_few hist_now c.deref-7.result.now (all_hist_points c.as_slice-groups.result.now) (2 ^ 32) (ap (map hist_now) c.deref-7.ensures.value ∙ parts_seen (λ (metric : Metric). hist_points_of metric.shape) (items_of c.as_slice-groups.result.now) c.deref-5.result.now c.in_ok-hist_points.hist_points.items
          (ap (map metric_now) c.deref-5.ensures.value ∙ metrics_seen c.as_slice-groups.result.now c.deref-2.result.now c.in_ok-metrics.metrics.items
          (ap (map seen_flat) c.deref-2.ensures.value ∙ c.in_ok-rows.ensures.items) c.in_ok-metrics.ensures) c.in_ok-hist_points.ensures.parts) (hists_few c.args.groups.now c.as_slice-groups.result.now c.as_slice-groups.ensures c.requires.weight);
    }

pub add_resources-requires-clause-few : goal.add_resources-requires-clause-few
add_resources-requires-clause-few c =
    resources_few c.args.groups.now c.as_slice-groups.result.now c.as_slice-groups.ensures c.requires.weight

pub add_resources-requires-clause-weight : goal.add_resources-requires-clause-weight
add_resources-requires-clause-weight c =
    resources_can c.as_slice-groups.result.now (all_can c.args.groups.now c.as_slice-groups.result.now c.as_slice-groups.ensures c.requires.profile c.requires.weight)

pub add_scopes-requires-clause-few : goal.add_scopes-requires-clause-few
add_scopes-requires-clause-few c =
    scopes_few c.args.groups.now c.as_slice-groups.result.now c.as_slice-groups.ensures c.requires.weight

pub add_scopes-requires-clause-weight : goal.add_scopes-requires-clause-weight
add_scopes-requires-clause-weight c =
    scopes_can c.as_slice-groups.result.now (all_can c.args.groups.now c.as_slice-groups.result.now c.as_slice-groups.ensures c.requires.profile c.requires.weight)

pub add_parts-requires-clause-parts : goal.add_parts-requires-clause-parts
add_parts-requires-clause-parts c =
    found_all point_now CanWritePoint c.deref-8.result.now (all_points c.as_slice-groups.result.now)
    (ap (map point_now) c.deref-8.ensures.value ∙ parts_seen (λ (metric : Metric). points_of metric.shape) (items_of c.as_slice-groups.result.now) c.deref-3.result.now c.in_ok-points.points.items
    (ap (map metric_now) c.deref-3.ensures.value ∙ metrics_seen c.as_slice-groups.result.now c.deref-2.result.now c.in_ok-metrics.metrics.items
    (ap (map seen_flat) c.deref-2.ensures.value ∙ c.in_ok-rows.ensures.items) c.in_ok-metrics.ensures) c.in_ok-points.ensures.parts)
    (points_can c.as_slice-groups.result.now (all_can c.args.groups.now c.as_slice-groups.result.now c.as_slice-groups.ensures c.requires.profile c.requires.weight))

pub add_parts-requires-2-clause-parts : goal.add_parts-requires-2-clause-parts
add_parts-requires-2-clause-parts c =
    found_all summary_now CanWriteSumPoint c.deref-9.result.now (all_summary_points c.as_slice-groups.result.now)
    (ap (map summary_now) c.deref-9.ensures.value ∙ parts_seen (λ (metric : Metric). summary_points_of metric.shape) (items_of c.as_slice-groups.result.now) c.deref-4.result.now c.in_ok-summary_points.summary_points.items
    (ap (map metric_now) c.deref-4.ensures.value ∙ metrics_seen c.as_slice-groups.result.now c.deref-2.result.now c.in_ok-metrics.metrics.items
    (ap (map seen_flat) c.deref-2.ensures.value ∙ c.in_ok-rows.ensures.items) c.in_ok-metrics.ensures) c.in_ok-summary_points.ensures.parts)
    (summaries_can c.as_slice-groups.result.now (all_can c.args.groups.now c.as_slice-groups.result.now c.as_slice-groups.ensures c.requires.profile c.requires.weight))

pub add_parts-requires-3-clause-parts : goal.add_parts-requires-3-clause-parts
add_parts-requires-3-clause-parts c =
    found_all hist_now CanWriteHistPoint c.deref-10.result.now (all_hist_points c.as_slice-groups.result.now)
    (ap (map hist_now) c.deref-10.ensures.value ∙ parts_seen (λ (metric : Metric). hist_points_of metric.shape) (items_of c.as_slice-groups.result.now) c.deref-5.result.now c.in_ok-hist_points.hist_points.items
    (ap (map metric_now) c.deref-5.ensures.value ∙ metrics_seen c.as_slice-groups.result.now c.deref-2.result.now c.in_ok-metrics.metrics.items
    (ap (map seen_flat) c.deref-2.ensures.value ∙ c.in_ok-rows.ensures.items) c.in_ok-metrics.ensures) c.in_ok-hist_points.ensures.parts)
    (hists_can c.as_slice-groups.result.now (all_can c.args.groups.now c.as_slice-groups.result.now c.as_slice-groups.ensures c.requires.profile c.requires.weight))

pub add_parts-requires-4-clause-parts : goal.add_parts-requires-4-clause-parts
add_parts-requires-4-clause-parts c =
    found_all exemplar_now CanWriteExemplar c.deref-14.result.now (all_exemplars c.as_slice-groups.result.now)
    (ap (map exemplar_now) c.deref-14.ensures.value ∙ parts_seen (λ (point : Point). point.exemplars) (all_points c.as_slice-groups.result.now) c.deref-6.result.now c.in_ok-exemplars.exemplars.items
    (ap (map point_now) c.deref-6.ensures.value ∙ parts_seen (λ (metric : Metric). points_of metric.shape) (items_of c.as_slice-groups.result.now) c.deref-3.result.now c.in_ok-points.points.items
    (ap (map metric_now) c.deref-3.ensures.value ∙ metrics_seen c.as_slice-groups.result.now c.deref-2.result.now c.in_ok-metrics.metrics.items
    (ap (map seen_flat) c.deref-2.ensures.value ∙ c.in_ok-rows.ensures.items) c.in_ok-metrics.ensures) c.in_ok-points.ensures.parts) c.in_ok-exemplars.ensures.parts)
    (exemplars_can c.as_slice-groups.result.now (all_can c.args.groups.now c.as_slice-groups.result.now c.as_slice-groups.ensures c.requires.profile c.requires.weight))

pub add_parts-requires-5-clause-parts : goal.add_parts-requires-5-clause-parts
add_parts-requires-5-clause-parts c =
    found_all exemplar_now CanWriteExemplar c.deref-15.result.now (all_hist_exemplars c.as_slice-groups.result.now)
    (ap (map exemplar_now) c.deref-15.ensures.value ∙ parts_seen (λ (point : HistPoint). point.exemplars) (all_hist_points c.as_slice-groups.result.now) c.deref-7.result.now c.in_ok-hist_exemplars.hist_exemplars.items
    (ap (map hist_now) c.deref-7.ensures.value ∙ parts_seen (λ (metric : Metric). hist_points_of metric.shape) (items_of c.as_slice-groups.result.now) c.deref-5.result.now c.in_ok-hist_points.hist_points.items
    (ap (map metric_now) c.deref-5.ensures.value ∙ metrics_seen c.as_slice-groups.result.now c.deref-2.result.now c.in_ok-metrics.metrics.items
    (ap (map seen_flat) c.deref-2.ensures.value ∙ c.in_ok-rows.ensures.items) c.in_ok-metrics.ensures) c.in_ok-hist_points.ensures.parts) c.in_ok-hist_exemplars.ensures.parts)
    (hist_exemplars_can c.as_slice-groups.result.now (all_can c.args.groups.now c.as_slice-groups.result.now c.as_slice-groups.ensures c.requires.profile c.requires.weight))

pub add_attributes-requires-clause-few : goal.add_attributes-requires-clause-few
add_attributes-requires-clause-few c =
    found_few point_now c.deref-11.result.now (all_points c.as_slice-groups.result.now) (2 ^ 32)
    (ap (map point_now) c.deref-11.ensures.value ∙ parts_seen (λ (metric : Metric). points_of metric.shape) (items_of c.as_slice-groups.result.now) c.deref-3.result.now c.in_ok-points.points.items
    (ap (map metric_now) c.deref-3.ensures.value ∙ metrics_seen c.as_slice-groups.result.now c.deref-2.result.now c.in_ok-metrics.metrics.items
    (ap (map seen_flat) c.deref-2.ensures.value ∙ c.in_ok-rows.ensures.items) c.in_ok-metrics.ensures) c.in_ok-points.ensures.parts)
    (points_few c.args.groups.now c.as_slice-groups.result.now c.as_slice-groups.ensures c.requires.weight)

pub add_attributes-requires-clause-weight : goal.add_attributes-requires-clause-weight
add_attributes-requires-clause-weight c =
    found_all point_now (IsLight (λ (x : Point). x.pairs)) c.deref-11.result.now (all_points c.as_slice-groups.result.now)
    (ap (map point_now) c.deref-11.ensures.value ∙ parts_seen (λ (metric : Metric). points_of metric.shape) (items_of c.as_slice-groups.result.now) c.deref-3.result.now c.in_ok-points.points.items
    (ap (map metric_now) c.deref-3.ensures.value ∙ metrics_seen c.as_slice-groups.result.now c.deref-2.result.now c.in_ok-metrics.metrics.items
    (ap (map seen_flat) c.deref-2.ensures.value ∙ c.in_ok-rows.ensures.items) c.in_ok-metrics.ensures) c.in_ok-points.ensures.parts)
    (point_pairs_can c.as_slice-groups.result.now (all_can c.args.groups.now c.as_slice-groups.result.now c.as_slice-groups.ensures c.requires.profile c.requires.weight))

pub add_attributes-requires-2-clause-few : goal.add_attributes-requires-2-clause-few
add_attributes-requires-2-clause-few c =
    found_few summary_now c.deref-12.result.now (all_summary_points c.as_slice-groups.result.now) (2 ^ 32)
    (ap (map summary_now) c.deref-12.ensures.value ∙ parts_seen (λ (metric : Metric). summary_points_of metric.shape) (items_of c.as_slice-groups.result.now) c.deref-4.result.now c.in_ok-summary_points.summary_points.items
    (ap (map metric_now) c.deref-4.ensures.value ∙ metrics_seen c.as_slice-groups.result.now c.deref-2.result.now c.in_ok-metrics.metrics.items
    (ap (map seen_flat) c.deref-2.ensures.value ∙ c.in_ok-rows.ensures.items) c.in_ok-metrics.ensures) c.in_ok-summary_points.ensures.parts)
    (summaries_few c.args.groups.now c.as_slice-groups.result.now c.as_slice-groups.ensures c.requires.weight)

pub add_attributes-requires-2-clause-weight : goal.add_attributes-requires-2-clause-weight
add_attributes-requires-2-clause-weight c =
    found_all summary_now (IsLight (λ (x : SumPoint). x.pairs)) c.deref-12.result.now (all_summary_points c.as_slice-groups.result.now)
    (ap (map summary_now) c.deref-12.ensures.value ∙ parts_seen (λ (metric : Metric). summary_points_of metric.shape) (items_of c.as_slice-groups.result.now) c.deref-4.result.now c.in_ok-summary_points.summary_points.items
    (ap (map metric_now) c.deref-4.ensures.value ∙ metrics_seen c.as_slice-groups.result.now c.deref-2.result.now c.in_ok-metrics.metrics.items
    (ap (map seen_flat) c.deref-2.ensures.value ∙ c.in_ok-rows.ensures.items) c.in_ok-metrics.ensures) c.in_ok-summary_points.ensures.parts)
    (summary_pairs_can c.as_slice-groups.result.now (all_can c.args.groups.now c.as_slice-groups.result.now c.as_slice-groups.ensures c.requires.profile c.requires.weight))

pub add_attributes-requires-3-clause-few : goal.add_attributes-requires-3-clause-few
add_attributes-requires-3-clause-few c =
    found_few hist_now c.deref-13.result.now (all_hist_points c.as_slice-groups.result.now) (2 ^ 32)
    (ap (map hist_now) c.deref-13.ensures.value ∙ parts_seen (λ (metric : Metric). hist_points_of metric.shape) (items_of c.as_slice-groups.result.now) c.deref-5.result.now c.in_ok-hist_points.hist_points.items
    (ap (map metric_now) c.deref-5.ensures.value ∙ metrics_seen c.as_slice-groups.result.now c.deref-2.result.now c.in_ok-metrics.metrics.items
    (ap (map seen_flat) c.deref-2.ensures.value ∙ c.in_ok-rows.ensures.items) c.in_ok-metrics.ensures) c.in_ok-hist_points.ensures.parts)
    (hists_few c.args.groups.now c.as_slice-groups.result.now c.as_slice-groups.ensures c.requires.weight)

pub add_attributes-requires-3-clause-weight : goal.add_attributes-requires-3-clause-weight
add_attributes-requires-3-clause-weight c =
    found_all hist_now (IsLight (λ (x : HistPoint). x.pairs)) c.deref-13.result.now (all_hist_points c.as_slice-groups.result.now)
    (ap (map hist_now) c.deref-13.ensures.value ∙ parts_seen (λ (metric : Metric). hist_points_of metric.shape) (items_of c.as_slice-groups.result.now) c.deref-5.result.now c.in_ok-hist_points.hist_points.items
    (ap (map metric_now) c.deref-5.ensures.value ∙ metrics_seen c.as_slice-groups.result.now c.deref-2.result.now c.in_ok-metrics.metrics.items
    (ap (map seen_flat) c.deref-2.ensures.value ∙ c.in_ok-rows.ensures.items) c.in_ok-metrics.ensures) c.in_ok-hist_points.ensures.parts)
    (hist_pairs_can c.as_slice-groups.result.now (all_can c.args.groups.now c.as_slice-groups.result.now c.as_slice-groups.ensures c.requires.profile c.requires.weight))

pub add_attributes-requires-4-clause-few : goal.add_attributes-requires-4-clause-few
add_attributes-requires-4-clause-few c =
    found_few exemplar_now c.deref-16.result.now (all_exemplars c.as_slice-groups.result.now) (2 ^ 32)
    (ap (map exemplar_now) c.deref-16.ensures.value ∙ parts_seen (λ (point : Point). point.exemplars) (all_points c.as_slice-groups.result.now) c.deref-6.result.now c.in_ok-exemplars.exemplars.items
    (ap (map point_now) c.deref-6.ensures.value ∙ parts_seen (λ (metric : Metric). points_of metric.shape) (items_of c.as_slice-groups.result.now) c.deref-3.result.now c.in_ok-points.points.items
    (ap (map metric_now) c.deref-3.ensures.value ∙ metrics_seen c.as_slice-groups.result.now c.deref-2.result.now c.in_ok-metrics.metrics.items
    (ap (map seen_flat) c.deref-2.ensures.value ∙ c.in_ok-rows.ensures.items) c.in_ok-metrics.ensures) c.in_ok-points.ensures.parts) c.in_ok-exemplars.ensures.parts)
    (exemplars_few c.args.groups.now c.as_slice-groups.result.now c.as_slice-groups.ensures c.requires.weight)

pub add_attributes-requires-4-clause-weight : goal.add_attributes-requires-4-clause-weight
add_attributes-requires-4-clause-weight c =
    found_all exemplar_now (IsLight (λ (x : Exemplar). x.pairs)) c.deref-16.result.now (all_exemplars c.as_slice-groups.result.now)
    (ap (map exemplar_now) c.deref-16.ensures.value ∙ parts_seen (λ (point : Point). point.exemplars) (all_points c.as_slice-groups.result.now) c.deref-6.result.now c.in_ok-exemplars.exemplars.items
    (ap (map point_now) c.deref-6.ensures.value ∙ parts_seen (λ (metric : Metric). points_of metric.shape) (items_of c.as_slice-groups.result.now) c.deref-3.result.now c.in_ok-points.points.items
    (ap (map metric_now) c.deref-3.ensures.value ∙ metrics_seen c.as_slice-groups.result.now c.deref-2.result.now c.in_ok-metrics.metrics.items
    (ap (map seen_flat) c.deref-2.ensures.value ∙ c.in_ok-rows.ensures.items) c.in_ok-metrics.ensures) c.in_ok-points.ensures.parts) c.in_ok-exemplars.ensures.parts)
    (exemplar_pairs_can c.as_slice-groups.result.now (all_can c.args.groups.now c.as_slice-groups.result.now c.as_slice-groups.ensures c.requires.profile c.requires.weight))

pub add_attributes-requires-5-clause-few : goal.add_attributes-requires-5-clause-few
add_attributes-requires-5-clause-few c =
    found_few exemplar_now c.deref-17.result.now (all_hist_exemplars c.as_slice-groups.result.now) (2 ^ 32)
    (ap (map exemplar_now) c.deref-17.ensures.value ∙ parts_seen (λ (point : HistPoint). point.exemplars) (all_hist_points c.as_slice-groups.result.now) c.deref-7.result.now c.in_ok-hist_exemplars.hist_exemplars.items
    (ap (map hist_now) c.deref-7.ensures.value ∙ parts_seen (λ (metric : Metric). hist_points_of metric.shape) (items_of c.as_slice-groups.result.now) c.deref-5.result.now c.in_ok-hist_points.hist_points.items
    (ap (map metric_now) c.deref-5.ensures.value ∙ metrics_seen c.as_slice-groups.result.now c.deref-2.result.now c.in_ok-metrics.metrics.items
    (ap (map seen_flat) c.deref-2.ensures.value ∙ c.in_ok-rows.ensures.items) c.in_ok-metrics.ensures) c.in_ok-hist_points.ensures.parts) c.in_ok-hist_exemplars.ensures.parts)
    (hist_exemplars_few c.args.groups.now c.as_slice-groups.result.now c.as_slice-groups.ensures c.requires.weight)

pub add_attributes-requires-5-clause-weight : goal.add_attributes-requires-5-clause-weight
add_attributes-requires-5-clause-weight c =
    found_all exemplar_now (IsLight (λ (x : Exemplar). x.pairs)) c.deref-17.result.now (all_hist_exemplars c.as_slice-groups.result.now)
    (ap (map exemplar_now) c.deref-17.ensures.value ∙ parts_seen (λ (point : HistPoint). point.exemplars) (all_hist_points c.as_slice-groups.result.now) c.deref-7.result.now c.in_ok-hist_exemplars.hist_exemplars.items
    (ap (map hist_now) c.deref-7.ensures.value ∙ parts_seen (λ (metric : Metric). hist_points_of metric.shape) (items_of c.as_slice-groups.result.now) c.deref-5.result.now c.in_ok-hist_points.hist_points.items
    (ap (map metric_now) c.deref-5.ensures.value ∙ metrics_seen c.as_slice-groups.result.now c.deref-2.result.now c.in_ok-metrics.metrics.items
    (ap (map seen_flat) c.deref-2.ensures.value ∙ c.in_ok-rows.ensures.items) c.in_ok-metrics.ensures) c.in_ok-hist_points.ensures.parts) c.in_ok-hist_exemplars.ensures.parts)
    (hist_exemplar_pairs_can c.as_slice-groups.result.now (all_can c.args.groups.now c.as_slice-groups.result.now c.as_slice-groups.ensures c.requires.profile c.requires.weight))

pub returns : goal.returns
returns c =
    written c.as_slice-groups.result.now c.add_attributes-5.new.tables.items _ _ _ _ _ _ _ _ _ _ _
    (pushed c.in_ok-main.main _ _ _ _ _ _ _ _ _ _ _ _ _ _ _ _ _ _ _ _ _ _ _ _ _ c.add_attributes-5.new.tables.items c.new-tables.ensures.items c.in_ok-push.ensures.items (ap (λ (t : Table). t.kind) c.in_ok-main.ensures)
    c.in_ok-add_resources.ensures.ok c.in_ok-add_scopes.ensures.ok c.in_ok-add_parts.ensures.ok c.in_ok-add_parts-2.ensures.ok c.in_ok-add_parts-3.ensures.ok
    c.in_ok-add_attributes.ensures.ok c.in_ok-add_attributes-2.ensures.ok c.in_ok-add_attributes-3.ensures.ok
    c.in_ok-add_parts-4.ensures.ok c.in_ok-add_parts-5.ensures.ok c.in_ok-add_attributes-4.ensures.ok c.in_ok-add_attributes-5.ensures.ok)
    (main_is c.as_slice-groups.result.now c.deref.result.now c.in_ok-main.main (ap (map seen_flat) c.deref.ensures.value ∙ c.in_ok-rows.ensures.items) c.in_ok-main.ensures)
    (parts_table (λ (metric : Metric). points_of metric.shape) (items_of c.as_slice-groups.result.now) c.deref-3.result.now c.deref-8.result.now
    (ap (map metric_now) c.deref-3.ensures.value ∙ metrics_seen c.as_slice-groups.result.now c.deref-2.result.now c.in_ok-metrics.metrics.items
    (ap (map seen_flat) c.deref-2.ensures.value ∙ c.in_ok-rows.ensures.items) c.in_ok-metrics.ensures)
    (ap (map seen_placed) c.deref-8.ensures.value ∙ c.in_ok-points.ensures.parts) table.NumberPoints point_cells)
    (parts_table (λ (metric : Metric). summary_points_of metric.shape) (items_of c.as_slice-groups.result.now) c.deref-4.result.now c.deref-9.result.now
    (ap (map metric_now) c.deref-4.ensures.value ∙ metrics_seen c.as_slice-groups.result.now c.deref-2.result.now c.in_ok-metrics.metrics.items
    (ap (map seen_flat) c.deref-2.ensures.value ∙ c.in_ok-rows.ensures.items) c.in_ok-metrics.ensures)
    (ap (map seen_placed) c.deref-9.ensures.value ∙ c.in_ok-summary_points.ensures.parts) table.SummaryPoints sum_point_cells)
    (parts_table (λ (metric : Metric). hist_points_of metric.shape) (items_of c.as_slice-groups.result.now) c.deref-5.result.now c.deref-10.result.now
    (ap (map metric_now) c.deref-5.ensures.value ∙ metrics_seen c.as_slice-groups.result.now c.deref-2.result.now c.in_ok-metrics.metrics.items
    (ap (map seen_flat) c.deref-2.ensures.value ∙ c.in_ok-rows.ensures.items) c.in_ok-metrics.ensures)
    (ap (map seen_placed) c.deref-10.ensures.value ∙ c.in_ok-hist_points.ensures.parts) table.HistPoints hist_point_cells)
    (pairs_table table.NumberPointAttrs point_now (λ (x : Point). x.pairs) c.deref-11.result.now (all_points c.as_slice-groups.result.now)
    (ap (map point_now) c.deref-11.ensures.value ∙ parts_seen (λ (metric : Metric). points_of metric.shape) (items_of c.as_slice-groups.result.now) c.deref-3.result.now c.in_ok-points.points.items
    (ap (map metric_now) c.deref-3.ensures.value ∙ metrics_seen c.as_slice-groups.result.now c.deref-2.result.now c.in_ok-metrics.metrics.items
    (ap (map seen_flat) c.deref-2.ensures.value ∙ c.in_ok-rows.ensures.items) c.in_ok-metrics.ensures) c.in_ok-points.ensures.parts))
    (pairs_table table.SummaryPointAttrs summary_now (λ (x : SumPoint). x.pairs) c.deref-12.result.now (all_summary_points c.as_slice-groups.result.now)
    (ap (map summary_now) c.deref-12.ensures.value ∙ parts_seen (λ (metric : Metric). summary_points_of metric.shape) (items_of c.as_slice-groups.result.now) c.deref-4.result.now c.in_ok-summary_points.summary_points.items
    (ap (map metric_now) c.deref-4.ensures.value ∙ metrics_seen c.as_slice-groups.result.now c.deref-2.result.now c.in_ok-metrics.metrics.items
    (ap (map seen_flat) c.deref-2.ensures.value ∙ c.in_ok-rows.ensures.items) c.in_ok-metrics.ensures) c.in_ok-summary_points.ensures.parts))
    (pairs_table table.HistPointAttrs hist_now (λ (x : HistPoint). x.pairs) c.deref-13.result.now (all_hist_points c.as_slice-groups.result.now)
    (ap (map hist_now) c.deref-13.ensures.value ∙ parts_seen (λ (metric : Metric). hist_points_of metric.shape) (items_of c.as_slice-groups.result.now) c.deref-5.result.now c.in_ok-hist_points.hist_points.items
    (ap (map metric_now) c.deref-5.ensures.value ∙ metrics_seen c.as_slice-groups.result.now c.deref-2.result.now c.in_ok-metrics.metrics.items
    (ap (map seen_flat) c.deref-2.ensures.value ∙ c.in_ok-rows.ensures.items) c.in_ok-metrics.ensures) c.in_ok-hist_points.ensures.parts))
    (table_of_kind (λ (point : Point). point.exemplars) (all_points c.as_slice-groups.result.now) c.deref-6.result.now c.deref-14.result.now
    (ap (map point_now) c.deref-6.ensures.value ∙ parts_seen (λ (metric : Metric). points_of metric.shape) (items_of c.as_slice-groups.result.now) c.deref-3.result.now c.in_ok-points.points.items
    (ap (map metric_now) c.deref-3.ensures.value ∙ metrics_seen c.as_slice-groups.result.now c.deref-2.result.now c.in_ok-metrics.metrics.items
    (ap (map seen_flat) c.deref-2.ensures.value ∙ c.in_ok-rows.ensures.items) c.in_ok-metrics.ensures) c.in_ok-points.ensures.parts)
    (ap (map seen_placed) c.deref-14.ensures.value ∙ c.in_ok-exemplars.ensures.parts) table.NumberExemplars _ exemplar_cells c.of_points.ensures)
    (table_of_kind (λ (point : HistPoint). point.exemplars) (all_hist_points c.as_slice-groups.result.now) c.deref-7.result.now c.deref-15.result.now
    (ap (map hist_now) c.deref-7.ensures.value ∙ parts_seen (λ (metric : Metric). hist_points_of metric.shape) (items_of c.as_slice-groups.result.now) c.deref-5.result.now c.in_ok-hist_points.hist_points.items
    (ap (map metric_now) c.deref-5.ensures.value ∙ metrics_seen c.as_slice-groups.result.now c.deref-2.result.now c.in_ok-metrics.metrics.items
    (ap (map seen_flat) c.deref-2.ensures.value ∙ c.in_ok-rows.ensures.items) c.in_ok-metrics.ensures) c.in_ok-hist_points.ensures.parts)
    (ap (map seen_placed) c.deref-15.ensures.value ∙ c.in_ok-hist_exemplars.ensures.parts) table.HistExemplars _ exemplar_cells c.of_hist_points.ensures)
    (pairs_table table.NumberExemplarAttrs exemplar_now (λ (x : Exemplar). x.pairs) c.deref-16.result.now (all_exemplars c.as_slice-groups.result.now)
    (ap (map exemplar_now) c.deref-16.ensures.value ∙ parts_seen (λ (point : Point). point.exemplars) (all_points c.as_slice-groups.result.now) c.deref-6.result.now c.in_ok-exemplars.exemplars.items
    (ap (map point_now) c.deref-6.ensures.value ∙ parts_seen (λ (metric : Metric). points_of metric.shape) (items_of c.as_slice-groups.result.now) c.deref-3.result.now c.in_ok-points.points.items
    (ap (map metric_now) c.deref-3.ensures.value ∙ metrics_seen c.as_slice-groups.result.now c.deref-2.result.now c.in_ok-metrics.metrics.items
    (ap (map seen_flat) c.deref-2.ensures.value ∙ c.in_ok-rows.ensures.items) c.in_ok-metrics.ensures) c.in_ok-points.ensures.parts) c.in_ok-exemplars.ensures.parts))
    (pairs_table table.HistExemplarAttrs exemplar_now (λ (x : Exemplar). x.pairs) c.deref-17.result.now (all_hist_exemplars c.as_slice-groups.result.now)
    (ap (map exemplar_now) c.deref-17.ensures.value ∙ parts_seen (λ (point : HistPoint). point.exemplars) (all_hist_points c.as_slice-groups.result.now) c.deref-7.result.now c.in_ok-hist_exemplars.hist_exemplars.items
    (ap (map hist_now) c.deref-7.ensures.value ∙ parts_seen (λ (metric : Metric). hist_points_of metric.shape) (items_of c.as_slice-groups.result.now) c.deref-5.result.now c.in_ok-hist_points.hist_points.items
    (ap (map metric_now) c.deref-5.ensures.value ∙ metrics_seen c.as_slice-groups.result.now c.deref-2.result.now c.in_ok-metrics.metrics.items
    (ap (map seen_flat) c.deref-2.ensures.value ∙ c.in_ok-rows.ensures.items) c.in_ok-metrics.ensures) c.in_ok-hist_points.ensures.parts) c.in_ok-hist_exemplars.ensures.parts))
    c.args.groups.now c.as_slice-groups.ensures

pub invariant_of-result : goal.invariant_of-result
invariant_of-result c =
    written_set c.as_slice-groups.result.now c.add_attributes-5.new.tables.items _ _ _ _ _ _ _ _ _ _ _
    (pushed c.in_ok-main.main _ _ _ _ _ _ _ _ _ _ _ _ _ _ _ _ _ _ _ _ _ _ _ _ _ c.add_attributes-5.new.tables.items c.new-tables.ensures.items c.in_ok-push.ensures.items (ap (λ (t : Table). t.kind) c.in_ok-main.ensures)
    c.in_ok-add_resources.ensures.ok c.in_ok-add_scopes.ensures.ok c.in_ok-add_parts.ensures.ok c.in_ok-add_parts-2.ensures.ok c.in_ok-add_parts-3.ensures.ok
    c.in_ok-add_attributes.ensures.ok c.in_ok-add_attributes-2.ensures.ok c.in_ok-add_attributes-3.ensures.ok
    c.in_ok-add_parts-4.ensures.ok c.in_ok-add_parts-5.ensures.ok c.in_ok-add_attributes-4.ensures.ok c.in_ok-add_attributes-5.ensures.ok)
    (main_is c.as_slice-groups.result.now c.deref.result.now c.in_ok-main.main (ap (map seen_flat) c.deref.ensures.value ∙ c.in_ok-rows.ensures.items) c.in_ok-main.ensures)
    (parts_table (λ (metric : Metric). points_of metric.shape) (items_of c.as_slice-groups.result.now) c.deref-3.result.now c.deref-8.result.now
    (ap (map metric_now) c.deref-3.ensures.value ∙ metrics_seen c.as_slice-groups.result.now c.deref-2.result.now c.in_ok-metrics.metrics.items
    (ap (map seen_flat) c.deref-2.ensures.value ∙ c.in_ok-rows.ensures.items) c.in_ok-metrics.ensures)
    (ap (map seen_placed) c.deref-8.ensures.value ∙ c.in_ok-points.ensures.parts) table.NumberPoints point_cells)
    (parts_table (λ (metric : Metric). summary_points_of metric.shape) (items_of c.as_slice-groups.result.now) c.deref-4.result.now c.deref-9.result.now
    (ap (map metric_now) c.deref-4.ensures.value ∙ metrics_seen c.as_slice-groups.result.now c.deref-2.result.now c.in_ok-metrics.metrics.items
    (ap (map seen_flat) c.deref-2.ensures.value ∙ c.in_ok-rows.ensures.items) c.in_ok-metrics.ensures)
    (ap (map seen_placed) c.deref-9.ensures.value ∙ c.in_ok-summary_points.ensures.parts) table.SummaryPoints sum_point_cells)
    (parts_table (λ (metric : Metric). hist_points_of metric.shape) (items_of c.as_slice-groups.result.now) c.deref-5.result.now c.deref-10.result.now
    (ap (map metric_now) c.deref-5.ensures.value ∙ metrics_seen c.as_slice-groups.result.now c.deref-2.result.now c.in_ok-metrics.metrics.items
    (ap (map seen_flat) c.deref-2.ensures.value ∙ c.in_ok-rows.ensures.items) c.in_ok-metrics.ensures)
    (ap (map seen_placed) c.deref-10.ensures.value ∙ c.in_ok-hist_points.ensures.parts) table.HistPoints hist_point_cells)
    (pairs_table table.NumberPointAttrs point_now (λ (x : Point). x.pairs) c.deref-11.result.now (all_points c.as_slice-groups.result.now)
    (ap (map point_now) c.deref-11.ensures.value ∙ parts_seen (λ (metric : Metric). points_of metric.shape) (items_of c.as_slice-groups.result.now) c.deref-3.result.now c.in_ok-points.points.items
    (ap (map metric_now) c.deref-3.ensures.value ∙ metrics_seen c.as_slice-groups.result.now c.deref-2.result.now c.in_ok-metrics.metrics.items
    (ap (map seen_flat) c.deref-2.ensures.value ∙ c.in_ok-rows.ensures.items) c.in_ok-metrics.ensures) c.in_ok-points.ensures.parts))
    (pairs_table table.SummaryPointAttrs summary_now (λ (x : SumPoint). x.pairs) c.deref-12.result.now (all_summary_points c.as_slice-groups.result.now)
    (ap (map summary_now) c.deref-12.ensures.value ∙ parts_seen (λ (metric : Metric). summary_points_of metric.shape) (items_of c.as_slice-groups.result.now) c.deref-4.result.now c.in_ok-summary_points.summary_points.items
    (ap (map metric_now) c.deref-4.ensures.value ∙ metrics_seen c.as_slice-groups.result.now c.deref-2.result.now c.in_ok-metrics.metrics.items
    (ap (map seen_flat) c.deref-2.ensures.value ∙ c.in_ok-rows.ensures.items) c.in_ok-metrics.ensures) c.in_ok-summary_points.ensures.parts))
    (pairs_table table.HistPointAttrs hist_now (λ (x : HistPoint). x.pairs) c.deref-13.result.now (all_hist_points c.as_slice-groups.result.now)
    (ap (map hist_now) c.deref-13.ensures.value ∙ parts_seen (λ (metric : Metric). hist_points_of metric.shape) (items_of c.as_slice-groups.result.now) c.deref-5.result.now c.in_ok-hist_points.hist_points.items
    (ap (map metric_now) c.deref-5.ensures.value ∙ metrics_seen c.as_slice-groups.result.now c.deref-2.result.now c.in_ok-metrics.metrics.items
    (ap (map seen_flat) c.deref-2.ensures.value ∙ c.in_ok-rows.ensures.items) c.in_ok-metrics.ensures) c.in_ok-hist_points.ensures.parts))
    (table_of_kind (λ (point : Point). point.exemplars) (all_points c.as_slice-groups.result.now) c.deref-6.result.now c.deref-14.result.now
    (ap (map point_now) c.deref-6.ensures.value ∙ parts_seen (λ (metric : Metric). points_of metric.shape) (items_of c.as_slice-groups.result.now) c.deref-3.result.now c.in_ok-points.points.items
    (ap (map metric_now) c.deref-3.ensures.value ∙ metrics_seen c.as_slice-groups.result.now c.deref-2.result.now c.in_ok-metrics.metrics.items
    (ap (map seen_flat) c.deref-2.ensures.value ∙ c.in_ok-rows.ensures.items) c.in_ok-metrics.ensures) c.in_ok-points.ensures.parts)
    (ap (map seen_placed) c.deref-14.ensures.value ∙ c.in_ok-exemplars.ensures.parts) table.NumberExemplars _ exemplar_cells c.of_points.ensures)
    (table_of_kind (λ (point : HistPoint). point.exemplars) (all_hist_points c.as_slice-groups.result.now) c.deref-7.result.now c.deref-15.result.now
    (ap (map hist_now) c.deref-7.ensures.value ∙ parts_seen (λ (metric : Metric). hist_points_of metric.shape) (items_of c.as_slice-groups.result.now) c.deref-5.result.now c.in_ok-hist_points.hist_points.items
    (ap (map metric_now) c.deref-5.ensures.value ∙ metrics_seen c.as_slice-groups.result.now c.deref-2.result.now c.in_ok-metrics.metrics.items
    (ap (map seen_flat) c.deref-2.ensures.value ∙ c.in_ok-rows.ensures.items) c.in_ok-metrics.ensures) c.in_ok-hist_points.ensures.parts)
    (ap (map seen_placed) c.deref-15.ensures.value ∙ c.in_ok-hist_exemplars.ensures.parts) table.HistExemplars _ exemplar_cells c.of_hist_points.ensures)
    (pairs_table table.NumberExemplarAttrs exemplar_now (λ (x : Exemplar). x.pairs) c.deref-16.result.now (all_exemplars c.as_slice-groups.result.now)
    (ap (map exemplar_now) c.deref-16.ensures.value ∙ parts_seen (λ (point : Point). point.exemplars) (all_points c.as_slice-groups.result.now) c.deref-6.result.now c.in_ok-exemplars.exemplars.items
    (ap (map point_now) c.deref-6.ensures.value ∙ parts_seen (λ (metric : Metric). points_of metric.shape) (items_of c.as_slice-groups.result.now) c.deref-3.result.now c.in_ok-points.points.items
    (ap (map metric_now) c.deref-3.ensures.value ∙ metrics_seen c.as_slice-groups.result.now c.deref-2.result.now c.in_ok-metrics.metrics.items
    (ap (map seen_flat) c.deref-2.ensures.value ∙ c.in_ok-rows.ensures.items) c.in_ok-metrics.ensures) c.in_ok-points.ensures.parts) c.in_ok-exemplars.ensures.parts))
    (pairs_table table.HistExemplarAttrs exemplar_now (λ (x : Exemplar). x.pairs) c.deref-17.result.now (all_hist_exemplars c.as_slice-groups.result.now)
    (ap (map exemplar_now) c.deref-17.ensures.value ∙ parts_seen (λ (point : HistPoint). point.exemplars) (all_hist_points c.as_slice-groups.result.now) c.deref-7.result.now c.in_ok-hist_exemplars.hist_exemplars.items
    (ap (map hist_now) c.deref-7.ensures.value ∙ parts_seen (λ (metric : Metric). hist_points_of metric.shape) (items_of c.as_slice-groups.result.now) c.deref-5.result.now c.in_ok-hist_points.hist_points.items
    (ap (map metric_now) c.deref-5.ensures.value ∙ metrics_seen c.as_slice-groups.result.now c.deref-2.result.now c.in_ok-metrics.metrics.items
    (ap (map seen_flat) c.deref-2.ensures.value ∙ c.in_ok-rows.ensures.items) c.in_ok-metrics.ensures) c.in_ok-hist_points.ensures.parts) c.in_ok-hist_exemplars.ensures.parts))
