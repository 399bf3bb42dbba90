-- The tables of a request of metrics are tables of the profile.
use Rattle.std.proofs.Common.{◌≤◌, List, drop, refl, sym, subst}
use Rattle.std.specs.Prelude.{All}
use Rattle.std.specs.List.{AllByRecursion}
use Rattle.std.proofs.lemmas.List.Elements.{All-map, All-nil, All-weaker, All-from_recursion, recursion_from_All}
use Rattle.lists.proofs.Every.{all_joined, all_of_both}
use Rattle.otlp_model.specs.Limits.{weight_limit}
use Rattle.otlp_model.specs.Profile.{IsProfile, IsProfileExemplar, IsProfileHistPoint, IsProfileMetric, IsProfileShape, IsProfileSumPoint}
use Rattle.otlp_model.specs.Real.{IsReal, IsRealExemplar, IsRealHistPoint, IsRealMetric, IsRealShape, IsRealSumPoint}
use Rattle.otlp_model.specs.Weight.{weight_of}
use Rattle.otlp_model.specs.declared.groups.ResourceGroup.{ResourceGroup}
use Rattle.otlp_model.specs.declared.histograms.HistPoint.{HistPoint}
use Rattle.otlp_model.specs.declared.histograms.SumPoint.{SumPoint}
use Rattle.otlp_model.specs.declared.metrics.Exemplar.{Exemplar}
use Rattle.otlp_model.specs.declared.metrics.Metric.{Metric}
use Rattle.otlp_model.specs.declared.metrics.Shape.{Shape}
use Rattle.otlp_model.specs.declared.metrics.Shape.TheVariants as shapes
use Rattle.otlp_model.specs.declared.request.Request.TheVariants.{Metrics}
use Rattle.otap_cells.specs.declared.payload.Kind.TheVariants as table
use Rattle.otap_cells.specs.Columns.{exemplars as exemplar_columns, hist_points as hist_columns, summary_points as summary_columns}
use Rattle.otap_cells.specs.Tables.{IsRow}
use Rattle.otap_groups.specs.Flat.{items_of}
use Rattle.otap_groups.specs.ProfileTables.{IsProfileTable}
use Rattle.otap_groups.specs.Stored.{part_table}
use Rattle.otap_groups.proofs.PartTables.{part_written}
use Rattle.otap_groups.proofs.RealGroups.{real_groups}
use Rattle.otap_groups.proofs.WritableGroups.{all_items_can}
use Rattle.otap_checks.proofs.FinePairs.{IsFineList, pairs_fine, IsFineResource, IsFineScope}
use Rattle.otap_checks.proofs.WrittenPairs.{AreReal, attributes_written}
use Rattle.otap_metrics.specs.Metrics.{hist_points_of, metric_cells, summary_points_of}
use Rattle.otap_points.specs.Points.{exemplar_cells, hist_point_cells, point_cells, sum_point_cells}
use Rattle.otap_points.proofs.PointFits.{exemplar_row, hist_own, hist_row, summary_own, summary_row}
use Rattle.otap_points.proofs.PointColumns.{hist_exemplar_ids as exemplar_ids, hist_exemplars_are_parts as exemplars_are_parts, hist_ids, hists_are_parts, summaries_are_parts, summary_ids}
use Rattle.otap_metrics.specs.Tables.{hist_lists, summary_lists, all_hist_exemplars, all_hist_points, all_summary_points, hist_exemplar_lists, hist_exemplar_pairs, hist_pairs, summary_pairs, tables_of_metrics, below_metrics, exemplar_lists, point_lists}
use Rattle.otap_metrics.proofs.NumbersWritten.{IsFitExemplar, exemplar_fit, main_is_written, numbers_are_written}
use Rattle.otap_metrics.proofs.FoundHists.{few_all_exemplars, few_all_hists, few_all_summaries, few_exemplar_lists, few_exemplar_pairs, few_hist_lists, few_hist_pairs, few_summary_lists, few_summary_pairs}
use Rattle.otap_checks.specs.Written.{Written, table_of}
use Rattle.otap_checks.proofs.AllWritten.{profile}
use Rattle.otap_checks.proofs.SeenParts.{table_seen}

-- ---- what fits

record IsFitHist (point : HistPoint) : Type 0 where
  own : IsRow (drop 2 hist_columns) (hist_point_cells point)
  pairs : AreReal point.pairs
  exemplars : All IsFitExemplar point.exemplars

record IsFitSummary (point : SumPoint) : Type 0 where
  own : IsRow (drop 2 summary_columns) (sum_point_cells point)
  pairs : AreReal point.pairs

record IsFitHistMetric (metric : Metric) : Type 0 where
  hists : All IsFitHist (hist_points_of metric.shape)
  summaries : All IsFitSummary (summary_points_of metric.shape)

hist_fit : (point : HistPoint) → IsRealHistPoint point → IsProfileHistPoint point → IsFitHist point
hist_fit point real is = record {
  own = hist_own point real;
  pairs = real.pairs;
  exemplars = all_of_both IsRealExemplar IsProfileExemplar IsFitExemplar exemplar_fit point.exemplars real.exemplars.at is.exemplars.at;
}

summary_fit : (point : SumPoint) → IsRealSumPoint point → IsProfileSumPoint point → IsFitSummary point
summary_fit point real is = record { own = summary_own point real; pairs = real.pairs }

hists_fit : (shape : Shape) → IsRealShape shape → IsProfileShape shape → All IsFitHist (hist_points_of shape)
hists_fit shapes.Empty real is = All-nil IsFitHist
hists_fit (shapes.Gauge points) real is = All-nil IsFitHist
hists_fit (shapes.Sum points temporality monotonic) real is = All-nil IsFitHist
hists_fit (shapes.Histogram points temporality) real is = all_of_both IsRealHistPoint IsProfileHistPoint IsFitHist hist_fit points real.0.at is.at
hists_fit (shapes.Summary points) real is = All-nil IsFitHist

summaries_fit : (shape : Shape) → IsRealShape shape → IsProfileShape shape → All IsFitSummary (summary_points_of shape)
summaries_fit shapes.Empty real is = All-nil IsFitSummary
summaries_fit (shapes.Gauge points) real is = All-nil IsFitSummary
summaries_fit (shapes.Sum points temporality monotonic) real is = All-nil IsFitSummary
summaries_fit (shapes.Histogram points temporality) real is = All-nil IsFitSummary
summaries_fit (shapes.Summary points) real is = all_of_both IsRealSumPoint IsProfileSumPoint IsFitSummary summary_fit points real.at is.at

metric_fit : (metric : Metric) → IsRealMetric metric → IsProfileMetric metric → IsFitHistMetric metric
metric_fit metric real is = record { hists = hists_fit metric.shape real.shape is.shape; summaries = summaries_fit metric.shape real.shape is.shape }

-- ---- all of a request

module _ (groups : List (ResourceGroup Metric)) (real : IsReal (Metrics groups)) (is : IsProfile (Metrics groups)) (light : weight_of (Metrics groups) ≤ weight_limit) where
  fit_metrics : All IsFitHistMetric (items_of groups)
  fit_metrics = all_items_can IsFineResource IsFineScope IsFitHistMetric groups
      (real_groups IsRealMetric IsProfileMetric IsFitHistMetric metric_fit IsFineList pairs_fine groups real.at is.at)

  fit_hists : All IsFitHist (all_hist_points groups)
  fit_hists = all_joined IsFitHist (λ (metric : Metric). hist_points_of metric.shape) (items_of groups)
      (All-weaker IsFitHistMetric (λ (metric : Metric). All IsFitHist (hist_points_of metric.shape)) (λ metric fit. fit.hists) (items_of groups) fit_metrics)

  fit_summaries : All IsFitSummary (all_summary_points groups)
  fit_summaries = all_joined IsFitSummary (λ (metric : Metric). summary_points_of metric.shape) (items_of groups)
      (All-weaker IsFitHistMetric (λ (metric : Metric). All IsFitSummary (summary_points_of metric.shape)) (λ metric fit. fit.summaries) (items_of groups) fit_metrics)

  fit_exemplars : All IsFitExemplar (all_hist_exemplars groups)
  fit_exemplars = all_joined IsFitExemplar (λ (point : HistPoint). point.exemplars) (all_hist_points groups)
      (All-weaker IsFitHist (λ (point : HistPoint). All IsFitExemplar point.exemplars) (λ point fit. fit.exemplars) (all_hist_points groups) fit_hists)

  real_hists : All AreReal (hist_pairs groups)
  real_hists = All-map AreReal (λ (point : HistPoint). point.pairs) (all_hist_points groups)
      (All-weaker IsFitHist (λ (point : HistPoint). AreReal point.pairs) (λ point fit. fit.pairs) (all_hist_points groups) fit_hists)

  real_summaries : All AreReal (summary_pairs groups)
  real_summaries = All-map AreReal (λ (point : SumPoint). point.pairs) (all_summary_points groups)
      (All-weaker IsFitSummary (λ (point : SumPoint). AreReal point.pairs) (λ point fit. fit.pairs) (all_summary_points groups) fit_summaries)

  real_exemplars : All AreReal (hist_exemplar_pairs groups)
  real_exemplars = All-map AreReal (λ (exemplar : Exemplar). exemplar.pairs) (all_hist_exemplars groups)
      (All-weaker IsFitExemplar (λ (exemplar : Exemplar). AreReal exemplar.pairs) (λ exemplar fit. fit.pairs) (all_hist_exemplars groups) fit_exemplars)

  hists_written : IsProfileTable (part_table table.HistPoints hist_point_cells (hist_lists groups))
  hists_written =
      part_written table.HistPoints hist_point_cells (drop 2 hist_columns) (hist_lists groups) hists_are_parts hist_row hist_ids (few_hist_lists groups light) (few_all_hists groups light)
      (recursion_from_All (λ (point : HistPoint). IsRow (drop 2 hist_columns) (hist_point_cells point)) (all_hist_points groups)
      (All-weaker IsFitHist (λ (point : HistPoint). IsRow (drop 2 hist_columns) (hist_point_cells point)) (λ point fit. fit.own) (all_hist_points groups) fit_hists))

  summaries_written : IsProfileTable (part_table table.SummaryPoints sum_point_cells (summary_lists groups))
  summaries_written =
      part_written table.SummaryPoints sum_point_cells (drop 2 summary_columns) (summary_lists groups) summaries_are_parts summary_row summary_ids
      (few_summary_lists groups light) (few_all_summaries groups light)
      (recursion_from_All (λ (point : SumPoint). IsRow (drop 2 summary_columns) (sum_point_cells point)) (all_summary_points groups)
      (All-weaker IsFitSummary (λ (point : SumPoint). IsRow (drop 2 summary_columns) (sum_point_cells point)) (λ point fit. fit.own) (all_summary_points groups) fit_summaries))

  exemplars_written : IsProfileTable (part_table table.HistExemplars exemplar_cells (hist_exemplar_lists groups))
  exemplars_written =
      part_written table.HistExemplars exemplar_cells (drop 2 exemplar_columns) (hist_exemplar_lists groups) exemplars_are_parts exemplar_row exemplar_ids
      (few_exemplar_lists groups light) (few_all_exemplars groups light)
      (recursion_from_All (λ (exemplar : Exemplar). IsRow (drop 2 exemplar_columns) (exemplar_cells exemplar)) (all_hist_exemplars groups)
      (All-weaker IsFitExemplar (λ (exemplar : Exemplar). IsRow (drop 2 exemplar_columns) (exemplar_cells exemplar)) (λ exemplar fit. fit.own) (all_hist_exemplars groups) fit_exemplars))

  below_written : AllByRecursion (λ (w : Written). IsProfileTable (table_of w)) (below_metrics groups)
  below_written =
      let (resources, (scopes, (points, (of_points, (exemplars, (of_exemplars, none)))))) = numbers_are_written groups real is light in (
        resources,
        (
          scopes,
          (
            subst IsProfileTable (sym (table_seen point_cells table.NumberPoints (point_lists groups))) points,
            (
              subst IsProfileTable (sym (table_seen sum_point_cells table.SummaryPoints (summary_lists groups))) summaries_written,
              (
                subst IsProfileTable (sym (table_seen hist_point_cells table.HistPoints (hist_lists groups))) hists_written,
                (
                  of_points,
                  (
                    attributes_written table.SummaryPointAttrs (summary_pairs groups) refl (few_summary_pairs groups light) real_summaries,
                    (
                      attributes_written table.HistPointAttrs (hist_pairs groups) refl (few_hist_pairs groups light) real_hists,
                      (
                        subst IsProfileTable (sym (table_seen exemplar_cells table.NumberExemplars (exemplar_lists groups))) exemplars,
                        (
                          subst IsProfileTable (sym (table_seen exemplar_cells table.HistExemplars (hist_exemplar_lists groups))) exemplars_written,
                          (
                            of_exemplars,
                            (
                              attributes_written table.HistExemplarAttrs (hist_exemplar_pairs groups) refl (few_exemplar_pairs groups light) real_exemplars,
                              tt,
                            ),
                          ),
                        ),
                      ),
                    ),
                  ),
                ),
              ),
            ),
          ),
        ),
      )

  pub tables_written : All IsProfileTable (tables_of_metrics groups)
  unfolding tables_of_metrics
  tables_written = profile table.Metrics metric_cells (below_metrics groups) groups (main_is_written groups real is light)
      (All-from_recursion (λ (w : Written). IsProfileTable (table_of w)) (below_metrics groups) below_written)
