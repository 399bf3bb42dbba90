-- Nothing is wrong with the rows of all tables of a request of metrics.
use Rattle.std.proofs.Common.{◌≡◌, ◌∙◌, ℕ, ◌*◌, ◌/◌, ◌≤◌, true, false, Bool, List, [], ◌∷◌, length, map, refl, sym, ap, subst, eq-eqb}
use Rattle.std.specs.Prelude.{◌==◌, All}
use Rattle.std.proofs.lemmas.Bool.{false≢true}
use Rattle.std.proofs.lemmas.List.{length-map}
use Rattle.std.proofs.lemmas.List.Elements.{All-get_or, All-map, All-nil, All-weaker}
use Rattle.lists.proofs.Every.{all_joined, all_of_both}
use Rattle.otlp_model.specs.Limits.{weight_limit}
use Rattle.otlp_model.specs.Profile.{IsProfile, IsProfileExemplar, IsProfileHistPoint, IsProfileMetric, IsProfileShape, IsProfileSumPoint}
use Rattle.otlp_model.specs.Real.{IsReal, IsRealExemplar, IsRealHistPoint, IsRealMetric, IsRealShape, IsRealSumPoint}
use Rattle.otlp_model.specs.Weight.{weight_of}
use Rattle.otlp_model.specs.declared.groups.ResourceGroup.{ResourceGroup}
use Rattle.otlp_model.specs.declared.histograms.HistPoint.{HistPoint}
use Rattle.otlp_model.specs.declared.histograms.Quantile.{Quantile}
use Rattle.otlp_model.specs.declared.histograms.SumPoint.{SumPoint}
use Rattle.otlp_model.specs.declared.metrics.Exemplar.{Exemplar}
use Rattle.otlp_model.specs.declared.metrics.Metric.{Metric}
use Rattle.otlp_model.specs.declared.metrics.Shape.{Shape}
use Rattle.otlp_model.specs.declared.metrics.Shape.TheVariants as shapes
use Rattle.otlp_model.specs.declared.request.Request.TheVariants.{Metrics}
use Rattle.otlp_model.specs.declared.request.Signal.TheVariants as signal
use Rattle.otap_cells.specs.declared.payload.Kind.{Kind}
use Rattle.otap_cells.specs.declared.payload.Kind.TheVariants as table
use Rattle.otap_cells.specs.Cells.{Cell, cell_at}
use Rattle.otap_cells.specs.Named.{table_named}
use Rattle.otap_cells.specs.Tables.{Table}
use Rattle.otap_cells.proofs.ScalarLaws.{text_back}
use Rattle.otap_groups.specs.Flat.{items_of, placed}
use Rattle.otap_groups.specs.Stored.{part_table}
use Rattle.otap_groups.proofs.RealGroups.{real_groups}
use Rattle.otap_groups.proofs.WritableGroups.{all_items_can}
use Rattle.otap_attrs.specs.declared.refusal.RowRefusal.{RowRefusal}
use Rattle.otap_checks.proofs.FinePairs.{IsFineList, pairs_fine, fine_table, IsFineResource, IsFineScope}
use Rattle.otap_checks.specs.ValueDefects.{HasFineValues}
use Rattle.otap_checks.specs.Measured.{HasTwoValues, HasUnevenLists, element_count}
use Rattle.otap_checks.specs.Rules.{rules_of}
use Rattle.otap_checks.specs.Shapes.{WrongParent, WrongType, has_hist_points, has_numbers, has_summary_points}
use Rattle.otap_checks.specs.declared.shapes.PointSort.TheVariants as sort
use Rattle.otap_checks.proofs.KeptRules.{keeps_agree, none_wrong}
use Rattle.otap_checks.proofs.RulesDecided.{even_alone, known_alone, one_alone, shape_alone}
use Rattle.otap_points.specs.Lists.{bytes_of, list_cell}
use Rattle.otap_points.specs.Points.{hist_point_cells, point_cells, quantile_cell, sum_point_cells, value_cell}
use Rattle.otap_points.proofs.ListBytes.{length_bytes}
use Rattle.otap_points.proofs.PointColumns.{hists_are_parts, points_are_parts, summaries_are_parts}
use Rattle.otap_metrics.specs.Metrics.{hist_points_of, points_of, shape_number, summary_points_of}
use Rattle.otap_metrics.specs.Requests.{WrongMetrics}
use Rattle.otap_metrics.specs.Tables.{all_hist_exemplars, all_hist_points, all_summary_points, exemplar_lists, hist_exemplar_lists, hist_exemplar_pairs, hist_pairs, point_lists, summary_lists, summary_pairs, tables_of_metrics}
use Rattle.otap_metrics.proofs.FewParts.{few_metrics}
use Rattle.otap_metrics.proofs.FineNumbers.{IsFineExemplar, exemplar_fine, fine_exemplars, fine_points, fine_resources, fine_scopes}
use Rattle.otap_metrics.proofs.FittingParents.{numbers_fit, parents_fine, types_fine}
use Rattle.otap_metrics.proofs.MetricLinks.{ids_fine, rows_agree}
use Rattle.otap_metrics.proofs.NamedTables.{HoldMetrics, are_there}
use Rattle.otap_metrics.proofs.OneValue.{all_rows, exemplar_values, point_values}

-- ---- lists of one length

one_count : (xs ys : List ℕ) → length xs ≡ length ys → element_count (list_cell xs) ≡ element_count (list_cell ys)
one_count xs ys same =
    ap (λ (bytes : List ℕ). length bytes / 8) (text_back (bytes_of xs))
    ∙ ap (λ n. n / 8) (length_bytes xs ∙ ap (λ n. 8 * n) same ∙ sym (length_bytes ys)) ∙ sym (ap (λ (bytes : List ℕ). length bytes / 8) (text_back (bytes_of ys)))

abbrev IsEven : List Cell → Type 0
IsEven row = (element_count (cell_at row 6) == element_count (cell_at row 7)) ≡ true

even_lists : (id parent : Cell) (point : SumPoint) → IsEven (id ∷ parent ∷ sum_point_cells point)
even_lists id parent point =
    eq-eqb (element_count (quantile_cell point.quantiles)) (element_count (value_cell point.quantiles))
    (one_count (map (λ (q : Quantile). q.quantile) point.quantiles) (map (λ (q : Quantile). q.value) point.quantiles)
    (length-map point.quantiles (λ (q : Quantile). q.quantile) ∙ sym (length-map point.quantiles (λ (q : Quantile). q.value))))

lists_even : (kind : Kind) (lists : List (List SumPoint)) → HasUnevenLists (part_table kind sum_point_cells lists) 6 7 → ⊥
unfolding part_table
lists_even kind lists uneven =
    false≢true (sym uneven.other
    ∙ All-get_or IsEven (part_table kind sum_point_cells lists).rows uneven.row [] uneven.there (all_rows sum_point_cells IsEven even_lists _ _ 0 0 _ (placed lists)))

-- ---- parents

hists_fit : (shape : Shape) → has_hist_points (shape_number shape) ≡ false → hist_points_of shape ≡ []
hists_fit shapes.Empty other = refl
hists_fit (shapes.Gauge points) other = refl
hists_fit (shapes.Sum points temporality monotonic) other = refl
hists_fit (shapes.Histogram points temporality) other = absurd (false≢true (sym other))
hists_fit (shapes.Summary points) other = refl

summaries_fit : (shape : Shape) → has_summary_points (shape_number shape) ≡ false → summary_points_of shape ≡ []
summaries_fit shapes.Empty other = refl
summaries_fit (shapes.Gauge points) other = refl
summaries_fit (shapes.Sum points temporality monotonic) other = refl
summaries_fit (shapes.Histogram points temporality) other = refl
summaries_fit (shapes.Summary points) other = absurd (false≢true (sym other))

-- ---- values

record IsFineHist (point : HistPoint) : Type 0 where
  pairs : IsFineList point.pairs
  exemplars : All IsFineExemplar point.exemplars

record IsFineSummary (point : SumPoint) : Type 0 where
  pairs : IsFineList point.pairs

record IsFineHistMetric (metric : Metric) : Type 0 where
  hists : All IsFineHist (hist_points_of metric.shape)
  summaries : All IsFineSummary (summary_points_of metric.shape)

hist_fine : (point : HistPoint) → IsRealHistPoint point → IsProfileHistPoint point → IsFineHist point
hist_fine point real is = record {
  pairs = pairs_fine point.pairs real.pairs is.pairs.at;
  exemplars = all_of_both IsRealExemplar IsProfileExemplar IsFineExemplar exemplar_fine point.exemplars real.exemplars.at is.exemplars.at;
}

summary_fine : (point : SumPoint) → IsRealSumPoint point → IsProfileSumPoint point → IsFineSummary point
summary_fine point real is = record { pairs = pairs_fine point.pairs real.pairs is.pairs.at }

hists_fine : (shape : Shape) → IsRealShape shape → IsProfileShape shape → All IsFineHist (hist_points_of shape)
hists_fine shapes.Empty real is = All-nil IsFineHist
hists_fine (shapes.Gauge points) real is = All-nil IsFineHist
hists_fine (shapes.Sum points temporality monotonic) real is = All-nil IsFineHist
hists_fine (shapes.Histogram points temporality) real is = all_of_both IsRealHistPoint IsProfileHistPoint IsFineHist hist_fine points real.0.at is.at
hists_fine (shapes.Summary points) real is = All-nil IsFineHist

summaries_fine : (shape : Shape) → IsRealShape shape → IsProfileShape shape → All IsFineSummary (summary_points_of shape)
summaries_fine shapes.Empty real is = All-nil IsFineSummary
summaries_fine (shapes.Gauge points) real is = All-nil IsFineSummary
summaries_fine (shapes.Sum points temporality monotonic) real is = All-nil IsFineSummary
summaries_fine (shapes.Histogram points temporality) real is = All-nil IsFineSummary
summaries_fine (shapes.Summary points) real is = all_of_both IsRealSumPoint IsProfileSumPoint IsFineSummary summary_fine points real.at is.at

metric_fine : (metric : Metric) → IsRealMetric metric → IsProfileMetric metric → IsFineHistMetric metric
metric_fine metric real is = record { hists = hists_fine metric.shape real.shape is.shape; summaries = summaries_fine metric.shape real.shape is.shape }

module _ (groups : List (ResourceGroup Metric)) (tables : List Table) (have : HoldMetrics groups tables) (real : IsReal (Metrics groups)) (is : IsProfile (Metrics groups)) where
  all : All IsFineHistMetric (items_of groups)
  all = all_items_can IsFineResource IsFineScope IsFineHistMetric groups
      (real_groups IsRealMetric IsProfileMetric IsFineHistMetric metric_fine IsFineList pairs_fine groups real.at is.at)

  all_hists : All IsFineHist (all_hist_points groups)
  all_hists = all_joined IsFineHist (λ (metric : Metric). hist_points_of metric.shape) (items_of groups)
      (All-weaker IsFineHistMetric (λ (metric : Metric). All IsFineHist (hist_points_of metric.shape)) (λ metric fine. fine.hists) (items_of groups) all)

  all_summaries : All IsFineSummary (all_summary_points groups)
  all_summaries = all_joined IsFineSummary (λ (metric : Metric). summary_points_of metric.shape) (items_of groups)
      (All-weaker IsFineHistMetric (λ (metric : Metric). All IsFineSummary (summary_points_of metric.shape)) (λ metric fine. fine.summaries) (items_of groups) all)

  all_exemplars : All IsFineExemplar (all_hist_exemplars groups)
  all_exemplars = all_joined IsFineExemplar (λ (point : HistPoint). point.exemplars) (all_hist_points groups)
      (All-weaker IsFineHist (λ (point : HistPoint). All IsFineExemplar point.exemplars) (λ point fine. fine.exemplars) (all_hist_points groups) all_hists)

  of_hists : HasFineValues tables table.HistPointAttrs
  of_hists = fine_table tables table.HistPointAttrs (hist_pairs groups) have.of_hist_points
      (All-map IsFineList (λ (point : HistPoint). point.pairs) (all_hist_points groups)
      (All-weaker IsFineHist (λ (point : HistPoint). IsFineList point.pairs) (λ point fine. fine.pairs) (all_hist_points groups) all_hists))

  of_summaries : HasFineValues tables table.SummaryPointAttrs
  of_summaries = fine_table tables table.SummaryPointAttrs (summary_pairs groups) have.of_summary_points
      (All-map IsFineList (λ (point : SumPoint). point.pairs) (all_summary_points groups)
      (All-weaker IsFineSummary (λ (point : SumPoint). IsFineList point.pairs) (λ point fine. fine.pairs) (all_summary_points groups) all_summaries))

  of_exemplars : HasFineValues tables table.HistExemplarAttrs
  of_exemplars = fine_table tables table.HistExemplarAttrs (hist_exemplar_pairs groups) have.of_hist_exemplars
      (All-map IsFineList (λ (exemplar : Exemplar). exemplar.pairs) (all_hist_exemplars groups)
      (All-weaker IsFineExemplar (λ (exemplar : Exemplar). IsFineList exemplar.pairs) (λ exemplar fine. fine.pairs) (all_hist_exemplars groups) all_exemplars))

-- ---- all of it

no_parent : (fits : ℕ → Bool) (t u main other : Table) → t ≡ u → main ≡ other → (WrongParent fits u other → ⊥) → WrongParent fits t main → ⊥
no_parent fits t u main other same are fine wrong = fine (subst (λ (m : Table). WrongParent fits u m) are (subst (λ (t : Table). WrongParent fits t main) same wrong))

pub no_defects : (groups : List (ResourceGroup Metric)) → IsReal (Metrics groups) → IsProfile (Metrics groups) → weight_of (Metrics groups) ≤ weight_limit
    → (kind : Kind) (wrong : RowRefusal) → WrongMetrics (tables_of_metrics groups) kind wrong → ⊥
unfolding rules_of
no_defects groups real is light =
    let tables : List Table = tables_of_metrics groups in
    let have : HoldMetrics groups tables = are_there groups in
    let types : WrongType (table_named table.Metrics tables) → ⊥ = λ wrong. types_fine groups (subst WrongType have.main wrong) in
    let numbers : WrongParent has_numbers (table_named table.NumberPoints tables) (table_named table.Metrics tables) → ⊥ = no_parent has_numbers _ _ _ _ have.points have.main
    (parents_fine has_numbers points_of numbers_fit groups table.NumberPoints point_cells points_are_parts (few_metrics groups light)) in
    let points : HasTwoValues (table_named table.NumberPoints tables) 4 → ⊥ =
    λ two. point_values table.NumberPoints (point_lists groups) (subst (λ (t : Table). HasTwoValues t 4) have.points two) in
    let exemplars : HasTwoValues (table_named table.NumberExemplars tables) 3 → ⊥ =
    λ two. exemplar_values table.NumberExemplars (exemplar_lists groups) (subst (λ (t : Table). HasTwoValues t 3) have.exemplars two) in
    let summaries : WrongParent has_summary_points (table_named table.SummaryPoints tables) (table_named table.Metrics tables) → ⊥ = no_parent has_summary_points _ _ _ _ have.summary_points have.main
    (parents_fine has_summary_points summary_points_of summaries_fit groups table.SummaryPoints sum_point_cells summaries_are_parts (few_metrics groups light)) in
    let lists : HasUnevenLists (table_named table.SummaryPoints tables) 6 7 → ⊥ =
    λ uneven. lists_even table.SummaryPoints (summary_lists groups) (subst (λ (t : Table). HasUnevenLists t 6 7) have.summary_points uneven) in
    let hists : WrongParent has_hist_points (table_named table.HistPoints tables) (table_named table.Metrics tables) → ⊥ = no_parent has_hist_points _ _ _ _ have.hist_points have.main
    (parents_fine has_hist_points hist_points_of hists_fit groups table.HistPoints hist_point_cells hists_are_parts (few_metrics groups light)) in
    let hist_exemplars : HasTwoValues (table_named table.HistExemplars tables) 3 → ⊥ =
    λ two. exemplar_values table.HistExemplars (hist_exemplar_lists groups) (subst (λ (t : Table). HasTwoValues t 3) have.hist_exemplars two) in
    none_wrong signal.Metrics tables (ids_fine groups light) (
      known_alone tables (table_named table.Metrics tables) types,
      (
        shape_alone tables (table_named table.NumberPoints tables) sort.Numbers numbers,
        (
          one_alone tables (table_named table.NumberPoints tables) 4 points,
          (
            one_alone tables (table_named table.NumberExemplars tables) 3 exemplars,
            (
              fine_resources groups tables have real is,
              (
                fine_scopes groups tables have real is,
                (
                  fine_points groups tables have real is,
                  (
                    fine_exemplars groups tables have real is,
                    (
                      shape_alone tables (table_named table.SummaryPoints tables) sort.Summaries summaries,
                      (
                        even_alone tables (table_named table.SummaryPoints tables) 6 7 lists,
                        (
                          shape_alone tables (table_named table.HistPoints tables) sort.Histograms hists,
                          (
                            one_alone tables (table_named table.HistExemplars tables) 3 hist_exemplars,
                            (
                              of_summaries groups tables have real is,
                              (
                                of_hists groups tables have real is,
                                (of_exemplars groups tables have real is, (keeps_agree tables table.Metrics (rows_agree groups light), tt)),
                              ),
                            ),
                          ),
                        ),
                      ),
                    ),
                  ),
                ),
              ),
            ),
          ),
        ),
      ),
    )
