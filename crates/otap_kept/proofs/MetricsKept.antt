-- The law for metrics, with their points and exemplars.
use Rattle.std.proofs.Common.{◌≡◌, ℕ, ◌≤◌, ◌^◌, true, List, get_or, Option, None, Some, length, refl, ◌∙◌, ap, arith}
use Rattle.std.specs.Prelude.{filter, Contains}
use Rattle.std.proofs.lemmas.List.{length-map}
use Rattle.otlp_model.specs.Same.{SameHistPoint, SameMetric, SamePoint, SameSumPoint}
use Rattle.otlp_model.specs.Telemetry.{metric, told_as}
use Rattle.otlp_model.specs.Weight.{weight_of_hist_point, weight_of_metric, weight_of_point, weight_of_sum_point}
use Rattle.otlp_model.specs.declared.request.Signal.TheVariants as signal
use Rattle.otlp_model.specs.declared.value.Pair.{Pair}
use Rattle.otap_cells.specs.declared.payload.Kind.TheVariants as table
use Rattle.otap_cells.specs.Cells.{Cell}
use Rattle.otap_cells.specs.Named.{table_named}
use Rattle.otap_cells.specs.Tables.{Table}
use Rattle.otap_groups.specs.Children.{numbered}
use Rattle.otap_groups.specs.Flat.{PlacedIn, part_rows}
use Rattle.otap_groups.specs.Rows.{ChildRow, MainRow}
use Rattle.otap_attrs.specs.Index.{pairs_in}
use Rattle.otap_checks.specs.Links.{items, links_of, parts}
use Rattle.otap_checks.specs.Reading.{main_rows_in, part_rows_in}
use Rattle.otap_checks.proofs.MainKinds.{metrics_are_main}
use Rattle.otap_points.specs.Found.{hist_points_in, points_in, summary_points_in}
use Rattle.otap_points.specs.Points.{hist_point_of, point_of, sum_point_of}
use Rattle.otap_points.proofs.PointColumns.{exemplars_are_parts, hist_exemplars_are_parts, hists_are_parts, points_are_parts, summaries_are_parts}
use Rattle.otap_metrics.specs.Metrics.{Below, metric_of}
use Rattle.otap_metrics.specs.Requests.{metric_in, regrouped_metrics}
use Rattle.otap_kept.specs.declared.whose.Whose.{Whose}
use Rattle.otap_kept.specs.declared.whose.Whose.TheVariants as whose
use Rattle.otap_kept.specs.Clean.{AreCleanAndLight}
use Rattle.otap_kept.specs.Filtered.{IsNoHeavier, MeansFilter, entry_has}
use Rattle.otap_kept.specs.Kept.{is_kept, is_ordered, kept, kept_of, kept_rows}
use Rattle.otap_kept.specs.Numbers.{first_ids}
use Rattle.otap_kept.specs.Rows.{former_ids, own_cells, own_ids, parts_under, resource_ids, scope_ids}
use Rattle.otap_kept.specs.Tables.{kept_attributes, kept_parts}
use Rattle.otap_kept.proofs.AcceptedTables.{rows_apart}
use Rattle.otap_kept.proofs.AnySignal.{AreKept, of_resources, of_scopes, tells_filter, weighs_no_more}
use Rattle.otap_kept.proofs.KeptRows.{kept_few, main_again}
use Rattle.otap_kept.proofs.KeptTables.{below_named}
use Rattle.otap_kept.proofs.Levels.{level_again, level_apart, level_few, pairs_alike, pairs_weigh, parts_alike, parts_weigh}
use Rattle.otap_kept.proofs.MetricsAlike.{hist_point_weighs, metric_weighs, point_weighs, same_hist_point, same_metric, same_point, same_sum_point, sum_point_weighs}
use Rattle.otap_kept.proofs.NewNumbers.{AreApart}
use Rattle.otap_kept.proofs.PairsBelow.{attributes_under, pairs_by_place, pairs_under, parts_before, parts_by_place}
use Rattle.otap_kept.proofs.PointsKept.{kept_exemplars, kept_points, points_alike, points_before, points_by_place, points_weigh}
use Rattle.otap_kept.proofs.RowsTold.{entry_of_row}

-- what is found below a metric in tables
abbrev below_in : List Table → Option ℕ → Below
below_in ts id = record { points = points_in ts id; hist_points = hist_points_in ts id; summary_points = summary_points_in ts id }

module _ (by : Whose) (pair : Pair) (tables : List Table) where
  abbrev rows : List MainRow
  rows = kept_rows signal.Metrics by pair tables

  abbrev all : List Table
  all = kept_of signal.Metrics rows tables

  abbrev own : List (Option ℕ)
  own = own_ids rows

  abbrev points : List (PlacedIn ChildRow)
  points = kept_points point_of tables own table.NumberPoints table.NumberExemplars table.NumberPointAttrs table.NumberExemplarAttrs

  abbrev exemplars : List (PlacedIn ChildRow)
  exemplars = kept_exemplars point_of tables own table.NumberPoints table.NumberExemplars table.NumberPointAttrs table.NumberExemplarAttrs

  abbrev hists : List (PlacedIn ChildRow)
  hists = kept_points hist_point_of tables own table.HistPoints table.HistExemplars table.HistPointAttrs table.HistExemplarAttrs

  abbrev hist_exemplars : List (PlacedIn ChildRow)
  hist_exemplars = kept_exemplars hist_point_of tables own table.HistPoints table.HistExemplars table.HistPointAttrs table.HistExemplarAttrs

  abbrev summaries : List (PlacedIn ChildRow)
  summaries = parts_under own (part_rows_in (table_named table.SummaryPoints tables))

  -- before attributes are sorted
  abbrev summary_pairs : Option ℕ → List Pair
  summary_pairs = pairs_under (former_ids summaries) (table_named table.SummaryPointAttrs tables)

  abbrev before : Option ℕ → Below
  before id = record {
    points = points_before point_of tables own table.NumberPoints table.NumberExemplars table.NumberPointAttrs table.NumberExemplarAttrs id;
    hist_points = points_before hist_point_of tables own table.HistPoints table.HistExemplars table.HistPointAttrs table.HistExemplarAttrs id;
    summary_points = parts_before sum_point_of own (part_rows_in (table_named table.SummaryPoints tables)) summary_pairs id;
  }

  -- ---- the tables that are kept

  resources_named : table_named table.ResourceAttrs all ≡ attributes_under table.ResourceAttrs (first_ids (resource_ids rows)) (table_named table.ResourceAttrs tables)
  unfolding links_of kept_attributes kept_parts
  resources_named = below_named signal.Metrics rows tables table.ResourceAttrs refl

  scopes_named : table_named table.ScopeAttrs all ≡ attributes_under table.ScopeAttrs (first_ids (scope_ids rows)) (table_named table.ScopeAttrs tables)
  unfolding links_of kept_attributes kept_parts
  scopes_named = below_named signal.Metrics rows tables table.ScopeAttrs refl

  pub points_named : table_named table.NumberPoints all ≡ kept_parts table.NumberPoints points
  unfolding links_of kept_attributes kept_parts
  points_named = below_named signal.Metrics rows tables table.NumberPoints refl

  pub summaries_named : table_named table.SummaryPoints all ≡ kept_parts table.SummaryPoints summaries
  unfolding links_of kept_attributes kept_parts
  summaries_named = below_named signal.Metrics rows tables table.SummaryPoints refl

  pub hists_named : table_named table.HistPoints all ≡ kept_parts table.HistPoints hists
  unfolding links_of kept_attributes kept_parts
  hists_named = below_named signal.Metrics rows tables table.HistPoints refl

  point_pairs_named : table_named table.NumberPointAttrs all ≡ attributes_under table.NumberPointAttrs (former_ids points) (table_named table.NumberPointAttrs tables)
  unfolding links_of kept_attributes kept_parts
  point_pairs_named = below_named signal.Metrics rows tables table.NumberPointAttrs refl

  summary_pairs_named : table_named table.SummaryPointAttrs all ≡ attributes_under table.SummaryPointAttrs (former_ids summaries) (table_named table.SummaryPointAttrs tables)
  unfolding links_of kept_attributes kept_parts
  summary_pairs_named = below_named signal.Metrics rows tables table.SummaryPointAttrs refl

  hist_pairs_named : table_named table.HistPointAttrs all ≡ attributes_under table.HistPointAttrs (former_ids hists) (table_named table.HistPointAttrs tables)
  unfolding links_of kept_attributes kept_parts
  hist_pairs_named = below_named signal.Metrics rows tables table.HistPointAttrs refl

  exemplars_named : table_named table.NumberExemplars all ≡ kept_parts table.NumberExemplars exemplars
  unfolding links_of kept_attributes kept_parts
  exemplars_named = below_named signal.Metrics rows tables table.NumberExemplars refl

  hist_exemplars_named : table_named table.HistExemplars all ≡ kept_parts table.HistExemplars hist_exemplars
  unfolding links_of kept_attributes kept_parts
  hist_exemplars_named = below_named signal.Metrics rows tables table.HistExemplars refl

  exemplar_pairs_named : table_named table.NumberExemplarAttrs all
      ≡ attributes_under table.NumberExemplarAttrs (former_ids exemplars) (table_named table.NumberExemplarAttrs tables)
  unfolding links_of kept_attributes kept_parts
  exemplar_pairs_named = below_named signal.Metrics rows tables table.NumberExemplarAttrs refl

  hist_exemplar_pairs_named : table_named table.HistExemplarAttrs all
      ≡ attributes_under table.HistExemplarAttrs (former_ids hist_exemplars) (table_named table.HistExemplarAttrs tables)
  unfolding links_of kept_attributes kept_parts
  hist_exemplar_pairs_named = below_named signal.Metrics rows tables table.HistExemplarAttrs refl

  -- ---- and that they are listed

  pub points_listed : Contains (links_of signal.Metrics) (parts table.NumberPoints table.Metrics 0)
  unfolding links_of
  points_listed = (3, omega arith, refl)

  pub summaries_listed : Contains (links_of signal.Metrics) (parts table.SummaryPoints table.Metrics 0)
  unfolding links_of
  summaries_listed = (4, omega arith, refl)

  pub hists_listed : Contains (links_of signal.Metrics) (parts table.HistPoints table.Metrics 0)
  unfolding links_of
  hists_listed = (5, omega arith, refl)

  exemplars_listed : Contains (links_of signal.Metrics) (parts table.NumberExemplars table.NumberPoints 0)
  unfolding links_of
  exemplars_listed = (9, omega arith, refl)

  hist_exemplars_listed : Contains (links_of signal.Metrics) (parts table.HistExemplars table.HistPoints 0)
  unfolding links_of
  hist_exemplars_listed = (10, omega arith, refl)

  -- ---- which rows are kept

  tests : (row : MainRow) → is_kept signal.Metrics by pair tables row ≡ entry_has by pair (told_as metric (entry_of_row (of_resources tables) (of_scopes tables) (metric_in tables) row))
  tests row = by_whose by row where
    by_whose : (by : Whose) (row : MainRow) → is_kept signal.Metrics by pair tables row ≡ entry_has by pair (told_as metric (entry_of_row (of_resources tables) (of_scopes tables) (metric_in tables) row))
    by_whose whose.Item row = refl
    by_whose whose.Resource row = refl

  are : rows ≡ filter (λ row. entry_has by pair (told_as metric (entry_of_row (of_resources tables) (of_scopes tables) (metric_in tables) row))) (main_rows_in (table_named table.Metrics tables))
  unfolding kept_rows
  are = λ i. filter (λ row. tests row i) (main_rows_in (table_named table.Metrics tables))

  rows_are : rows ≡ filter (is_kept signal.Metrics by pair tables) (main_rows_in (table_named table.Metrics tables))
  unfolding kept_rows
  rows_are = refl

  module _ (accepted : AreCleanAndLight signal.Metrics tables) (ordered : is_ordered signal.Metrics by pair tables ≡ true) where
    own_apart : AreApart own
    unfolding links_of kept_rows
    own_apart = rows_apart signal.Metrics tables accepted (items table.Metrics) (0, omega arith, refl) refl metrics_are_main.id (is_kept signal.Metrics by pair tables)

    few_own : length own ≤ 2 ^ 32
    few_own = omega (arith, length-map rows (λ (row : MainRow). row.id), kept_few signal.Metrics by pair tables accepted)

    summaries_apart : AreApart (former_ids summaries)
    summaries_apart = level_apart signal.Metrics tables accepted (parts table.SummaryPoints table.Metrics 0) summaries_listed refl summaries_are_parts own

    few_summaries : length (former_ids summaries) ≤ 2 ^ 32
    few_summaries = level_few signal.Metrics tables accepted (parts table.SummaryPoints table.Metrics 0) summaries_listed refl summaries_are_parts own

    by_place : (k : ℕ) → before (Some k) ≡ below_in tables (get_or own k None)
    by_place k = λ i. record {
      points = points_by_place point_of tables own table.NumberPoints table.NumberExemplars table.NumberPointAttrs table.NumberExemplarAttrs accepted points_listed
          exemplars_listed points_are_parts exemplars_are_parts own_apart k i;
      hist_points = points_by_place hist_point_of tables own table.HistPoints table.HistExemplars table.HistPointAttrs table.HistExemplarAttrs accepted hists_listed
          hist_exemplars_listed hists_are_parts hist_exemplars_are_parts own_apart k i;
      summary_points = parts_by_place sum_point_of own (part_rows_in (table_named table.SummaryPoints tables)) (pairs_in (table_named table.SummaryPointAttrs tables)) summary_pairs
          own_apart (pairs_by_place (former_ids summaries) (table_named table.SummaryPointAttrs tables) summaries_apart) k i;
    }

    kept_as : AreKept table.Metrics below_in before tables all rows
    kept_as = record {
      main_rows = main_again signal.Metrics by pair tables accepted ordered;
      resources = resources_named;
      scopes = scopes_named;
      few = omega (arith, kept_few signal.Metrics by pair tables accepted);
      by_place = by_place;
    }

    summaries_again : part_rows_in (table_named table.SummaryPoints all) ≡ part_rows numbered own_cells 0 summaries
    summaries_again =
        ap part_rows_in summaries_named
        ∙ level_again signal.Metrics tables accepted (parts table.SummaryPoints table.Metrics 0) summaries_listed refl summaries_are_parts own few_own

    same : (id : Option ℕ) (cells : List Cell) → SameMetric (metric_of cells (before id)) (metric_of cells (below_in all id))
    same id cells = same_metric cells (before id) (below_in all id) (record {
      points = points_alike point_of tables own table.NumberPoints table.NumberExemplars table.NumberPointAttrs table.NumberExemplarAttrs accepted points_listed
          exemplars_listed points_are_parts exemplars_are_parts all few_own refl refl points_named point_pairs_named exemplars_named exemplar_pairs_named SamePoint same_point id;
      hist_points = points_alike hist_point_of tables own table.HistPoints table.HistExemplars table.HistPointAttrs table.HistExemplarAttrs accepted hists_listed
          hist_exemplars_listed hists_are_parts hist_exemplars_are_parts all few_own refl refl hists_named hist_pairs_named hist_exemplars_named hist_exemplar_pairs_named
          SameHistPoint same_hist_point id;
      summary_points = parts_alike sum_point_of own (part_rows_in (table_named table.SummaryPoints tables)) (part_rows_in (table_named table.SummaryPoints all)) summary_pairs
          (pairs_in (table_named table.SummaryPointAttrs all)) summaries_again id SameSumPoint
          (λ id cells. same_sum_point cells _ _ (pairs_alike table.SummaryPointAttrs (former_ids summaries) tables all refl few_summaries summary_pairs_named id));
    })

    pub metrics_tell : MeansFilter signal.Metrics by pair tables
    unfolding kept regrouped_metrics
    metrics_tell = tells_filter table.Metrics metric_of below_in before tables all rows kept_as SameMetric metric (λ a b same. same) same (entry_has by pair) are

    weighs : (id : Option ℕ) (cells : List Cell) → weight_of_metric (metric_of cells (before id)) ≡ weight_of_metric (metric_of cells (below_in all id))
    weighs id cells = metric_weighs cells (before id) (below_in all id) (record {
      points = points_weigh point_of tables own table.NumberPoints table.NumberExemplars table.NumberPointAttrs table.NumberExemplarAttrs accepted points_listed
          exemplars_listed points_are_parts exemplars_are_parts all few_own refl refl points_named point_pairs_named exemplars_named exemplar_pairs_named weight_of_point point_weighs id;
      hist_points = points_weigh hist_point_of tables own table.HistPoints table.HistExemplars table.HistPointAttrs table.HistExemplarAttrs accepted hists_listed
          hist_exemplars_listed hists_are_parts hist_exemplars_are_parts all few_own refl refl hists_named hist_pairs_named hist_exemplars_named hist_exemplar_pairs_named
          weight_of_hist_point hist_point_weighs id;
      summary_points = parts_weigh sum_point_of own (part_rows_in (table_named table.SummaryPoints tables)) (part_rows_in (table_named table.SummaryPoints all)) summary_pairs
          (pairs_in (table_named table.SummaryPointAttrs all)) summaries_again id weight_of_sum_point
          (λ id cells. sum_point_weighs cells _ _ (pairs_weigh table.SummaryPointAttrs (former_ids summaries) tables all refl few_summaries summary_pairs_named id));
    })

    pub metrics_light : IsNoHeavier signal.Metrics by pair tables
    unfolding kept regrouped_metrics
    metrics_light = weighs_no_more table.Metrics metric_of below_in before tables all rows kept_as weight_of_metric weighs (is_kept signal.Metrics by pair tables) rows_are
