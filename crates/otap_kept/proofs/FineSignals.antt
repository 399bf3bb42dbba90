-- Nothing is wrong with the rows of what is kept, signal by signal.
use Rattle.std.proofs.Common.{◌≡◌, ◌≤◌, ◌^◌, true, List, length, subst, arith}
use Rattle.std.specs.Prelude.{Contains}
use Rattle.std.specs.List.{AllByRecursion}
use Rattle.std.proofs.lemmas.List.{length-map}
use Rattle.otlp_model.specs.declared.request.Signal.{Signal}
use Rattle.otlp_model.specs.declared.request.Signal.TheVariants as signal
use Rattle.otlp_model.specs.declared.value.Pair.{Pair}
use Rattle.otap_cells.specs.declared.payload.Kind.{Kind}
use Rattle.otap_cells.specs.declared.payload.Kind.TheVariants as table
use Rattle.otap_cells.specs.GivenIds.{HasIds, ids_in}
use Rattle.otap_cells.specs.Named.{table_named}
use Rattle.otap_cells.specs.Tables.{Table}
use Rattle.otap_groups.specs.Kinds.{IsPart}
use Rattle.otap_groups.specs.Rows.{MainRow}
use Rattle.otap_groups.proofs.RunningIds.{running}
use Rattle.otap_attrs.specs.declared.refusal.RowRefusal.{RowRefusal}
use Rattle.otap_attrs.proofs.TablePairs.{ids_long}
use Rattle.otap_checks.specs.declared.signals.Asks.TheVariants as asks
use Rattle.otap_checks.specs.declared.shapes.PointSort.{PointSort}
use Rattle.otap_checks.specs.declared.shapes.PointSort.TheVariants as sort
use Rattle.otap_checks.specs.Links.{links_of, parts}
use Rattle.otap_checks.specs.Reading.{part_rows_in}
use Rattle.otap_checks.specs.RowDefects.{RowDefect}
use Rattle.otap_checks.specs.Rules.{rule, rules_of}
use Rattle.otap_checks.specs.Shapes.{WrongParent, fits_of}
use Rattle.otap_points.proofs.PointColumns.{hists_are_parts, points_are_parts, summaries_are_parts}
use Rattle.otap_kept.specs.declared.whose.Whose.{Whose}
use Rattle.otap_kept.specs.Clean.{AreCleanAndLight}
use Rattle.otap_kept.specs.Kept.{is_kept, is_ordered, kept, kept_of, kept_rows, links_below}
use Rattle.otap_kept.specs.Numbers.{first_ids}
use Rattle.otap_kept.specs.Rows.{own_ids, parts_under, renewed, resource_ids, scope_ids}
use Rattle.otap_kept.specs.Tables.{kept_main, kept_parts}
use Rattle.otap_kept.proofs.AcceptedTables.{given_ids}
use Rattle.otap_kept.proofs.FineCells.{shape_from}
use Rattle.otap_kept.proofs.FineIds.{main_run}
use Rattle.otap_kept.proofs.FineLinks.{IsKeptBelow, all_kept}
use Rattle.otap_kept.proofs.FineRules.{Stays, agree_stays, come_below, come_main, kept_size, lists_kept, main_given, no_defect, shape_kept, two_kept, type_kept, values_kept}
use Rattle.otap_kept.proofs.KeptRows.{is_main, kept_few, main_has_ids, shaped}
use Rattle.otap_kept.proofs.KeptTables.{main_named}
use Rattle.otap_kept.proofs.MainTables.{under_low}
use Rattle.otap_kept.proofs.MetricsKept.{hists_listed, hists_named, points_listed, points_named, summaries_listed, summaries_named}
use Rattle.otap_kept.proofs.PartTables.{kept_part_parents, parts_low, parts_rising}

module _ (by : Whose) (pair : Pair) (tables : List Table) (accepted : AreCleanAndLight signal.Logs tables) (ordered : is_ordered signal.Logs by pair tables ≡ true) where
  abbrev of_logs : List Table
  of_logs = kept_of signal.Logs (kept_rows signal.Logs by pair tables) tables

  logs_below : AllByRecursion (IsKeptBelow signal.Logs tables (kept_rows signal.Logs by pair tables) accepted) (links_below (links_of signal.Logs))
  logs_below = all_kept signal.Logs tables (kept_rows signal.Logs by pair tables) accepted

  pub logs_stay : AllByRecursion (Stays signal.Logs by pair tables accepted ordered) (rules_of signal.Logs)
  unfolding rules_of links_of
  logs_stay =
      let logs_pairs = come_below signal.Logs by pair tables accepted ordered in (
        values_kept of_logs tables table.Logs 9 (come_main signal.Logs by pair tables accepted ordered) 15 (omega arith),
        (
          values_kept of_logs tables table.ResourceAttrs 1 (logs_pairs table.ResourceAttrs logs_below.0) 2 (omega arith),
          (
            values_kept of_logs tables table.ScopeAttrs 1 (logs_pairs table.ScopeAttrs logs_below.1.0) 2 (omega arith),
            (
              values_kept of_logs tables table.LogAttrs 1 (logs_pairs table.LogAttrs logs_below.1.1.0) 2 (omega arith),
              (agree_stays signal.Logs by pair tables accepted ordered, tt),
            ),
          ),
        ),
      )

module _ (by : Whose) (pair : Pair) (tables : List Table) (accepted : AreCleanAndLight signal.Traces tables) (ordered : is_ordered signal.Traces by pair tables ≡ true) where
  abbrev of_spans : List Table
  of_spans = kept_of signal.Traces (kept_rows signal.Traces by pair tables) tables

  spans_below : AllByRecursion (IsKeptBelow signal.Traces tables (kept_rows signal.Traces by pair tables) accepted) (links_below (links_of signal.Traces))
  spans_below = all_kept signal.Traces tables (kept_rows signal.Traces by pair tables) accepted

  pub spans_stay : AllByRecursion (Stays signal.Traces by pair tables accepted ordered) (rules_of signal.Traces)
  unfolding rules_of links_of
  spans_stay =
      let come = come_below signal.Traces by pair tables accepted ordered in (
        values_kept of_spans tables table.ResourceAttrs 1 (come table.ResourceAttrs spans_below.0) 2 (omega arith),
        (
          values_kept of_spans tables table.ScopeAttrs 1 (come table.ScopeAttrs spans_below.1.0) 2 (omega arith),
          (
            values_kept of_spans tables table.SpanAttrs 1 (come table.SpanAttrs spans_below.1.1.0) 2 (omega arith),
            (
              values_kept of_spans tables table.EventAttrs 1 (come table.EventAttrs spans_below.1.1.1.1.1.0) 2 (omega arith),
              (
                values_kept of_spans tables table.LinkAttrs 1 (come table.LinkAttrs spans_below.1.1.1.1.1.1.0) 2 (omega arith),
                (agree_stays signal.Traces by pair tables accepted ordered, tt),
              ),
            ),
          ),
        ),
      )

module _ (by : Whose) (pair : Pair) (tables : List Table) (accepted : AreCleanAndLight signal.Metrics tables) (ordered : is_ordered signal.Metrics by pair tables ≡ true) where
  abbrev rows : List MainRow
  rows = kept_rows signal.Metrics by pair tables

  abbrev of_metrics : List Table
  of_metrics = kept_of signal.Metrics rows tables

  metrics_below : AllByRecursion (IsKeptBelow signal.Metrics tables rows accepted) (links_below (links_of signal.Metrics))
  metrics_below = all_kept signal.Metrics tables rows accepted

  few_own : length (own_ids rows) ≤ 2 ^ 32
  few_own = omega (arith, length-map rows (λ (row : MainRow). row.id), kept_few signal.Metrics by pair tables accepted)

  own_run : HasIds (kept_main table.Metrics (renewed rows)) 0 (running 0 rows)
  unfolding renewed
  own_run =
      subst (HasIds (kept_main table.Metrics (renewed rows)) 0) (main_run (first_ids (resource_ids rows)) (first_ids (scope_ids rows)) 0 rows)
      (main_has_ids signal.Metrics by pair tables accepted ordered).own

  -- points name metrics of their shape
  shape_stays : (kind : Kind) (of : PointSort) → Contains (links_of signal.Metrics) (parts kind table.Metrics 0) → IsPart kind
      → table_named kind of_metrics ≡ kept_parts kind (parts_under (own_ids rows) (part_rows_in (table_named kind tables)))
      → Stays signal.Metrics by pair tables accepted ordered (rule kind (asks.OfShape of))
  unfolding kept_rows
  shape_stays kind of listed part named =
      let t : Table = table_named kind tables in
      let given : HasIds t 1 (ids_in t 1) = given_ids signal.Metrics tables accepted (parts kind table.Metrics 0) listed 1 part.parent in
      shape_kept of_metrics tables kind of (λ w.
      shape_from (fits_of of) kind table.Metrics t (table_named table.Metrics tables) (is_kept signal.Metrics by pair tables) (ids_long t 1 (ids_in t 1) given) given
      (main_given signal.Metrics by pair tables accepted ordered 0 (is_main signal.Metrics).id) (shaped signal.Metrics by pair tables)
      (kept_part_parents kind (parts_under (own_ids rows) (part_rows_in t)) part (parts_rising (own_ids rows) (part_rows_in t))
      (parts_low (own_ids rows) (part_rows_in t) (under_low (own_ids rows) few_own (part_rows_in t))))
      own_run (kept_size table.Metrics rows)
      (subst (λ (u : Table). WrongParent (fits_of of) u (kept_main table.Metrics (renewed rows))) named
      (subst (λ (m : Table). WrongParent (fits_of of) (table_named kind of_metrics) m) (main_named signal.Metrics rows tables) w)))

  pub metrics_stay : AllByRecursion (Stays signal.Metrics by pair tables accepted ordered) (rules_of signal.Metrics)
  unfolding rules_of links_of
  metrics_stay =
      let come = come_below signal.Metrics by pair tables accepted ordered in
      let points = metrics_below.1.1 in
      let pairs = points.1.1.1 in
      let exemplars = pairs.1.1.1 in (
        type_kept of_metrics tables table.Metrics 9 (come_main signal.Metrics by pair tables accepted ordered) (omega arith),
        (
          shape_stays table.NumberPoints sort.Numbers (points_listed by pair tables) points_are_parts (points_named by pair tables),
          (
            two_kept of_metrics tables table.NumberPoints 2 (come table.NumberPoints points.0) 4 (omega arith),
            (
              two_kept of_metrics tables table.NumberExemplars 2 (come table.NumberExemplars exemplars.0) 3 (omega arith),
              (
                values_kept of_metrics tables table.ResourceAttrs 1 (come table.ResourceAttrs metrics_below.0) 2 (omega arith),
                (
                  values_kept of_metrics tables table.ScopeAttrs 1 (come table.ScopeAttrs metrics_below.1.0) 2 (omega arith),
                  (
                    values_kept of_metrics tables table.NumberPointAttrs 1 (come table.NumberPointAttrs pairs.0) 2 (omega arith),
                    (
                      values_kept of_metrics tables table.NumberExemplarAttrs 1 (come table.NumberExemplarAttrs exemplars.1.1.0) 2 (omega arith),
                      (
                        shape_stays table.SummaryPoints sort.Summaries (summaries_listed by pair tables) summaries_are_parts (summaries_named by pair tables),
                        (
                          lists_kept of_metrics tables table.SummaryPoints 2 (come table.SummaryPoints points.1.0) 6 7 (omega arith) (omega arith),
                          (
                            shape_stays table.HistPoints sort.Histograms (hists_listed by pair tables) hists_are_parts (hists_named by pair tables),
                            (
                              two_kept of_metrics tables table.HistExemplars 2 (come table.HistExemplars exemplars.1.0) 3 (omega arith),
                              (
                                values_kept of_metrics tables table.SummaryPointAttrs 1 (come table.SummaryPointAttrs pairs.1.0) 2 (omega arith),
                                (
                                  values_kept of_metrics tables table.HistPointAttrs 1 (come table.HistPointAttrs pairs.1.1.0) 2 (omega arith),
                                  (
                                    values_kept of_metrics tables table.HistExemplarAttrs 1 (come table.HistExemplarAttrs exemplars.1.1.1.0) 2 (omega arith),
                                    (agree_stays signal.Metrics by pair tables accepted ordered, tt),
                                  ),
                                ),
                              ),
                            ),
                          ),
                        ),
                      ),
                    ),
                  ),
                ),
              ),
            ),
          ),
        ),
      )

-- NOTHING IS WRONG with the rows of what is kept
pub none_wrong : (of : Signal) (by : Whose) (pair : Pair) (tables : List Table) → AreCleanAndLight of tables → is_ordered of by pair tables ≡ true
    → (kind : Kind) (wrong : RowRefusal) → RowDefect of (kept of by pair tables) kind wrong → ⊥
unfolding kept
none_wrong signal.Logs by pair tables accepted ordered = no_defect signal.Logs by pair tables accepted ordered (logs_stay by pair tables accepted ordered)
none_wrong signal.Traces by pair tables accepted ordered = no_defect signal.Traces by pair tables accepted ordered (spans_stay by pair tables accepted ordered)
none_wrong signal.Metrics by pair tables accepted ordered = no_defect signal.Metrics by pair tables accepted ordered (metrics_stay by pair tables accepted ordered)
