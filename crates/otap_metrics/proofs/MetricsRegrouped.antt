-- The request that tables of metrics make.
use Rattle.std.proofs.Common.{◌≡◌, ℕ, List, [], Option, refl}
use Rattle.std.specs.Prelude.{All}
use Rattle.otap_cells.specs.declared.payload.Kind.TheVariants as table
use Rattle.otap_cells.specs.GivenIds.{ReadAs}
use Rattle.otap_cells.specs.Named.{table_named}
use Rattle.otap_cells.specs.Tables.{Table, profile_table}
use Rattle.otap_groups.specs.Children.{children}
use Rattle.otap_checks.specs.Reading.{HasAllIds}
use Rattle.otap_checks.proofs.MainKinds.{metrics_are_main}
use Rattle.otap_checks.proofs.NamedAlike.{pairs_alike, parts_alike}
use Rattle.otap_checks.proofs.Regrouped.{no_groups, request_alike}
use Rattle.otap_points.specs.Found.{exemplars_in, hist_points_in, points_in, summary_points_in}
use Rattle.otap_points.specs.Points.{exemplar_of, hist_point_of, point_of, sum_point_of}
use Rattle.otap_points.proofs.PointColumns.{exemplars_are_parts, hist_exemplars_are_parts, hists_are_parts, points_are_parts, summaries_are_parts}
use Rattle.otap_metrics.specs.Metrics.{metric_of}
use Rattle.otap_metrics.specs.Requests.{metric_in, regrouped_metrics}

-- no rows make no groups
pub no_metrics : (tables : List Table) → table_named table.Metrics tables ≡ profile_table table.Metrics [] → regrouped_metrics tables ≡ []
unfolding regrouped_metrics
no_metrics = no_groups table.Metrics metric_in

-- tables that read as others have their points, and make their request
module _ (tables others : List Table) (reads : ReadAs tables others) (given : All HasAllIds others) where
  exemplars_alike : (parent : Option ℕ) → exemplars_in (table_named table.NumberExemplars tables) (table_named table.NumberExemplarAttrs tables) parent
      ≡ exemplars_in (table_named table.NumberExemplars others) (table_named table.NumberExemplarAttrs others) parent
  exemplars_alike parent = λ i.
      children (λ id cells. exemplar_of cells (pairs_alike tables others reads given table.NumberExemplarAttrs refl id i)) (parts_alike tables others reads given table.NumberExemplars exemplars_are_parts i) parent

  points_alike : (parent : Option ℕ) → points_in tables parent ≡ points_in others parent
  points_alike parent = λ i.
      children (λ id cells. point_of cells (pairs_alike tables others reads given table.NumberPointAttrs refl id i) (exemplars_alike id i))
      (parts_alike tables others reads given table.NumberPoints points_are_parts i) parent

  hist_exemplars_alike : (parent : Option ℕ) → exemplars_in (table_named table.HistExemplars tables) (table_named table.HistExemplarAttrs tables) parent
      ≡ exemplars_in (table_named table.HistExemplars others) (table_named table.HistExemplarAttrs others) parent
  hist_exemplars_alike parent = λ i.
      children (λ id cells. exemplar_of cells (pairs_alike tables others reads given table.HistExemplarAttrs refl id i))
      (parts_alike tables others reads given table.HistExemplars hist_exemplars_are_parts i) parent

  hists_alike : (parent : Option ℕ) → hist_points_in tables parent ≡ hist_points_in others parent
  hists_alike parent = λ i.
      children (λ id cells. hist_point_of cells (pairs_alike tables others reads given table.HistPointAttrs refl id i) (hist_exemplars_alike id i))
      (parts_alike tables others reads given table.HistPoints hists_are_parts i) parent

  summaries_alike : (parent : Option ℕ) → summary_points_in tables parent ≡ summary_points_in others parent
  summaries_alike parent = λ i.
      children (λ id cells. sum_point_of cells (pairs_alike tables others reads given table.SummaryPointAttrs refl id i))
      (parts_alike tables others reads given table.SummaryPoints summaries_are_parts i) parent

  pub same_request : regrouped_metrics tables ≡ regrouped_metrics others
  unfolding regrouped_metrics
  same_request = request_alike table.Metrics metric_in tables others reads given metrics_are_main
      (λ id cells. λ i. metric_of cells (record { points = points_alike id i; hist_points = hists_alike id i; summary_points = summaries_alike id i }))
