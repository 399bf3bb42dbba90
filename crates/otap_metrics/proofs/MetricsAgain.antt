-- All tables of a request of metrics tell what the request tells, and their request weighs no more.
use Rattle.std.proofs.Common.{◌≤◌, List}
use Rattle.otlp_model.specs.Limits.{weight_limit}
use Rattle.otlp_model.specs.Profile.{IsProfile}
use Rattle.otlp_model.specs.Real.{IsReal}
use Rattle.otlp_model.specs.Same.{Same}
use Rattle.otlp_model.specs.Weight.{weight_of}
use Rattle.otlp_model.specs.declared.groups.ResourceGroup.{ResourceGroup}
use Rattle.otlp_model.specs.declared.metrics.Metric.{Metric}
use Rattle.otlp_model.specs.declared.request.Request.TheVariants.{Metrics}
use Rattle.otap_metrics.proofs.MetricsTold.{light_tables as light_metrics, same_again as same_metrics}
use Rattle.otap_metrics.specs.Requests.{regrouped_metrics}
use Rattle.otap_points.specs.Found.{hist_points_in, summary_points_in}
use Rattle.otap_metrics.specs.Tables.{tables_of_metrics}
use Rattle.otap_metrics.proofs.FoundHists.{hists_agree, hists_found, hists_light, hists_told, summaries_agree, summaries_found, summaries_light, summaries_told}
use Rattle.otap_metrics.proofs.NamedTables.{are_there}

module _ (groups : List (ResourceGroup Metric)) (real : IsReal (Metrics groups)) (is : IsProfile (Metrics groups)) (light : weight_of (Metrics groups) ≤ weight_limit) where
  pub same_again : Same (Metrics groups) (Metrics (regrouped_metrics (tables_of_metrics groups)))
  unfolding regrouped_metrics
  same_again =
      same_metrics groups (tables_of_metrics groups) (hists_found groups) (hist_points_in (tables_of_metrics groups)) (summaries_found groups) (summary_points_in (tables_of_metrics groups))
      real is light (are_there groups) (hists_agree groups real is) (summaries_agree groups real is)
      (hists_told groups light (tables_of_metrics groups) (are_there groups)) (summaries_told groups light (tables_of_metrics groups) (are_there groups))

  pub light_tables : weight_of (Metrics (regrouped_metrics (tables_of_metrics groups))) ≤ weight_of (Metrics groups)
  unfolding regrouped_metrics
  light_tables =
      light_metrics groups (tables_of_metrics groups) (hists_found groups) (hist_points_in (tables_of_metrics groups)) (summaries_found groups) (summary_points_in (tables_of_metrics groups))
      real is light (are_there groups) (hists_agree groups real is) (summaries_agree groups real is)
      (hists_light groups light (tables_of_metrics groups) (are_there groups)) (summaries_light groups light (tables_of_metrics groups) (are_there groups))
