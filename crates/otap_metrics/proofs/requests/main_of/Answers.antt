use Rattle.std.proofs.Common.{◌∙◌, refl, sym, ap, subst, arith}
use Rattle.otlp_model.specs.declared.request.Signal.TheVariants as signal
use Rattle.otap_cells.specs.declared.payload.Kind.TheVariants as table
use Rattle.otap_groups.specs.Disagree.{Disagree}
use Rattle.otap_checks.specs.Known.{Knows}
use Rattle.otap_checks.specs.Links.{links_of}
use Rattle.otap_checks.specs.Reading.{main_rows_in}
use Rattle.otap_checks.specs.Rules.{rules_of}
use Rattle.otap_checks.proofs.KeptRules.{rows_agree}
use Rattle.otap_checks.proofs.MainKinds.{metrics_are_main}
use Rattle.otap_checks.proofs.Regrouped.{request_is}
use Rattle.otap_checks.proofs.RulesFit.{known_at}
use Rattle.otap_metrics.specs.Metrics.{metric_of}
use Rattle.otap_metrics.specs.Requests.{metric_in, regrouped_metrics}
use Rattle.otap_metrics.proofs.requests.main_of.Goals as goal

pub front_of-front-requires-clause-main : goal.front_of-front-requires-clause-main
front_of-front-requires-clause-main g c = rw c.requires.kind metrics_are_main

pub front_of-front-requires-clause-known : goal.front_of-front-requires-clause-known
unfolding links_of
front_of-front-requires-clause-known g c =
    rw c.requires.kind (subst (λ t. Knows t table.Metrics c.args.known.now.ids) c.requires.table
    (known_at signal.Metrics c.args.set.now c.args.known.now.ids c.requires.known 0 table.Metrics (omega arith) refl))

pub find_pairs-requires-clause-known : goal.find_pairs-requires-clause-known
unfolding links_of
find_pairs-requires-clause-known g c = known_at signal.Metrics c.args.set.now c.args.known.now.ids c.requires.known 1 table.ResourceAttrs (omega arith) refl

pub find_pairs-requires-2-clause-known : goal.find_pairs-requires-2-clause-known
unfolding links_of
find_pairs-requires-2-clause-known g c = known_at signal.Metrics c.args.set.now c.args.known.now.ids c.requires.known 2 table.ScopeAttrs (omega arith) refl

pub invariant_of-result : goal.invariant_of-result
invariant_of-result g c = record {
  of_metrics = c.requires.kind;
  points_weighed = c.requires.points_weighed;
  hist_points_weighed = c.requires.hist_points_weighed;
  summary_points_weighed = c.requires.summary_points_weighed;
}

pub invariant_of-result-2-clause-agree : goal.invariant_of-result-2-clause-agree
unfolding links_of rules_of
invariant_of-result-2-clause-agree g c =
    let tables = c.args.set.now in
    let known = known_at signal.Metrics tables c.args.known.now.ids c.requires.known 0 table.Metrics (omega arith) refl in
    λ unlike. rows_agree signal.Metrics tables c.args.known.now.ids table.Metrics c.requires.clean (15, omega arith, refl) metrics_are_main known
    (subst Disagree (c.front_of-front.ensures.rows ∙ ap main_rows_in (sym c.requires.table)) unlike)

pub returns : goal.returns
unfolding regrouped_metrics
returns g c =
    request_is table.Metrics metric_in c.args.set.now _ _ _ _ (c.front_of-front.ensures.rows ∙ ap main_rows_in (sym c.requires.table))
    c.in_ok-resources.ensures c.in_ok-scopes.ensures (λ id cells. λ i. metric_of cells (record {
      points = c.requires.points id i;
      hist_points = c.requires.hist_points id i;
      summary_points = c.requires.summary_points id i;
    }))
