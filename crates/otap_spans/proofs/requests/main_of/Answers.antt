use Rattle.std.proofs.Common.{◌∙◌, refl, sym, ap, subst, arith}
use Rattle.otlp_model.specs.declared.request.Signal.TheVariants as signal
use Rattle.otap_cells.specs.declared.payload.Kind.TheVariants as table
use Rattle.otap_groups.specs.Disagree.{Disagree}
use Rattle.otap_checks.specs.Known.{Knows}
use Rattle.otap_checks.specs.Links.{links_of}
use Rattle.otap_checks.specs.Reading.{main_rows_in}
use Rattle.otap_checks.specs.Rules.{rules_of}
use Rattle.otap_checks.proofs.KeptRules.{rows_agree}
use Rattle.otap_checks.proofs.MainKinds.{spans_are_main}
use Rattle.otap_checks.proofs.Regrouped.{request_is}
use Rattle.otap_checks.proofs.RulesFit.{known_at}
use Rattle.otap_spans.specs.Records.{span_of}
use Rattle.otap_spans.specs.Requests.{regrouped_spans, span_in}
use Rattle.otap_spans.proofs.requests.main_of.Goals as goal

pub front_of-front-requires-clause-main : goal.front_of-front-requires-clause-main
front_of-front-requires-clause-main g c = rw c.requires.kind spans_are_main

pub front_of-front-requires-clause-known : goal.front_of-front-requires-clause-known
unfolding links_of
front_of-front-requires-clause-known g c =
    rw c.requires.kind (subst (λ t. Knows t table.Spans c.args.known.now.ids) c.requires.table
    (known_at signal.Traces c.args.set.now c.args.known.now.ids c.requires.known 0 table.Spans (omega arith) refl))

pub find_pairs-requires-clause-known : goal.find_pairs-requires-clause-known
unfolding links_of
find_pairs-requires-clause-known g c = known_at signal.Traces c.args.set.now c.args.known.now.ids c.requires.known 1 table.ResourceAttrs (omega arith) refl

pub find_pairs-requires-2-clause-known : goal.find_pairs-requires-2-clause-known
unfolding links_of
find_pairs-requires-2-clause-known g c = known_at signal.Traces c.args.set.now c.args.known.now.ids c.requires.known 2 table.ScopeAttrs (omega arith) refl

pub find_pairs-requires-3-clause-known : goal.find_pairs-requires-3-clause-known
unfolding links_of
find_pairs-requires-3-clause-known g c = known_at signal.Traces c.args.set.now c.args.known.now.ids c.requires.known 3 table.SpanAttrs (omega arith) refl

pub invariant_of-result : goal.invariant_of-result
invariant_of-result g c = record {
  of_spans = c.requires.kind;
  pairs_weighed = λ pair. refl;
  events_weighed = c.requires.events_weighed;
  links_weighed = c.requires.links_weighed;
}

pub invariant_of-result-2-clause-agree : goal.invariant_of-result-2-clause-agree
unfolding links_of rules_of
invariant_of-result-2-clause-agree g c =
    let tables = c.args.set.now in
    let known = known_at signal.Traces tables c.args.known.now.ids c.requires.known 0 table.Spans (omega arith) refl in
    λ unlike. rows_agree signal.Traces tables c.args.known.now.ids table.Spans c.requires.clean (5, omega arith, refl) spans_are_main known
    (subst Disagree (c.front_of-front.ensures.rows ∙ ap main_rows_in (sym c.requires.table)) unlike)

pub returns : goal.returns
unfolding regrouped_spans
returns g c =
    request_is table.Spans span_in c.args.set.now _ _ _ _ (c.front_of-front.ensures.rows ∙ ap main_rows_in (sym c.requires.table))
    c.in_ok-resources.ensures c.in_ok-scopes.ensures (λ id cells. λ i. span_of cells (c.in_ok-pairs.ensures id i) (c.requires.events id i) (c.requires.links id i))
