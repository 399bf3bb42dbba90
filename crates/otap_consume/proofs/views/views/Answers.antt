use Rattle.std.proofs.Common.{◌≡◌, ◌∙◌, ◌∷◌, ◌++◌, List, [], sym, ap, subst, append-nil}
use Rattle.std.specs.Prelude.{All}
use Rattle.std.proofs.lemmas.List.{map-append}
use Rattle.std.proofs.lemmas.List.Elements.{All-push}
use Rattle.otap_cells.specs.Sets.{tables_in}
use Rattle.otap_capture.specs.Batch.{content_of}
use Rattle.otap_cells.specs.declared.payload.Kind.{Kind}
use Rattle.otap_cells.specs.Tables.{Table}
use Rattle.otap_consume.specs.Views.{IsViewOf, AreViewsOf}
use Rattle.lists.proofs.Lists.{front_more}
use Rattle.lists.specs.Payloads.{PayloadIn}
use Rattle.otap_consume.proofs.Lists.{zip-push}
use Rattle.otap_consume.proofs.ViewSteps.{IsBeside, set_of, shown_at}
use Rattle.otap_consume.proofs.views.views.Goals as goal

pub view-requires : goal.view-requires
view-requires c =
    let kept = c.payloads.invariant in
    shown_at c.args.streams.now c.args.batch.now.payloads kept.front c.next.new.self (content_of c.in-Some.payload) c.requires
    (sym (c.into_iter-payload-iterator.ensures.into_iter_gives ∙ c.payloads-payload-items.ensures) ∙ kept.whole ∙ ap (λ (ps : List PayloadIn). kept.front ++ ps) c.in-Some.ensures.steps)

pub payloads-preserved : goal.payloads-preserved
payloads-preserved c =
    let kept = c.payloads.invariant in
    let streams = c.args.streams.now in
    let p = content_of c.in-Some.payload in
    record {
      front = kept.front ++ p ∷ [];
      whole = front_more c.into_iter-payload-iterator.result kept.front c.payloads.payload-iterator p c.next.new.self kept.whole c.in-Some.ensures.steps;
      views = subst (λ (vs : List (Kind × Table)). AreViewsOf streams (kept.front ++ p ∷ []) (tables_in (λ t. t) vs)) (sym c.in_ok-push.ensures.items)
          (subst (AreViewsOf streams (kept.front ++ p ∷ [])) (sym (map-append (λ (v : Kind × Table). v.1) c.payloads.tables.items (c.view.result ∷ [])))
          (zip-push (IsViewOf streams) kept.front (tables_in (λ t. t) c.payloads.tables.items) p c.view.result.1 kept.views c.view.ensures.view));
      beside = subst (All IsBeside) (sym c.in_ok-push.ensures.items) (All-push IsBeside c.payloads.tables.items c.view.result kept.beside c.view.ensures.beside);
    }

pub invariant_of-result : goal.invariant_of-result
invariant_of-result c =
    let kept = c.payloads.invariant in
    let streams = c.args.streams.now in
    let all : c.args.batch.now.payloads ≡ kept.front
    = sym (c.into_iter-payload-iterator.ensures.into_iter_gives ∙ c.payloads-payload-items.ensures) ∙ kept.whole
    ∙ ap (λ (ps : List PayloadIn). kept.front ++ ps) c.in-None.ensures.steps.0 ∙ append-nil kept.front in
    set_of c.requires.signal streams c.args.batch.now.payloads c.payloads.tables.items c.requires.types
    (subst (λ (ps : List PayloadIn). AreViewsOf streams ps (tables_in (λ t. t) c.payloads.tables.items)) (sym all) kept.views) kept.beside
