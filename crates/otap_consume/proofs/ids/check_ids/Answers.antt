use Rattle.std.proofs.Common.{◌≡◌, ◌∙◌, ◌++◌, ◌∷◌, [], List, Some, map, sym, ap, subst, append_assoc, append-nil, false, refl, rules}
use Rattle.otap_capture.specs.Batch.{content_of}
use Rattle.otap_consume.specs.declared.refusal.Cause.TheVariants.{SchemaIdTaken}
use Rattle.otap_consume.specs.declared.not_taken.NotTaken.{NotTaken}
use Rattle.otap_consume.specs.declared.not_taken.NotTaken.TheVariants.{Defect}
use Rattle.otap_consume.specs.Defects.{IsDefectOfList, is_taken}
use Rattle.otap_consume.specs.Ids.{ids_after, has_other, with_open_id}
use Rattle.otap_consume.specs.Untaken.{SaysDefect}
use Rattle.lists.proofs.Lists.{front_more}
use Rattle.otap_consume.proofs.IdSteps.{ids_step, taken_is}
use Rattle.lists.proofs.Growing.{all_after-push}
use Rattle.lists.specs.Payloads.{PayloadIn}
use Rattle.otap_consume.proofs.ids.check_ids.Goals as goal

pub payloads-init : goal.payloads-init
payloads-init c = record {
  front = [];
  whole = refl;
  ids = λ signal past are. c.in_ok-ids.ensures ∙ are ∙ ap (ids_after signal) (sym (append-nil past));
  free = λ signal past are. tt;
}

pub payloads-preserved : goal.payloads-preserved
payloads-preserved c =
    let kept = c.payloads.invariant in
    let payload = content_of c.in-Some.payload in
    record {
      front = kept.front ++ payload ∷ [];
      whole = front_more _ kept.front c.payloads.payload-iterator payload c.next.new.self kept.whole c.in-Some.ensures.steps;
      ids = λ signal past are.
          c.set.ensures ∙ ap (λ ids. map (with_open_id payload) ids) (kept.ids signal past are) ∙ ids_step signal (past ++ kept.front) payload
          ∙ ap (ids_after signal) (append_assoc past kept.front (payload ∷ []));
      free = λ signal past are.
          all_after-push (λ before p. is_taken signal before p ≡ false) past kept.front payload (kept.free signal past are)
          (sym (taken_is signal (past ++ kept.front) payload) ∙ ap (has_other payload) (sym (kept.ids signal past are)) ∙ sym c.has_other.ensures ∙ c.if-has_other.false);
    }

pub returns-then-has_other-clause-stops : goal.returns-then-has_other-clause-stops
returns-then-has_other-clause-stops c = λ signal past are.
    let kept = c.payloads.invariant in
    let payload = content_of c.in-Some.payload in
    let is : c.defect.result ≡ Defect SchemaIdTaken (Some payload.kind) = search rules in
    let P : NotTaken → Type 0 = SaysDefect (IsDefectOfList signal past c.args.batch.now.payloads) in
    subst P (sym is)
    (record {
      p = payload;
      has = record {
        before = kept.front;
        after = c.next.new.self;
        is = sym (c.into_iter-payload-iterator.ensures.into_iter_gives ∙ c.payloads-payload-items.ensures) ∙ kept.whole
            ∙ ap (λ (ps : List PayloadIn). kept.front ++ ps) c.in-Some.ensures.steps;
      };
      taken = sym (taken_is signal (past ++ kept.front) payload) ∙ ap (has_other payload) (sym (kept.ids signal past are)) ∙ sym c.has_other.ensures ∙ c.if-has_other.true;
      of = refl;
    })
