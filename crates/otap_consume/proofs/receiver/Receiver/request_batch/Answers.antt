use Rattle.std.proofs.Common.{◌∙◌, true, ap, sym, subst}
use Rattle.otap_consume.specs.Opening.{HasLateDefect}
use Rattle.otap_signals.specs.BySignal.{meaning_by}
use Rattle.otap_consume.specs.declared.taken.Given.{Given}
use Rattle.otap_consume.specs.ReceiverInside.{MakesUnweighed}
use Rattle.otap_consume.specs.Receivers.{Gives}
use Rattle.otap_consume.specs.Segments.{SegmentIn}
use Rattle.otap_consume.proofs.OpeningSteps.{received_made, received_refused}
use Rattle.otap_consume.proofs.receiver.Receiver.request_batch.Goals as goal

pub returns-in-Ok-clause-gives : goal.returns-in-Ok-clause-gives
returns-in-Ok-clause-gives c = λ old frame o.
    let payloads = c.args.batch.now.payloads in
    let kept = c.in-Ok.kept in
    let made : MakesUnweighed c.args.self.now.signal c.args.self.now.streams payloads kept =
    subst (λ (s : SegmentIn). MakesUnweighed s.signal s.streams payloads kept) c.self.view_is c.in-Ok.ensures.makes in
    subst (λ (g : Given). Gives (meaning_by old.signal) old frame c.args.self.now g) (sym c.given.ensures) (record {
      rows = made.rows;
      tree = kept.tree;
      receives = received_made old c.args.self.now frame c.args.batch.now o made.rows kept c.in-Ok.ensures.light made.makes;
    })

pub returns-in_ok-refuse_batch-in-Err-clause-gives : goal.returns-in_ok-refuse_batch-in-Err-clause-gives
returns-in_ok-refuse_batch-in-Err-clause-gives c = λ old frame o.
    let payloads = c.args.batch.now.payloads in
    record {
      rows = 0;
      tree = 0;
      receives = received_refused old c.args.self.now frame c.args.batch.now o c.refuse_batch.new.self c.in-Err.why c.in_ok-refuse_batch-in-Err.field-0
          (c.refuse_batch.ensures.broken ∙ ap (λ (s : SegmentIn). record s { broken = true }) c.self.view_is) (sym c.in_ok-refuse_batch-in-Err.ensures.refusal)
          (subst (λ (s : SegmentIn). HasLateDefect s.signal s.streams payloads c.in-Err.why) c.self.view_is c.in-Err.ensures.stops);
    }
