use Rattle.std.proofs.Common.{◌∙◌, ◌++◌, List, true, ap, sym, subst}
use Rattle.lists.specs.Payloads.{PayloadIn}
use Rattle.otap_signals.specs.BySignal.{meaning_by}
use Rattle.otap_consume.specs.declared.taken.Taken.{Taken}
use Rattle.otap_consume.specs.Opening.{HasLateDefect}
use Rattle.otap_consume.specs.ReceiverInside.{MakesRequest}
use Rattle.otap_consume.specs.Receivers.{Receives}
use Rattle.otap_consume.specs.Segments.{SegmentIn}
use Rattle.otap_consume.specs.Streams.{AreAfter}
use Rattle.otap_consume.proofs.OpeningSteps.{received_made, received_refused}
use Rattle.otap_consume.proofs.receiver.Receiver.take_batch.Goals as goal

pub returns-in-Ok-clause-takes : goal.returns-in-Ok-clause-takes
returns-in-Ok-clause-takes c = λ old frame o.
    let payloads = c.args.batch.now.payloads in
    let made = c.in-Ok.made in
    subst (λ (returned : Taken). Receives (meaning_by old.signal) old frame c.args.self.now returned) (sym c.accepted.ensures)
    (received_made old c.args.self.now frame c.args.batch.now o made.rows made.kept c.in-Ok.ensures.light
    (subst (λ (s : SegmentIn). (past : List PayloadIn) → AreAfter (past ++ payloads) s.streams → MakesRequest s.signal past payloads made.rows made.kept)
    c.self.view_is c.in-Ok.ensures.makes))

pub returns-in_ok-refuse_batch-in-Err-clause-takes : goal.returns-in_ok-refuse_batch-in-Err-clause-takes
returns-in_ok-refuse_batch-in-Err-clause-takes c = λ old frame o.
    let payloads = c.args.batch.now.payloads in
    received_refused old c.args.self.now frame c.args.batch.now o c.refuse_batch.new.self c.in-Err.why c.in_ok-refuse_batch-in-Err.field-0
    (c.refuse_batch.ensures.broken ∙ ap (λ (s : SegmentIn). record s { broken = true }) c.self.view_is) (sym c.in_ok-refuse_batch-in-Err.ensures.refusal)
    (subst (λ (s : SegmentIn). HasLateDefect s.signal s.streams payloads c.in-Err.why) c.self.view_is c.in-Err.ensures.stops)
