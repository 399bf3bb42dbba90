use Rattle.std.proofs.Common.{refl, sym, ap, subst}
use Rattle.std.specs.Prelude.{string_bytes}
use Rattle.otap_capture.specs.Capture.{frame_of}
use Rattle.otap_signals.specs.BySignal.{meaning_by}
use Rattle.otap_kept.specs.Texts.{text_under}
use Rattle.otap_consume.specs.declared.opened.Opened.{Opened}
use Rattle.otap_consume.specs.Opening.{NextOutcome, Opens}
use Rattle.otap_consume.specs.Outcomes as outcomes
use Rattle.otap_consume.specs.Segments.{SegmentIn}
use Rattle.otap_filter.specs.Filtering.{Refused, Reset}
use Rattle.otap_filter.specs.Filters.{FilterIn, Filters}
use Rattle.otap_filter.proofs.Steps.{frame_refused, frame_reset}
use Rattle.otap_filter.proofs.filter.Filter.take.Goals as goal

pub returns-in-Refused-clause-next : goal.returns-in-Refused-clause-next
returns-in-Refused-clause-next c =
    let frame = frame_of c.args.frame.now in
    let opens = subst (λ (o : Opened). Opens c.self.inside.segment frame c.open.new.self o) c.in-Refused.is c.in_ok-batch.ensures.opens in
    let next = c.checked_frames_have_outcomes.ensures.refused c.self.inside.segment c.open.new.self frame c.in-Refused.refusal opens in
    let old : FilterIn = record {
      whose = c.self.inside.whose;
      pair = text_under (string_bytes c.self.inside.key) (string_bytes c.self.inside.text);
      segment = c.self.inside.segment;
      sent = c.self.inside.senders;
      batches = c.self.inside.batches;
    } in
    let new : FilterIn = record old { segment = c.open.new.self } in
    subst (λ (f : FilterIn). Filters f frame new (Refused c.in-Refused.refusal)) c.self.view_is (frame_refused old new frame c.in-Refused.refusal next refl refl refl)

pub returns-in-Reset-clause-next : goal.returns-in-Reset-clause-next
returns-in-Reset-clause-next c =
    let frame = frame_of c.args.frame.now in
    let old = c.self.inside.segment in
    let same = c.begin_anew.ensures.same in
    let opens = subst (λ (o : Opened). Opens old frame c.open.new.self o) c.in-Reset.is c.in_ok-batch.ensures.opens in
    let next : NextOutcome (meaning_by old.signal) old frame outcomes.Reset c.begin_anew.new.self.segment =
    subst (λ (s : SegmentIn). NextOutcome (meaning_by old.signal) old frame outcomes.Reset s) (sym (ap (λ (f : FilterIn). f.segment) same))
    (c.checked_frames_have_outcomes.ensures.reset old c.open.new.self frame opens) in
    subst (λ (f : FilterIn). Filters f frame c.begin_anew.new.self Reset) c.self.view_is
    (frame_reset _ c.begin_anew.new.self frame next (ap (λ (f : FilterIn). f.whose) same) (ap (λ (f : FilterIn). f.pair) same) c.begin_anew.ensures.batches c.begin_anew.ensures.sent)
