use Rattle.std.proofs.Common.{◌∙◌, ap, sym, subst, None, if◌then◌else◌}
use Rattle.otap_capture.specs.Capture.{Message}
use Rattle.otap_consume.specs.declared.refusal.Cause.{Cause}
use Rattle.otap_consume.specs.declared.refusal.Cause.TheVariants.{Broken}
use Rattle.otap_consume.specs.declared.refusal.Refusal.{Refusal}
use Rattle.otap_consume.specs.declared.seen.Seen.TheVariants as seen
use Rattle.otap_consume.specs.Outcomes.{refusal_of}
use Rattle.otap_consume.specs.Segments.{Next}
use Rattle.otap_consume.proofs.SegmentSteps.{next_unreadable}
use Rattle.otap_consume.proofs.segment.Segment.open_message.Goals as goal

pub returns-in-Err-clause-opens : goal.returns-in-Err-clause-opens
returns-in-Err-clause-opens c =
    let s = c.args.self.now in
    subst (λ (r : Refusal). Next s (Message c.args.bytes.now) c.refuse_unread.new.self (seen.Refused r))
    (sym (c.refuse_unread.ensures.returned ∙ ap (λ (cause : Cause). refusal_of None (if s.broken then Broken else cause) None) c.unread_cause.ensures))
    (next_unreadable c.args.bytes.now c.in-Err.refusal s c.refuse_unread.new.self c.in-Err.ensures.refused c.refuse_unread.ensures.broken)
