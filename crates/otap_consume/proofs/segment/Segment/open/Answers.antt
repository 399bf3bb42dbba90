use Rattle.std.proofs.Common.{subst, sym}
use Rattle.otap_capture.specs.Capture.{Packed}
use Rattle.otap_consume.specs.declared.refusal.Refusal.{Refusal}
use Rattle.otap_consume.specs.declared.seen.Seen.TheVariants as seen
use Rattle.otap_consume.specs.Segments.{Next}
use Rattle.otap_consume.proofs.SegmentSteps.{next_packed, next_reset}
use Rattle.otap_consume.proofs.segment.Segment.open.Goals as goal

pub returns-in-Packed-clause-opens : goal.returns-in-Packed-clause-opens
returns-in-Packed-clause-opens c =
    rw c.in-Packed.is (subst (λ (r : Refusal). Next c.args.self.now Packed c.refuse_unread.new.self (seen.Refused r)) (sym c.refuse_unread.ensures.returned)
    (next_packed c.args.self.now c.refuse_unread.new.self c.refuse_unread.ensures.broken))

pub returns-in-Reset-clause-opens : goal.returns-in-Reset-clause-opens
returns-in-Reset-clause-opens c = rw c.in-Reset.is (next_reset c.args.self.now c.reset.new.self c.reset.ensures)
