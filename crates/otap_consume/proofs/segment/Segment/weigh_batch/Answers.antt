use Rattle.std.proofs.Common.{sym, subst}
use Rattle.otap_consume.specs.declared.seen.Seen.{Seen}
use Rattle.otap_consume.specs.Segments.{Next, TakesIf}
use Rattle.otap_consume.proofs.OpeningSteps.{next_over, next_weighed, shows_opened}
use Rattle.otap_consume.proofs.segment.Segment.weigh_batch.Goals as goal

pub returns-in-Ok-clause-next : goal.returns-in-Ok-clause-next
returns-in-Ok-clause-next c = λ old frame o.
    let s = c.args.self.now in
    let batch = c.args.batch.now in (
      subst (λ (returned : Seen). Next old frame s returned) (sym c.accepted.ensures)
          (next_weighed old s frame batch o c.in-Ok.rows c.in-Ok.ensures.weighs),
      subst (λ (returned : Seen). TakesIf frame s returned) (sym c.accepted.ensures) (shows_opened old s frame batch o),
    )

pub returns-in_ok-refuse_batch-in-Err-clause-next : goal.returns-in_ok-refuse_batch-in-Err-clause-next
returns-in_ok-refuse_batch-in-Err-clause-next c = λ old frame o.
    let refusal = c.in_ok-refuse_batch-in-Err in (
      next_over old c.args.self.now frame c.args.batch.now o c.refuse_batch.new.self c.in-Err.why refusal.field-0 c.refuse_batch.ensures.broken
          (sym refusal.ensures.refusal) c.in-Err.ensures.stops,
      tt,
    )
