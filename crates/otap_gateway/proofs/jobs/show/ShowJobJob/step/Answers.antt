use Rattle.otap_gateway.specs.Commands.{ReplyOf}
use Rattle.otap_gateway.proofs.Extending.{extends_ok}
use Rattle.otap_gateway.proofs.Shows.{shows}
use Rattle.otap_gateway.proofs.jobs.show.ShowJobJob.step.Goals as goal

pub returns-clause-next : goal.returns-clause-next
unfolding ReplyOf
returns-clause-next c =
    extends_ok _ _ _ _ _ _ _ c.reply_to.ensures
    (λ reply replies frames before count stands. shows _ _ _ _ _ reply c.in_ok-returned.ensures.next c.in_ok-returned.ensures.signal replies frames before count stands)
