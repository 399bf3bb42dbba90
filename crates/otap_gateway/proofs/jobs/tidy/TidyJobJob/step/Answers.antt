use Rattle.otap_gateway.specs.Commands.{ReplyOf}
use Rattle.otap_gateway.proofs.Extending.{extends_ok}
use Rattle.otap_gateway.proofs.jobs.tidy.TidyJobJob.step.Goals as goal

pub returns-clause-next : goal.returns-clause-next
unfolding ReplyOf
returns-clause-next c = extends_ok _ _ _ _ _ _ _ c.tidy_frame.ensures (λ reply tidies frames replies count stands. (rw count tidies, tt))
