use Rattle.otap_gateway.specs.Commands.{ReplyOf}
use Rattle.otap_gateway.proofs.Extending.{extends_ok}
use Rattle.otap_gateway.proofs.jobs.schema.SchemaJobJob.step.Goals as goal

pub returns-clause-next : goal.returns-clause-next
unfolding ReplyOf
returns-clause-next c = extends_ok _ _ _ _ _ _ _ c.schema_frame.ensures (λ reply prints frames replies count stands. (rw count prints, tt))
