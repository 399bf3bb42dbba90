use Rattle.otap_columns.proofs.Simulated.{far_end}
use Rattle.otap_columns.proofs.writer.laws.far_end_reads.Goals as goal

pub returns : goal.returns
returns c = far_end
