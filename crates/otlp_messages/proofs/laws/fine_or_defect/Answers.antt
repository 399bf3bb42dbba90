use Rattle.otlp_messages.proofs.Deciding.{decided}
use Rattle.otlp_messages.proofs.laws.fine_or_defect.Goals as goal

pub returns : goal.returns
returns c = decided
