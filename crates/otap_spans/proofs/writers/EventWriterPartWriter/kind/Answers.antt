use Rattle.otap_groups.proofs.FrontKinds.{events_front}
use Rattle.otap_spans.proofs.writers.EventWriterPartWriter.kind.Goals as goal

pub returns-clause-part : goal.returns-clause-part
returns-clause-part c = events_front
