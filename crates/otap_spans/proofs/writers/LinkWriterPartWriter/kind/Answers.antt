use Rattle.otap_groups.proofs.FrontKinds.{links_front}
use Rattle.otap_spans.proofs.writers.LinkWriterPartWriter.kind.Goals as goal

pub returns-clause-part : goal.returns-clause-part
returns-clause-part c = links_front
