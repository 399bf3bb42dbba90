use Rattle.otap_points.proofs.PointColumns.{summaries_are_parts}
use Rattle.otap_points.proofs.summary_points.SumPointWriterPartWriter.kind.Goals as goal

pub returns-clause-part : goal.returns-clause-part
returns-clause-part c = summaries_are_parts
