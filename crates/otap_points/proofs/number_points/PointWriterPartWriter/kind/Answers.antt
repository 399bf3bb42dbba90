use Rattle.otap_points.proofs.PointColumns.{points_are_parts}
use Rattle.otap_points.proofs.number_points.PointWriterPartWriter.kind.Goals as goal

pub returns-clause-part : goal.returns-clause-part
returns-clause-part c = points_are_parts
