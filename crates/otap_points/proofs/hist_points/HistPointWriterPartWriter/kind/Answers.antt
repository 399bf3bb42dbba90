use Rattle.otap_points.proofs.PointColumns.{hists_are_parts}
use Rattle.otap_points.proofs.hist_points.HistPointWriterPartWriter.kind.Goals as goal

pub returns-clause-part : goal.returns-clause-part
returns-clause-part c = hists_are_parts
