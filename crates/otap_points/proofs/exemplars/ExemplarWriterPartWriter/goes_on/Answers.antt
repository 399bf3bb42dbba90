use Rattle.std.proofs.Common.{sym}
use Rattle.otap_points.specs.Points.{exemplar_cells}
use Rattle.otap_points.proofs.exemplars.ExemplarWriterPartWriter.goes_on.Goals as goal

pub returns : goal.returns
returns c = sym (c.args.self.now.apart (exemplar_cells c.args._before.now) (exemplar_cells c.args._exemplar.now))
