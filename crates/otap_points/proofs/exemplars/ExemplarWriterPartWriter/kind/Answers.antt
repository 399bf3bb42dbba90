use Rattle.otap_points.proofs.exemplars.ExemplarWriterPartWriter.kind.Goals as goal

pub returns-clause-part : goal.returns-clause-part
returns-clause-part c = c.args.self.now.part
