use Rattle.std.proofs.lemmas.Result.{IfOk-weaker}
use Rattle.otap_gateway.specs.Endings.{ClosingOf}
use Rattle.otap_gateway.proofs.FiledRuns.{closes}
use Rattle.otap_gateway.proofs.runs.filing.FileJobEnder.add.Goals as goal

pub returns : goal.returns
unfolding ClosingOf
returns c =
    IfOk-weaker _ _ _ (λ added closing. closes c.args.self.now.kind c.args.self.now.number c.args.self.now.segment c.args.self.now.substream _ added c.take_file.ensures.file closing
    c.plain_payloads_are_read.ensures.stream) c.closing_of.ensures
