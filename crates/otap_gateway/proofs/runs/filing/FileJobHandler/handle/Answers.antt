use Rattle.otap_gateway.specs.Endings.{AnswerOf, BegunOf}
use Rattle.otap_gateway.proofs.FiledRuns.{handled, some_file}
use Rattle.otap_gateway.proofs.runs.filing.FileJobHandler.handle.Goals as goal

pub take_frame-requires : goal.take_frame-requires
take_frame-requires g c = some_file c.args.self.now.kind c.args.self.now.number _ _ c.args.number c.requires.history

pub returns-clause-handles : goal.returns-clause-handles
unfolding AnswerOf BegunOf
returns-clause-handles g c =
    handled c.args.self.now.kind c.args.self.now.number _ _ _ _ c.args.number _ c.in-Ok.reply c.take_frame.ensures.signal c.in-Ok.ensures.takes _ _ _ c.write_reply.ensures.writes
