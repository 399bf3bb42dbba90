use Rattle.otap_capture.proofs.Known.{front_more, front_of_first}
use Rattle.otap_capture.proofs.writing.write_frame.Goals as goal

pub returns-in_err-write_whole-clause-front : goal.returns-in_err-write_whole-clause-front
returns-in_err-write_whole-clause-front g c = front_of_first _ _ _ c.args.part.now (rw c.write_u32.ensures at c.in_err-write_whole.ensures.front)

pub returns-clause-front : goal.returns-clause-front
returns-clause-front g c = front_more _ _ _ _ c.args.part.now (rw c.write_u32.ensures at c.in_ok-write_whole.ensures.whole) c.write_whole-2.ensures.front
