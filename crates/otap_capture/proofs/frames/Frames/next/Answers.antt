use Rattle.otap_capture.proofs.Stepping.{goes_on}
use Rattle.otap_capture.proofs.frames.Frames.next.Goals as goal

pub returns-clause-step : goal.returns-clause-step
returns-clause-step g c =
    goes_on c.args.self.now c.fill.new.self c.cut.new.self _ _ (rw (← c.self.view_is) c.in_ok-fill.ensures.fills) c.in_ok-fill.ensures.decided c.cut.result c.cut.ensures.cuts
