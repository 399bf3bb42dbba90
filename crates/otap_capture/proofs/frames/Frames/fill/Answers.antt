use Rattle.otap_capture.proofs.Waiting.{takes_less}
use Rattle.otap_capture.proofs.frames.Frames.fill.Goals as goal

pub pieces-smaller : goal.pieces-smaller
pieces-smaller g c = takes_less c.pieces.self c.read_more.new.self c.pieces-test.ensures c.in_ok-read_more.ensures.grows
