use Rattle.std.proofs.Common.{append_assoc}
use Rattle.otap_gateway.proofs.runs.selfrun.load_line.Goals as goal

pub returns : goal.returns
returns c = rw (c.in_ok-format.ensures.ok) (simp append_assoc)
