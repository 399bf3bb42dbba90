use Rattle.std.proofs.Common.{append_assoc}
use Rattle.otap_gateway.proofs.texts.lines.refusal_text.Goals as goal

pub returns : goal.returns
returns c = rw (c.in_ok-format.ensures.ok, c.in_ok-payload.ensures) (simp append_assoc)
