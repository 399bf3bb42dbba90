use Rattle.std.proofs.Common.{ap, ◌∙◌}
use Rattle.otap_signals.specs.BySignal.{rows_by}
use Rattle.otap_gateway.specs.Endings.{ClosingOf}
use Rattle.otap_gateway.specs.Reply.{adds_after}
use Rattle.otap_gateway.proofs.ResendReplies.{closes}
use Rattle.otap_gateway.proofs.runs.resending.ResendJobEnder.add.Goals as goal

pub returns : goal.returns
unfolding ClosingOf
returns c = λ frames replies stood.
    closes (rows_by c.args.self.now.signal) c.args.self.now.window c.args.self.now.resender c.args.self.now.counts _ (c.after.ensures ∙ ap adds_after c.in_ok-line.ensures) frames replies stood
