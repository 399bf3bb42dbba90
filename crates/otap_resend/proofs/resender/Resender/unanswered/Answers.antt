use Rattle.std.proofs.Common.{◌≡◌, length, ◌∙◌, arith}
use Rattle.otap_resend.proofs.resender.Resender.unanswered.Goals as goal

pub overflow_cast-result : goal.overflow_cast-result
overflow_cast-result c =
    let long : c.len.result ≡ length c.self.inside.unanswered.items = c.len.ensures ∙ c.self.inside.unanswered.ok.0 in
    let few = c.self.invariant.fits in
    let narrow = c.self.invariant.narrow in
    omega (arith, long, few, narrow)
