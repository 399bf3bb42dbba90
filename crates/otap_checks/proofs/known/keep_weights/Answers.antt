use Rattle.std.proofs.Common.{subst}
use Rattle.std.specs.Prelude.{IfSome}
use Rattle.otap_attrs.specs.Facts.{HasWeights}
use Rattle.otap_checks.proofs.KnownSteps.{one_weighed_more}
use Rattle.otap_checks.proofs.known.keep_weights.Goals as goal

pub returns-in_ok-push : goal.returns-in_ok-push
returns-in_ok-push c = λ t same has tables named old.
    one_weighed_more t tables c.args.weights.now.items c.push.new.self.items _ same (subst (λ found. IfSome found (λ weights. HasWeights t weights.items)) c.in-Some.is has)
    named c.in_ok-push.ensures.items old
