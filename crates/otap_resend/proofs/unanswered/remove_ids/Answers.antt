use Rattle.std.proofs.Common.{◌∙◌, arith}
use Rattle.otap_resend.proofs.Removing.{none_reset, one_reset, all_reset}
use Rattle.otap_resend.proofs.unanswered.remove_ids.Goals as goal

pub requests-init : goal.requests-init
requests-init c = none_reset c.args.requests.now

pub requests-preserved : goal.requests-preserved
requests-preserved c = one_reset c.args.requests.now c.requests.requests c.requests.request-index c.request-item.result c.requests-test.true c.requests.invariant

pub returns : goal.returns
returns c =
    c.requests.invariant ∙ all_reset c.args.requests.now c.requests.request-index (omega (arith, c.requests-test.false, c.requests.auto.request-index-end))
