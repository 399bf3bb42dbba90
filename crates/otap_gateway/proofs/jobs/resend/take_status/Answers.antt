use Rattle.std.proofs.Common.{rules, w64}
use Rattle.std.proofs.lemmas.Int.{to_z-of_z}
use Rattle.otap_resend.specs.Resenders.{outcome_of}
use Rattle.otap_gateway.specs.ResendingSteps.{rows_in}
use Rattle.otap_gateway.proofs.ResentFrames.{answer_says, line_says, status_more}
use Rattle.otap_gateway.proofs.jobs.resend.take_status.Goals as goal

pub returns : goal.returns
returns c =
    let outcome = outcome_of c.answer-answer.result in
    let id = c.args.status.now.id in
    let line = line_says c.args.number _ id outcome _ _ c.in_ok-line.ensures (to_z-of_z w64 id (search rules)) c.answer_word.ensures in
    status_more (rows_in c.args.resender.now) _ _ _ _ _ _ _ outcome c.answer-answer.ensures.turn c.add.ensures (answer_says c.args.number id outcome _ _ c.answer_reply.ensures line)
