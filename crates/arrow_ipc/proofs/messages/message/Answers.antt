use Rattle.std.proofs.Common.{◌∙◌, sym}
use Rattle.std.proofs.lemmas.Result.{err_from_is_err_and}
use Rattle.arrow_ipc.proofs.Decided.{find_refuses, header_refuses, message_given}
use Rattle.arrow_ipc.proofs.Fronting.{message_ends}
use Rattle.arrow_ipc.proofs.messages.message.Goals as goal

pub returns-in_err-header-clause-fault : goal.returns-in_err-header-clause-fault
returns-in_err-header-clause-fault c =
    let p = err_from_is_err_and c.from_residual.result c.from_residual.ensures.1 in
    rw (p.1, p.2) (find_refuses c.args.bytes.now c.in_err-header.field-0.0 (sym c.find.ensures ∙ c.in_err-header.was))

pub returns-in_err-message-clause-fault : goal.returns-in_err-message-clause-fault
returns-in_err-message-clause-fault c =
    let p = err_from_is_err_and c.from_residual-in_err-message.result c.from_residual-in_err-message.ensures.1 in
    rw (p.1, p.2) (λ filled. header_refuses c.args.bytes.now c.in_ok-header.field-0 c.in_err-message.field-0.0
    (sym c.find.ensures ∙ c.in_ok-header.was) c.in_err-message.ensures.fault)

pub returns-clause-message : goal.returns-clause-message
returns-clause-message c =
    message_given c.args.bytes.now c.in_ok-header.field-0 c.in_ok-message.message (sym c.find.ensures ∙ c.in_ok-header.was) c.in_ok-message.ensures.message

pub returns-clause-within : goal.returns-clause-within
returns-clause-within c = message_ends c.args.bytes.now c.in_ok-message.message c.in_ok-header.field-0.size (returns-clause-message c)
