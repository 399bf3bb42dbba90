use Rattle.std.proofs.Common.{refl}
use Rattle.arrow_ipc.proofs.Unique.{one_message, alone, stands_some}
use Rattle.arrow_ipc.proofs.Fronting.{message_or_fault}
use Rattle.arrow_ipc.proofs.laws.message_or_fault.Goals as goal

pub returns-clause-one : goal.returns-clause-one
returns-clause-one c = one_message

pub returns-clause-never_both : goal.returns-clause-never_both
returns-clause-never_both c = alone

pub returns-clause-some : goal.returns-clause-some
returns-clause-some c = message_or_fault

pub returns-clause-end : goal.returns-clause-end
returns-clause-end c = λ fault stands. stands_some _ fault stands refl
