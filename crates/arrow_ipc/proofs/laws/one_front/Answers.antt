use Rattle.arrow_ipc.proofs.Unique.{stands_some}
use Rattle.arrow_ipc.specs.Fronts.{left_of}
use Rattle.arrow_ipc.proofs.Fronting.{one_front, front_of-is, front_ends}
use Rattle.arrow_ipc.proofs.laws.one_front.Goals as goal

pub returns-clause-one : goal.returns-clause-one
returns-clause-one c = one_front

pub returns-clause-some : goal.returns-clause-some
returns-clause-some c = front_of-is

pub returns-clause-ends : goal.returns-clause-ends
returns-clause-ends c = front_ends

pub returns-clause-never_both : goal.returns-clause-never_both
returns-clause-never_both c = λ bytes fault empty stands. stands_some (left_of bytes) fault stands empty
