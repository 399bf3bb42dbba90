use Rattle.std.proofs.Common.{[], refl}
use Rattle.arrow_ipc.proofs.Fronting.{no_message, front_of-none}
use Rattle.arrow_ipc.proofs.laws.no_bytes.Goals as goal

pub returns-clause-none : goal.returns-clause-none
returns-clause-none c = no_message

pub returns-clause-front : goal.returns-clause-front
returns-clause-front c = (refl, no_message)

pub returns-clause-read : goal.returns-clause-read
returns-clause-read c = front_of-none [] no_message
