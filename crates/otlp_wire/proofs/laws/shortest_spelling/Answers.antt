use Rattle.otlp_wire.proofs.Written.{is_one, shortest}
use Rattle.otlp_wire.proofs.laws.shortest_spelling.Goals as goal

pub returns-clause-is_one : goal.returns-clause-is_one
returns-clause-is_one c = is_one

pub returns-clause-shortest : goal.returns-clause-shortest
returns-clause-shortest c = shortest
