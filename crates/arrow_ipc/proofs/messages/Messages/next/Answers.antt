use Rattle.std.proofs.Common.{rules, ◌+◌, ap, length, length-drop, arith}
use Rattle.std.proofs.lemmas.Grind.{common_steps}
use Rattle.arrow_ipc.specs.Fronts.{rest_of}
use Rattle.arrow_ipc.proofs.Fronting.{takes_none, takes_message, takes_fault}
use Rattle.arrow_ipc.proofs.messages.Messages.next.Goals as goal

pub returns-then-self-clause-front : goal.returns-then-self-clause-front
returns-then-self-clause-front c = takes_none c.args.self.now (search rules)

pub returns-then-is_empty-clause-front : goal.returns-then-is_empty-clause-front
returns-then-is_empty-clause-front c = takes_none c.args.self.now (grind (arith, common_steps))

pub overflow_add-self : goal.overflow_add-self
overflow_add-self c = omega (arith, c.in-Ok.ensures.within, length-drop c.self.inside.place c.self.inside.bytes.now)

pub invariant_of-self : goal.invariant_of-self
invariant_of-self c = record {
  place = omega (arith, c.in-Ok.ensures.within, ap length c.rest-rest.ensures, length-drop c.self.inside.place c.self.inside.bytes.now);
}

pub returns-in-Ok-clause-front : goal.returns-in-Ok-clause-front
returns-in-Ok-clause-front c =
    takes_message c.args.self.now
    (record { bytes = c.self.inside.bytes.now; place = c.self.inside.place + c.in-Ok.size; ended = c.self.inside.ended }) c.in-Ok.message (search rules)

pub returns-in-Err-clause-front : goal.returns-in-Err-clause-front
returns-in-Err-clause-front c = takes_fault (rest_of c.args.self.now) c.in-Err.fault (search rules)
