use Rattle.std.proofs.Common.{◌≡◌, ◌<◌, [], length, arith, refl}
use Rattle.std.proofs.lemmas.Grind.{common_steps}
use Rattle.otlp_wire.proofs.FieldsOf.{first_field, first_fault, no_field}
use Rattle.otlp_wire.proofs.reading.FieldsIterator.next.Goals as goal

pub returns-then-is_empty-clause-steps : goal.returns-then-is_empty-clause-steps
returns-then-is_empty-clause-steps c =
    let none : c.self.inside.rest.now ≡ [] = grind (arith, common_steps) in
    let last = no_field _ none in
    rw (← c.self.view_is) (last.0, last.1, none)

pub returns-in-Ok-clause-steps : goal.returns-in-Ok-clause-steps
returns-in-Ok-clause-steps c = rw (← c.self.view_is) (first_field _ _ _ c.in-Ok.ensures.ok)

pub returns-in-Err-clause-steps : goal.returns-in-Err-clause-steps
returns-in-Err-clause-steps c =
    let some : 0 < length c.self.inside.rest.now = grind (arith, common_steps) in
    let first = first_fault _ _ some c.in-Err.ensures.err in
    rw (← c.self.view_is) (first.0, first.1, refl)
