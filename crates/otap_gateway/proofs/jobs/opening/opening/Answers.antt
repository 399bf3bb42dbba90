use Rattle.std.proofs.Common.{refl}
use Rattle.otap_gateway.proofs.FirstMessages.{empty_well, message_well}
use Rattle.otap_gateway.proofs.jobs.opening.opening.Goals as goal

pub returns-in-None-clause-well : goal.returns-in-None-clause-well
returns-in-None-clause-well c = empty_well c.args.bytes.now c.new.result c.new.ensures (c.in-None.ensures.end.0 refl)

pub returns-in-Some-Ok-clause-well : goal.returns-in-Some-Ok-clause-well
returns-in-Some-Ok-clause-well c = message_well c.args.bytes.now c.new.result c.next.new.self c.in-Some-Ok.field-0 c.in-Some-Ok.message c.new.ensures c.in-Some-Ok.field-0-is c.in-Some-Ok.ensures.message
