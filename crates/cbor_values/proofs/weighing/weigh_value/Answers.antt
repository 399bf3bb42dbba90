use Rattle.std.proofs.Common.{arith}
use Rattle.cbor_values.proofs.TellingValues.{is_weighed, nothing_weighed, weighing_fine, weighing_refused}
use Rattle.cbor_values.proofs.weighing.weigh_value.Goals as goal

pub returns-clause-found : goal.returns-clause-found
returns-clause-found c = is_weighed c.args.bytes.now c.all.result c.all.ensures

pub returns-clause-fine : goal.returns-clause-fine
returns-clause-fine c = weighing_fine c.args.bytes.now c.all.result (λ i. omega (arith, c.type_inv.bytes i)) c.all.ensures

pub returns-clause-refused : goal.returns-clause-refused
returns-clause-refused c = weighing_refused c.args.bytes.now c.all.result (λ i. omega (arith, c.type_inv.bytes i)) c.all.ensures

pub returns-clause-none : goal.returns-clause-none
returns-clause-none c = nothing_weighed c.args.bytes.now c.all.result c.all.ensures
