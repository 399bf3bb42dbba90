use Rattle.std.proofs.Common.{arith}
use Rattle.cbor_values.proofs.Whole.{is_found, is_refused, is_value, only_value}
use Rattle.cbor_values.proofs.reading.read_value.Goals as goal

pub returns-clause-found : goal.returns-clause-found
returns-clause-found c = is_found c.args.bytes.now c.all.result (λ i. omega (arith, c.type_inv.bytes i)) c.all.ensures

pub returns-clause-only : goal.returns-clause-only
returns-clause-only c = λ v. only_value c.args.bytes.now c.all.result v (is_value c.args.bytes.now c.all.result c.all.ensures)

pub returns-clause-refused : goal.returns-clause-refused
returns-clause-refused c = is_refused c.args.bytes.now c.all.result (λ i. omega (arith, c.type_inv.bytes i)) c.all.ensures

pub returns-clause-value : goal.returns-clause-value
returns-clause-value c = is_value c.args.bytes.now c.all.result c.all.ensures
