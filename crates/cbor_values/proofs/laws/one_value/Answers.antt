use Rattle.cbor_values.proofs.Again.{one_value}
use Rattle.cbor_values.proofs.laws.one_value.Goals as goal

pub returns : goal.returns
returns c = one_value
