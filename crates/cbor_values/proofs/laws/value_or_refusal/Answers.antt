use Rattle.cbor_values.proofs.Told.{value_told, refusal_told}
use Rattle.cbor_values.proofs.laws.value_or_refusal.Goals as goal

pub returns-clause-value : goal.returns-clause-value
returns-clause-value c = value_told

pub returns-clause-refusal : goal.returns-clause-refusal
returns-clause-refusal c = refusal_told
