use Rattle.otlp_wire.proofs.FieldsOf.{fields_of-joined}
use Rattle.otlp_wire.proofs.laws.joined_reading.Goals as goal

pub returns-clause-fields : goal.returns-clause-fields
returns-clause-fields c front rest fs spells = (fields_of-joined front rest fs spells).0

pub returns-clause-end : goal.returns-clause-end
returns-clause-end c front rest fs spells = (fields_of-joined front rest fs spells).1
