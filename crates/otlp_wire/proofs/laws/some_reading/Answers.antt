use Rattle.otlp_wire.proofs.FieldsOf.{fields_of-reads}
use Rattle.otlp_wire.proofs.laws.some_reading.Goals as goal

pub returns : goal.returns
returns c = fields_of-reads
