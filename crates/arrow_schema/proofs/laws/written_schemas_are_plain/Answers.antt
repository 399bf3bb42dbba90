use Rattle.arrow_schema.proofs.PlainWritten.{plain_schema}
use Rattle.arrow_schema.proofs.laws.written_schemas_are_plain.Goals as goal

pub returns : goal.returns
returns c = λ fields bytes place schema w at. plain_schema fields bytes place schema w at
