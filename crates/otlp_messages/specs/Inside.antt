-- Words of private contracts, here and in the crates that read messages: the defects of a value.
use Rattle.std.specs.Prelude.{ℕ, List, Option, Some, None, ◌⊎◌}
use Rattle.otlp_messages.specs.declared.messages.Message.{Message}
use Rattle.otlp_messages.specs.declared.messages.FieldKind.{FieldKind}
use Rattle.otlp_messages.specs.declared.messages.Defect.{Defect}
use Rattle.otlp_messages.specs.Defects.{ValueFaults, inside, Stands}
use Rattle.otlp_wire.specs.Wire as wire
use Rattle.otlp_wire.specs.Wire.{FieldValue}

abbrev pub StandsIn : Option (Message × ℕ) → List ℕ → Defect → Type 0
StandsIn None part e = ⊥
StandsIn (Some message) part e = Stands message.0 message.1 part e

-- the defect is in the value, or in the message that the value is
abbrev pub ValueStands : FieldKind → ℕ → FieldValue → Defect → Type 0
ValueStands kind levels (wire.Bytes part) e = ValueFaults kind levels (wire.Bytes part) e ⊎ StandsIn (inside kind levels) part e
ValueStands kind levels value e = ValueFaults kind levels value e
