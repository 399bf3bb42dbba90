-- What a refusal to read a part of a request says of the part's bytes: words of private contracts.
use Rattle.std.specs.Prelude.{ℕ, List}
use Rattle.otlp_messages.specs.declared.messages.Message.{Message}
use Rattle.otlp_messages.specs.declared.messages.FieldKind.{FieldKind}
use Rattle.otlp_wire.specs.Wire.{FieldValue}
use Rattle.otlp_messages.specs.Defects.{Stands}
use Rattle.otlp_messages.specs.Inside.{ValueStands}
use Rattle.otlp_codec.specs.declared.refusal.ReadRefusal.{ReadRefusal}
use Rattle.otlp_codec.specs.Refusals.{HoldsNamed}

-- the defect that is named is in the bytes
abbrev pub Refuses : Message → ℕ → List ℕ → ReadRefusal → Type 0
Refuses message levels bytes refusal = HoldsNamed refusal (Stands message levels bytes)

-- the same of a value of a field
abbrev pub RefusesValue : FieldKind → ℕ → FieldValue → ReadRefusal → Type 0
RefusesValue kind levels value refusal = HoldsNamed refusal (ValueStands kind levels value)
