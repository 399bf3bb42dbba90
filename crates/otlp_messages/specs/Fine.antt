-- That a value has no defect, for each kind.
use Rattle.std.specs.Prelude.{◌≡◌, ℕ, suc, ◌%◌, List, length, true, IsUtf8, ⊤, ◌⊎◌}
use Rattle.otlp_messages.specs.declared.messages.FieldKind.{FieldKind}
use Rattle.otlp_messages.specs.declared.messages.FieldKind.TheVariants.{Unknown, Packed64, Text, Octets, Id, Embedded, Member}
use Rattle.otlp_wire.specs.Wire as wire
use Rattle.otlp_wire.specs.Wire.{FieldValue, wire_type}
use Rattle.otlp_messages.specs.Defects.{has_type, IsFine}

-- bytes of this kind have no defect
abbrev pub FinePart : FieldKind → ℕ → List ℕ → Type 0
FinePart Unknown levels part = ⊤
FinePart Packed64 levels part = length part % 8 ≡ 0
FinePart Text levels part = IsUtf8 part
FinePart Octets levels part = ⊤
FinePart (Id size) levels part = (length part ≡ 0) ⊎ (length part ≡ size)
FinePart (Embedded message) levels part = IsFine message levels part
FinePart (Member message) (suc levels) part = IsFine message levels part
FinePart kind levels part = ⊥

-- a value of this kind has no defect
abbrev pub FineValue : FieldKind → ℕ → FieldValue → Type 0
FineValue kind levels (wire.Bytes part) = FinePart kind levels part
FineValue kind levels value = has_type kind (wire_type value) ≡ true
