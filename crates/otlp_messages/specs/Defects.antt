-- What can be wrong with the bytes of a message, by what the table says of their fields.
use Rattle.std.specs.Prelude.{◌≡◌, ◌≢◌, ℕ, suc, ◌%◌, ◌<◌, List, ◌∷◌, ◌++◌, length, Option, Some, None, count_by, ◌==◌, ◌||◌, Bool, true, false, IsUtf8, ◌⊎◌}
use Rattle.otlp_messages.specs.declared.messages.Message.{Message}
use Rattle.otlp_messages.specs.declared.messages.FieldKind.{FieldKind}
use Rattle.otlp_messages.specs.declared.messages.FieldKind.TheVariants.{Unknown, Varint, Fixed64, Fixed32, Packed64, Text, Id, Embedded, Member, Refused}
use Rattle.otlp_messages.specs.declared.messages.Defect.{Defect}
use Rattle.otlp_messages.specs.declared.messages.Defect.TheVariants.{BadMessage, Repeated, BadUtf8, BadLength, Unsupported, TooDeep}
use Rattle.otlp_wire.specs.declared.parts.WireError.{WireError}
use Rattle.otlp_wire.specs.Wire as wire
use Rattle.otlp_wire.specs.Wire.{FieldValue, Entry, wire_type}
use Rattle.otlp_wire.specs.Fields.{fields_of, end_of}
use Rattle.otlp_messages.specs.Table.{kind_of, mark_of}

-- a field of the kind may have the wire type; an unknown field may have any
abbrev pub has_type : FieldKind → ℕ → Bool
has_type Unknown t = true
has_type Varint t = t == 0
has_type Fixed64 t = t == 1
has_type Fixed32 t = t == 5
has_type Packed64 t = t == 1 || t == 2
has_type kind t = t == 2

-- what is wrong with bytes of this kind, in a message below whose values this number of levels of members may be
abbrev pub PartFaults : FieldKind → ℕ → List ℕ → Defect → Type 0
PartFaults Packed64 levels part e = (e ≡ BadMessage) × (length part % 8 ≢ 0)
PartFaults Text levels part e = (e ≡ BadUtf8) × (IsUtf8 part → ⊥)
PartFaults (Id size) levels part e = (e ≡ BadLength) × (length part ≢ 0) × (length part ≢ size)
PartFaults (Member message) levels part e = (e ≡ TooDeep) × (levels ≡ 0)
PartFaults Refused levels part e = e ≡ Unsupported
PartFaults kind levels part e = ⊥

-- what is wrong with a value of this kind
abbrev pub ValueFaults : FieldKind → ℕ → FieldValue → Defect → Type 0
ValueFaults kind levels (wire.Bytes part) e = ((e ≡ BadMessage) × (has_type kind 2 ≡ false)) ⊎ PartFaults kind levels part e
ValueFaults kind levels value e = (e ≡ BadMessage) × (has_type kind (wire_type value) ≡ false)

-- the message that bytes of this kind are, and how many levels may be below its values
abbrev pub inside : FieldKind → ℕ → Option (Message × ℕ)
inside (Embedded message) levels = Some (message, levels)
inside (Member message) (suc levels) = Some (message, levels)
inside kind levels = None

-- the field occurs among those of the bytes
abbrev pub Occurs : List ℕ → Entry → Type 0
Occurs bytes f = (before : List Entry) × (after : List Entry) × (fields_of bytes ≡ before ++ f ∷ after)

-- The defect is in the bytes, read as this message. The fields are those of the longest front of the bytes
-- that is whole fields, so defects of fields before a wire error count beside it.
pub data Stands : Message → ℕ → List ℕ → Defect → Type 0 where
  wire_error : (message : Message) (levels : ℕ) (bytes : List ℕ) (e : WireError) → end_of bytes ≡ Some e → Stands message levels bytes BadMessage
  twice : (message : Message) (levels : ℕ) (bytes : List ℕ) (mark : ℕ) → 0 < mark → 1 < count_by (λ f. mark_of message f.number == mark) (fields_of bytes)
      → Stands message levels bytes Repeated
  in_value : (message : Message) (levels : ℕ) (bytes : List ℕ) (f : Entry) (e : Defect) → Occurs bytes f → ValueFaults (kind_of message f.number) levels f.value e
      → Stands message levels bytes e
  within : (message : Message) (levels : ℕ) (bytes : List ℕ) (n : ℕ) (part : List ℕ) (next : Message) (deep : ℕ) (e : Defect)
      → Occurs bytes (record { number = n; value = wire.Bytes part }) → inside (kind_of message n) levels ≡ Some (next, deep) → Stands next deep part e
      → Stands message levels bytes e

-- the bytes are the message, without a defect
pub record IsFine (message : Message) (levels : ℕ) (bytes : List ℕ) : Type 0 where
  pub none : (e : Defect) → Stands message levels bytes e → ⊥

-- they are the message, or a defect is in them
abbrev pub FineOrDefect : Message → ℕ → List ℕ → Type 0
FineOrDefect message levels bytes = IsFine message levels bytes ⊎ ((e : Defect) × Stands message levels bytes e)
