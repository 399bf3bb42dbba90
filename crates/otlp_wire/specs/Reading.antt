-- The fields that bytes encode, and the first error.
use Rattle.std.specs.Prelude.{◌≡◌, ℕ, ◌/◌, ◌%◌, ◌<◌, List, [], ◌∷◌, ◌++◌, length, Option, Some, None, ◌⊎◌}
use Rattle.otlp_wire.specs.declared.parts.WireError.{WireError}
use Rattle.otlp_wire.specs.declared.parts.WireError.TheVariants.{Cut, BadVarint, BadWireType, BadTag}
use Rattle.otlp_wire.specs.Varint.{IsVarint, IsCutVarint, IsLongVarint}
use Rattle.otlp_wire.specs.Wire.{Entry, IsNumber, IsField}

-- the bytes are a front of that kind, and the rest
abbrev pub Begins : (List ℕ → Type 0) → List ℕ → List ℕ → Type 0
Begins P bytes rest = (front : List ℕ) × (bytes ≡ front ++ rest) × P front

-- what is wrong with a varint at the front
abbrev pub VarintFaults : List ℕ → WireError → Type 0
VarintFaults bytes Cut = IsCutVarint bytes
VarintFaults bytes BadVarint = IsLongVarint bytes
VarintFaults bytes BadWireType = ⊥
VarintFaults bytes BadTag = ⊥

-- a length is there, and runs past the bytes
abbrev pub IsCutPart : List ℕ → Type 0
IsCutPart bytes = (n : ℕ) × (rest : List ℕ) × Begins (λ front. IsVarint front n) bytes rest × (length rest < n)

-- what is wrong with a value of this wire type at the front
abbrev pub ValueFaults : ℕ → List ℕ → WireError → Type 0
ValueFaults t bytes Cut =
    ((t ≡ 0) × IsCutVarint bytes) ⊎ ((t ≡ 1) × (length bytes < 8))
    ⊎ ((t ≡ 2) × (IsCutVarint bytes ⊎ IsCutPart bytes)) ⊎ ((t ≡ 5) × (length bytes < 4))
ValueFaults t bytes BadVarint = ((t ≡ 0) ⊎ (t ≡ 2)) × IsLongVarint bytes
ValueFaults t bytes BadWireType = (t ≡ 3) ⊎ (t ≡ 4) ⊎ (t ≡ 6) ⊎ (t ≡ 7)
ValueFaults t bytes BadTag = ⊥

-- what is wrong after a tag: its number, or else its value
abbrev pub TagFaults : ℕ → List ℕ → WireError → Type 0
TagFaults tag rest e = ((IsNumber (tag / 8) → ⊥) × (e ≡ BadTag)) ⊎ (IsNumber (tag / 8) × ValueFaults (tag % 8) rest e)

-- what is wrong with a field at the front: its tag, or else what follows the tag
abbrev pub Faults : List ℕ → WireError → Type 0
Faults bytes e =
    VarintFaults bytes e
    ⊎ ((tag : ℕ) × (rest : List ℕ) × Begins (λ front. IsVarint front tag) bytes rest × TagFaults tag rest e)

-- the bytes from the left: their fields, and then the end of the bytes or the first error
abbrev pub Reads : List ℕ → List Entry → Option WireError → Type 0
Reads bytes [] None = bytes ≡ []
Reads bytes [] (Some e) = (0 < length bytes) × Faults bytes e
Reads bytes (f ∷ fs) end = (rest : List ℕ) × Begins (λ front. IsField front f) bytes rest × Reads rest fs end

-- the bytes are the encodings of these fields, joined
abbrev pub Spells : List ℕ → List Entry → Type 0
Spells bytes fs = Reads bytes fs None
