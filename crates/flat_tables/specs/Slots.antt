-- What slots hold, and what they are aligned to.
use Rattle.std.specs.Prelude.{◌≡◌, ℕ, ◌≤◌, ◌-◌, List, [], ◌∷◌, length, Ok, Some, None}
use Rattle.std.specs.Int.{w16, w32, w64}
use Rattle.flat_tables.specs.declared.place.Slot.{Slot}
use Rattle.flat_tables.specs.declared.place.Slot.TheVariants.{Absent, U8, I16, I32, I64, At}
use Rattle.flat_tables.specs.Tables.{TableIn, place_of, byte_slot, signed_slot, reference_slot}

-- a slot refers to nothing that is farther from the end than this
abbrev pub Reaches : ℕ → Slot → Type 0
Reaches size (At place) = place ≤ size
Reaches size slot = Unit {0}

abbrev pub AllReach : ℕ → List Slot → Type 0
AllReach size [] = Unit {0}
AllReach size (slot ∷ slots) = Reaches size slot × AllReach size slots

-- A table's slot reads as this. An offset that it refers to is counted from the end.
abbrev pub Holds : TableIn → ℕ → Slot → Type 0
Holds t slot Absent = place_of t slot ≡ None
Holds t slot (U8 n) = byte_slot t slot ≡ Ok (Some n)
Holds t slot (I16 z) = signed_slot w16 2 t slot ≡ Ok (Some z)
Holds t slot (I32 z) = signed_slot w32 4 t slot ≡ Ok (Some z)
Holds t slot (I64 z) = signed_slot w64 8 t slot ≡ Ok (Some z)
Holds t slot (At place) = reference_slot t slot ≡ Ok (Some (length t.bytes - place))

-- the size of a slot's value; its offset is to be a multiple of it
abbrev pub alignment : Slot → ℕ
alignment Absent = 1
alignment (U8 n) = 1
alignment (I16 z) = 2
alignment (I32 z) = 4
alignment (I64 z) = 8
alignment (At place) = 4
