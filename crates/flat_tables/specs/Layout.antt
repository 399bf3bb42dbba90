-- How the builder lays out what it adds: used in private contracts.
use Rattle.std.specs.Prelude.{ℕ, ◌+◌, ◌-◌, ◌*◌, ◌<◌, ◌^◌, FitsSigned, List, [], ◌∷◌, ◌++◌, length, replicate}
use Rattle.std.specs.Int.{w16, w32, w64, cast_unsigned}
use Rattle.byteorder.specs.Endian.{little_bytes}
use Rattle.flat_tables.specs.declared.place.Slot.{Slot}
use Rattle.flat_tables.specs.declared.place.Slot.TheVariants.{Absent, U8, I16, I32, I64, At}

-- the number of a slot is one of its type
abbrev pub IsSlot : Slot → Type 0
IsSlot Absent = Unit {0}
IsSlot (U8 n) = n < 2 ^ 8
IsSlot (I16 z) = FitsSigned w16 z
IsSlot (I32 z) = FitsSigned w32 z
IsSlot (I64 z) = FitsSigned w64 z
IsSlot (At place) = Unit {0}

-- each piece is a number of four bytes, a content, and zero bytes
unfoldable pub piece : ℕ → List ℕ → ℕ → List ℕ
piece head content pad = little_bytes 4 head ++ (content ++ replicate pad 0)

-- a number of this width for each item of a list, by its index and the item; the first index is given
abbrev pub bytes_of_numbers : {A : Type 0} → ℕ → (ℕ → A → ℕ) → ℕ → List A → List ℕ
bytes_of_numbers width number index [] = []
bytes_of_numbers width number index (x ∷ xs) = little_bytes width (number index x) ++ bytes_of_numbers width number (index + 1) xs

-- references to offsets counted from the end; the first reference is `from` bytes from the end
abbrev pub reference : ℕ → ℕ → ℕ → ℕ
reference from index place = from - 4 * index - place

abbrev pub references : ℕ → List ℕ → List ℕ
references from places = bytes_of_numbers 4 (reference from) 0 places

-- the number of a slot whose value is `from` bytes from the end
abbrev pub slot_number : ℕ → Slot → ℕ
slot_number from Absent = 0
slot_number from (U8 n) = n
slot_number from (I16 z) = cast_unsigned w16 z
slot_number from (I32 z) = cast_unsigned w32 z
slot_number from (I64 z) = cast_unsigned w64 z
slot_number from (At place) = from - place

-- a cell of eight bytes for each slot: a number of fewer bytes is at its front
abbrev pub cell : ℕ → ℕ → Slot → ℕ
cell from index slot = slot_number (from - 8 * index) slot

abbrev pub cells : ℕ → List Slot → List ℕ
cells from slots = bytes_of_numbers 8 (cell from) 0 slots

-- the vtable's entry of a slot: the offset of its cell in the table
abbrev pub vtable_entry : ℕ → Slot → ℕ
vtable_entry index Absent = 0
vtable_entry index slot = 4 + 8 * index

-- the vtable: its own size, the table's size, and the entries
abbrev pub vtable : List Slot → List ℕ
vtable slots = (little_bytes 2 (4 + 2 * length slots) ++ little_bytes 2 (4 + 8 * length slots)) ++ bytes_of_numbers 2 vtable_entry 0 slots
