-- Words of private contracts: the numbers among ids, those that are stored for them, and the cells that a column keeps.
use Rattle.std.specs.Prelude.{◌≡◌, ℕ, ◌+◌, ◌-◌, ◌<◌, Bool, List, [], ◌∷◌, length, slice_index, drop, Option, None, Some, take}
use Rattle.otap_cells.specs.declared.profile.Coding.{Coding}
use Rattle.otap_cells.specs.Ids.{base_of, goes_on}
use Rattle.otap_cells.specs.declared.kept.KeptCell.{KeptCell}
use Rattle.otap_cells.specs.declared.kept.KeptCell.TheVariants as slot
use Rattle.otap_cells.specs.Cells.{Cell, null, number, bits, flag, bytes}

-- the numbers among ids
abbrev pub numbers : List (Option ℕ) → List ℕ
numbers [] = []
numbers (None ∷ ids) = numbers ids
numbers (Some id ∷ ids) = id ∷ numbers ids

-- two neighbours among numbers are equal
abbrev pub HasPair : List ℕ → Type 0
HasPair ns = (k : ℕ) × (k + 1 < length ns) × (slice_index ns k ≡ slice_index ns (k + 1))

-- the numbers that are stored for ids
abbrev pub stored_after : Coding → ℕ → List Bool → List (Option ℕ) → List (Option ℕ)
stored_after how before rows [] = []
stored_after how before rows (None ∷ ids) = None ∷ stored_after how before (drop 1 rows) ids
stored_after how before rows (Some id ∷ ids) = Some (id - base_of how (goes_on rows) before) ∷ stored_after how id (drop 1 rows) ids

-- the cell of a slot, over the bytes of its column
abbrev pub cell_of_slot : List ℕ → KeptCell → Cell
cell_of_slot kept slot.Null = null
cell_of_slot kept (slot.Num n) = number n
cell_of_slot kept (slot.Bits n) = bits n
cell_of_slot kept (slot.Flag b) = flag b
cell_of_slot kept (slot.Bytes from len) = bytes (take len (drop from kept))

-- how many of these bytes must be there for the slot
abbrev pub reach : KeptCell → ℕ
reach (slot.Bytes from len) = from + len
reach _ = 0
