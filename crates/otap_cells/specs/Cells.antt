-- Cells: what one row has in one column.
use Rattle.std.specs.Prelude.{◌≡◌, ℕ, ◌^◌, ◌%◌, ◌<◌, ℤ, pos, Bool, List, [], length, FitsSigned}
use Rattle.std.specs.Int.{w32, w64, FitsUnsignedBits}
use Rattle.std.specs.List.{slice_index_or}
use Rattle.std.specs.Str.{IsUtf8}
use Rattle.otap_cells.specs.declared.profile.Base.{Base}
use Rattle.otap_cells.specs.declared.profile.Base.TheVariants as base
use Rattle.otap_cells.specs.declared.view.CellView.{CellView}
use Rattle.otap_cells.specs.declared.view.CellView.TheVariants as view

-- nothing, a number, 64 raw bits, a truth value, or bytes
pub data Cell : Type 0 where
  null : Cell
  number : ℤ → Cell
  bits : ℕ → Cell
  flag : Bool → Cell
  bytes : List ℕ → Cell

-- the cell that a view shows
abbrev pub seen : CellView → Cell
seen view.Null = null
seen (view.Num n) = number n
seen (view.Bits n) = bits n
seen (view.Flag b) = flag b
seen (view.Bytes part) = bytes part.now

-- the bytes of a cell
abbrev pub bytes_in : Cell → List ℕ
bytes_in null = []
bytes_in (number n) = []
bytes_in (bits n) = []
bytes_in (flag b) = []
bytes_in (bytes part) = part

-- the number of a cell, 0 where it has none
abbrev pub nat_in : Cell → ℕ
nat_in (number (pos n)) = n
nat_in _ = 0

-- a cell of a row, null where there is none
abbrev pub cell_at : List Cell → ℕ → Cell
cell_at cells place = slice_index_or cells place null

-- the numbers that a base holds
abbrev pub IsNumberOf : Base → ℤ → Type 0
IsNumberOf base.U8 n = FitsUnsignedBits 8 n
IsNumberOf base.U16 n = FitsUnsignedBits 16 n
IsNumberOf base.U32 n = FitsUnsignedBits 32 n
IsNumberOf base.I32 n = FitsSigned w32 n
IsNumberOf base.I64 n = FitsSigned w64 n
IsNumberOf (base.Id wide) n = FitsUnsignedBits 32 n
IsNumberOf _ n = ⊥

-- the 64 bits that a base holds
abbrev pub IsBitsOf : Base → ℕ → Type 0
IsBitsOf base.U64 n = n < 2 ^ 64
IsBitsOf base.Double n = n < 2 ^ 64
IsBitsOf base.Timestamp n = n < 2 ^ 64
IsBitsOf base.Duration n = n < 2 ^ 64
IsBitsOf _ n = ⊥

-- the bytes that a base holds: texts are UTF-8, trace and span ids have their width, an element of a list has 8 bytes
abbrev pub IsBytesOf : Base → List ℕ → Type 0
IsBytesOf base.Utf8 part = IsUtf8 part
IsBytesOf base.Binary part = Unit {0}
IsBytesOf base.Fixed16 part = length part ≡ 16
IsBytesOf base.Fixed8 part = length part ≡ 8
IsBytesOf base.ListU64 part = length part % 8 ≡ 0
IsBytesOf base.ListF64 part = length part % 8 ≡ 0
IsBytesOf _ part = ⊥

-- the cells that a column of the base may hold; null is one of them
abbrev pub IsCellOf : Base → Cell → Type 0
IsCellOf holds null = Unit {0}
IsCellOf holds (number n) = IsNumberOf holds n
IsCellOf holds (bits n) = IsBitsOf holds n
IsCellOf holds (flag b) = holds ≡ base.Bool
IsCellOf holds (bytes part) = IsBytesOf holds part
