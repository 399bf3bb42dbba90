-- Single values as cells. A default is null, and null reads as the default: no bytes, 0, 64 zero bits, false.
use Rattle.std.specs.Prelude.{ℕ, ℤ, pos, negsuc, Bool, true, false, List, [], ◌∷◌, if◌then◌else◌, ◌==◌}
use Rattle.otap_cells.specs.declared.profile.Base.{Base}
use Rattle.otap_cells.specs.declared.profile.Base.TheVariants as base
use Rattle.otap_cells.specs.Cells.{Cell, null, number, bits, flag, bytes}

-- a text, and bytes
abbrev pub text_cell : List ℕ → Cell
text_cell [] = null
text_cell (byte ∷ more) = bytes (byte ∷ more)

-- an unsigned number
abbrev pub number_cell : ℕ → Cell
number_cell n = if n == 0 then null else number (pos n)

-- a signed number
abbrev pub int_cell : ℤ → Cell
int_cell (pos n) = number_cell n
int_cell (negsuc n) = number (negsuc n)

-- 64 bits
abbrev pub bits_cell : ℕ → Cell
bits_cell n = if n == 0 then null else bits n

-- a truth value
abbrev pub flag_cell : Bool → Cell
flag_cell true = flag true
flag_cell false = null

-- the signed number that a cell reads as
abbrev pub int_in : Cell → ℤ
int_in (number n) = n
int_in _ = pos 0

-- the 64 bits that it reads as
abbrev pub bits_in : Cell → ℕ
bits_in (bits n) = n
bits_in _ = 0

-- the truth value that it reads as
abbrev pub flag_in : Cell → Bool
flag_in (flag b) = b
flag_in _ = false

-- the bases whose numbers are unsigned
abbrev pub is_unsigned : Base → Bool
is_unsigned base.U8 = true
is_unsigned base.U16 = true
is_unsigned base.U32 = true
is_unsigned _ = false

-- the bases of 64 bits
abbrev pub is_bits : Base → Bool
is_bits base.U64 = true
is_bits base.Double = true
is_bits base.Timestamp = true
is_bits base.Duration = true
is_bits _ = false
