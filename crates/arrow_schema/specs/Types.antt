-- The types that are supported, by their numbers in Arrow's Schema.fbs (`union Type`).
use Rattle.std.specs.Prelude.{ℕ, ◌==◌, ◌&&◌, ◌||◌, not, Bool, true, false, nat_le, ℤ, pos, negsuc}
use Rattle.lists.specs.Flags.{same_flag}
use Rattle.arrow_schema.specs.Limits.{max_fixed}
use Rattle.arrow_schema.specs.declared.spec.ArrowType.{ArrowType}
use Rattle.arrow_schema.specs.declared.spec.ArrowType.TheVariants.{Bool as Boolean, Int, Double, Utf8, Binary, Fixed, Timestamp, Duration, Struct, List}

abbrev pub type_number : ArrowType → ℕ
type_number (Int bits signed) = 2
type_number Double = 3
type_number Binary = 4
type_number Utf8 = 5
type_number Boolean = 6
type_number Timestamp = 10
type_number List = 12
type_number Struct = 13
type_number (Fixed width) = 15
type_number Duration = 18

abbrev pub is_struct : ArrowType → Bool
is_struct Struct = true
is_struct kind = false

abbrev pub is_list : ArrowType → Bool
is_list List = true
is_list kind = false

-- the elements of a list: unsigned numbers of 64 bits, or doubles
abbrev pub is_element_type : ArrowType → Bool
is_element_type (Int bits signed) = bits == 64 && not signed
is_element_type Double = true
is_element_type kind = false

-- values of these types may be dictionary-encoded
abbrev pub takes_dictionary : ArrowType → Bool
takes_dictionary Boolean = false
takes_dictionary Struct = false
takes_dictionary List = false
takes_dictionary kind = true

abbrev pub same_type : ArrowType → ArrowType → Bool
same_type (Int a s) (Int b t) = (a == b) && same_flag s t
same_type (Fixed a) (Fixed b) = a == b
same_type a b = type_number a == type_number b && plain_type a
  where
    plain_type : ArrowType → Bool
    plain_type (Int bits signed) = false
    plain_type (Fixed width) = false
    plain_type kind = true

-- a signed number is this one
abbrev pub is_number : ℕ → ℤ → Bool
is_number n (pos m) = m == n
is_number n (negsuc m) = false

-- the widths of numbers that are read
abbrev pub is_int_width : ℤ → Bool
is_int_width z = is_number 8 z || is_number 16 z || is_number 32 z || is_number 64 z

-- the widths of fixed binaries that are read
abbrev pub is_fixed_width : ℤ → Bool
is_fixed_width (pos n) = nat_le 1 n && nat_le n max_fixed
is_fixed_width (negsuc n) = false
