-- The limits of a dictionary.
use Rattle.std.specs.Prelude.{ℕ}

-- how many distinct values indexes of 8 bits reach
abbrev pub narrow_limit : ℕ
narrow_limit = 256

-- how many values a dictionary has at most, which indexes of 16 bits reach
abbrev pub value_limit : ℕ
value_limit = 65536

-- how many bytes the distinct values of a dictionary have together at most
abbrev pub byte_limit : ℕ
byte_limit = 1048576
