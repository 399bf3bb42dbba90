-- The limits of columns that grow.
use Rattle.std.specs.Prelude.{ℕ}

-- a column has less than this number of rows: Arrow counts them in signed numbers of 64 bits
abbrev pub max_rows : ℕ
max_rows = 9223372036854775808

-- an offset is less than this, and so is the number of bytes of values that have offsets: these are signed numbers of 32 bits
abbrev pub max_values : ℕ
max_values = 2147483648
