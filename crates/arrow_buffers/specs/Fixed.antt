-- Values of one width (Arrow columnar format, "Fixed-size primitive layout").
use Rattle.std.specs.Prelude.{ℕ, ◌*◌, nat_lt, if◌then◌else◌, List, length, take, drop, Option, Some, None, Result, Ok, Err}
use Rattle.arrow_buffers.specs.declared.fault.BufferFault.{BufferFault}
use Rattle.arrow_buffers.specs.declared.fault.BufferFault.TheVariants.{Short}

-- the values of some rows, of width bytes each
pub record FixedIn : Type 0 where
  pub bytes : List ℕ
  pub width : ℕ
  pub rows : ℕ

-- a row's value: the width bytes at row * width
abbrev pub row_part : ℕ → List ℕ → ℕ → List ℕ
row_part width bytes row = take width (drop (row * width) bytes)

-- there is a value for each row
unfoldable pub fixed_of : List ℕ → ℕ → ℕ → Result FixedIn BufferFault
fixed_of bytes width rows =
    if nat_lt (length bytes) (rows * width)
    then Err Short
    else Ok (record { bytes = bytes; width = width; rows = rows })

-- what is returned for a row
unfoldable pub part_of : FixedIn → ℕ → Option (List ℕ)
part_of f row = if nat_lt row f.rows then Some (row_part f.width f.bytes row) else None
