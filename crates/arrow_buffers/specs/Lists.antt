-- Lists of elements of one width (Arrow columnar format, "Variable-size list layout").
use Rattle.std.specs.Prelude.{ℕ, ◌+◌, ◌-◌, nat_lt, Bool, true, false, not, if◌then◌else◌, List, Option, Some, None, Result, Ok, Err}
use Rattle.std.specs.Result.{result_and}
use Rattle.arrow_buffers.specs.declared.fault.BufferFault.{BufferFault}
use Rattle.arrow_buffers.specs.declared.fault.BufferFault.TheVariants.{BadNulls}
use Rattle.arrow_buffers.specs.Below.{all_below}
use Rattle.arrow_buffers.specs.Bits.{BitsIn, flag_of}
use Rattle.arrow_buffers.specs.Offsets.{offset_at, offsets_check, span_at}

-- the lists of some rows, whose elements have a width in bytes
pub record ListsIn : Type 0 where
  pub offsets : List ℕ
  pub values : List ℕ
  pub width : ℕ
  pub rows : ℕ

-- the offsets, which count elements, have no fault
unfoldable pub lists_of : List ℕ → List ℕ → ℕ → ℕ → Result ListsIn BufferFault
lists_of offsets values width rows =
    result_and (offsets_check width offsets values rows) (Ok (record { offsets = offsets; values = values; width = width; rows = rows }))

-- what is returned for a row: the bytes of its elements
unfoldable pub elements_of : ListsIn → ℕ → Option (List ℕ)
elements_of l row = if nat_lt row l.rows then Some (span_at l.width l.offsets l.values row) else None

-- a row that is valid in a bitmap, and one that is null; a row past the bitmap's rows is neither
abbrev pub is_set : Option Bool → Bool
is_set (Some bit) = bit
is_set None = false

abbrev pub is_null : Option Bool → Bool
is_null (Some bit) = not bit
is_null None = false

-- whether a row has no null among its elements, by the bitmap of the elements
abbrev pub is_full : ListsIn → BitsIn → ℕ → Bool
is_full l elements row =
    all_below (λ k. not (is_null (flag_of elements (offset_at l.offsets row + k)))) (offset_at l.offsets (row + 1) - offset_at l.offsets row)

-- the elements of a row that is null are not looked at
abbrev pub is_full_at : ListsIn → BitsIn → BitsIn → ℕ → Bool
is_full_at l valid elements row = if is_set (flag_of valid row) then is_full l elements row else true

-- no row that is valid has a null among its elements
unfoldable pub nulls_check : ListsIn → BitsIn → BitsIn → Result (Unit {0}) BufferFault
nulls_check l valid elements = if all_below (is_full_at l valid elements) l.rows then Ok tt else Err BadNulls
