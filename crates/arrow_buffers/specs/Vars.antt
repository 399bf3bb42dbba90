-- Values that differ in length (Arrow columnar format, "Variable-size binary layout").
use Rattle.std.specs.Prelude.{ℕ, nat_lt, Bool, true, if◌then◌else◌, List, Option, Some, None, Result, Ok, Err}
use Rattle.std.specs.Result.{result_and}
use Rattle.std.specs.Str.{is_utf8}
use Rattle.arrow_buffers.specs.declared.fault.BufferFault.{BufferFault}
use Rattle.arrow_buffers.specs.declared.fault.BufferFault.TheVariants.{BadUtf8}
use Rattle.arrow_buffers.specs.Below.{all_below}
use Rattle.arrow_buffers.specs.Bits.{BitsIn, flag_of, cell_where}
use Rattle.arrow_buffers.specs.Offsets.{offsets_check, span_at}

-- the values of some rows
pub record VarsIn : Type 0 where
  pub offsets : List ℕ
  pub values : List ℕ
  pub rows : ℕ

-- the offsets have no fault
unfoldable pub vars_of : List ℕ → List ℕ → ℕ → Result VarsIn BufferFault
vars_of offsets values rows =
    result_and (offsets_check 1 offsets values rows) (Ok (record { offsets = offsets; values = values; rows = rows }))

-- what is returned for a row
unfoldable pub row_span : VarsIn → ℕ → Option (List ℕ)
row_span v row = if nat_lt row v.rows then Some (span_at 1 v.offsets v.values row) else None

-- whether a cell is UTF-8, which null is
abbrev pub is_text : Option (List ℕ) → Bool
is_text None = true
is_text (Some text) = is_utf8 text

-- whether the cell of a row is
abbrev pub is_text_at : VarsIn → BitsIn → ℕ → Bool
is_text_at v valid row = is_text (cell_where (flag_of valid row) (row_span v row))

-- each cell is UTF-8, taken by itself
unfoldable pub utf8_check : VarsIn → BitsIn → Result (Unit {0}) BufferFault
utf8_check v valid = if all_below (is_text_at v valid) v.rows then Ok tt else Err BadUtf8
