-- What a list of arrays keeps.
use Rattle.std.specs.Prelude.{◌≡◌, ◌≤◌, length}
use Rattle.arrow_schema.specs.Limits.{max_fields}
use Rattle.arrow_arrays.specs.declared.arrays.Arrays.TheInside as arrays
use Rattle.arrow_arrays.specs.Arrays.{buffers_of}

-- its count of buffers, and few arrays
pub record AreArrays (a : arrays.Inside) : Type 0 where
  pub counted : a.buffers ≡ buffers_of a.arrays.items
  pub few : length a.arrays.items ≤ max_fields
