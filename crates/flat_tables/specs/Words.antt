-- Tables in words: when bytes have one at an offset, and when its vtable is bad (FlatBuffers Internals, "Tables").
use Rattle.std.specs.Prelude.{◌≡◌, ◌≢◌, ◌⊎◌, ℕ, ◌+◌, ◌%◌, ◌<◌, ◌≤◌, List, length, pos, ◌-ℤ◌}
use Rattle.std.specs.Int.{w32, cast_signed}
use Rattle.flat_tables.specs.Bytes.{number_in}

-- The i32 at an offset lies in the bytes. Subtracted from the offset it gives the offset of a vtable, whose first four
-- bytes lie in the bytes.
pub record NamesVtable (bytes : List ℕ) (place vtable : ℕ) : Type 0 where
  pub distance : place + 4 ≤ length bytes
  pub named : pos place -ℤ cast_signed w32 (number_in 4 bytes place) ≡ pos vtable
  pub head : vtable + 4 ≤ length bytes

-- a table is at the offset: the size of its vtable is even and at least 4, and the whole vtable lies in the bytes
pub record IsTableAt (bytes : List ℕ) (place vtable size : ℕ) : Type 0 where
  pub names : NamesVtable bytes place vtable
  pub is : number_in 2 bytes vtable ≡ size
  pub least : 4 ≤ size
  pub even : size % 2 ≡ 0
  pub whole : vtable + size ≤ length bytes

-- the size of the vtable is below 4 or odd
pub record HasBadVtable (bytes : List ℕ) (place : ℕ) : Type 0 where
  pub vtable : ℕ
  pub names : NamesVtable bytes place vtable
  pub bad : (number_in 2 bytes vtable < 4) ⊎ (number_in 2 bytes vtable % 2 ≢ 0)
