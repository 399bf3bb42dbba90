-- The validity bitmap of a column that grows: used in an invariant and in private contracts.
use Rattle.std.specs.Prelude.{◌≡◌, ℕ, ◌+◌, ◌<◌, ◌≤◌, Bool, false, if◌then◌else◌, List, []}
use Rattle.arrow_buffers.specs.Bits.{is_valid}
use Rattle.arrow_buffers.specs.Packed.{IsPacked}

-- a flag for each row, and no bytes while nothing is null
pub record HasFlags (nulls rows : ℕ) (bitmap : List ℕ) : Type 0 where
  pub none : nulls ≡ 0 → bitmap ≡ []
  pub some : 0 < nulls → IsPacked rows bitmap

-- the flag of one more row, those of the others as they were
pub record PushesFlag (nulls rows : ℕ) (valid : Bool) (old new : List ℕ) : Type 0 where
  pub flags : HasFlags (nulls + (if valid then 0 else 1)) (rows + 1) new
  pub before : (k : ℕ) → k < rows → is_valid new k ≡ is_valid old k
  pub there : is_valid new rows ≡ valid

-- the flags of more rows, each null, those of the others as they were
pub record PushesNullFlags (nulls rows count : ℕ) (old new : List ℕ) : Type 0 where
  pub flags : HasFlags (nulls + count) (rows + count) new
  pub before : (k : ℕ) → k < rows → is_valid new k ≡ is_valid old k
  pub null : (k : ℕ) → rows ≤ k → k < rows + count → is_valid new k ≡ false
