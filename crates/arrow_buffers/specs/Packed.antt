-- Bits that grow, the lowest bit of a byte first: used in an invariant and in private contracts.
use Rattle.std.specs.Prelude.{◌≡◌, ℕ, ◌+◌, ◌/◌, ◌≤◌, ◌==◌, Bool, false, if◌then◌else◌, List, length}
use Rattle.arrow_buffers.specs.Bits.{bit_at}

-- a number of bits in as few bytes as can hold them, the bits after them 0
pub record IsPacked (count : ℕ) (bytes : List ℕ) : Type 0 where
  pub len : length bytes ≡ (count + 7) / 8
  pub spare : (k : ℕ) → count ≤ k → bit_at bytes k ≡ false

-- one more bit after the first count, the others as they were
pub record PushesBit (count : ℕ) (bit : Bool) (old new : List ℕ) : Type 0 where
  pub packed : IsPacked (count + 1) new
  pub bits : (k : ℕ) → bit_at new k ≡ (if k == count then bit else bit_at old k)

-- more bits that are 0, up to a count, the others as they were
pub record PushesZeros (count : ℕ) (old new : List ℕ) : Type 0 where
  pub packed : IsPacked count new
  pub bits : (k : ℕ) → bit_at new k ≡ bit_at old k
