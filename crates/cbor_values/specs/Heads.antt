-- The heads of items (RFC 8949, section 3).
use Rattle.std.specs.Prelude.{ℕ, ◌+◌, ◌-◌, ◌*◌, ◌^◌, ◌<◌, ◌≤◌, List, [], ◌∷◌}
use Rattle.byteorder.specs.Endian.{big_bytes}

-- how many bytes hold the argument where the additional information is 24 to 27: 1, 2, 4 or 8
abbrev pub argument_len : ℕ → ℕ
argument_len info = 2 ^ (info - 24)

-- A head of this major type with the argument n: the additional information itself where that is below 24, else the
-- number in the bytes after it, the highest first.
pub data IsHead (major n : ℕ) : List ℕ → Type 0 where
  short : n < 24 → IsHead major n ((32 * major + n) ∷ [])
  long : (info : ℕ) → 24 ≤ info → info < 28 → n < 256 ^ argument_len info
      → IsHead major n ((32 * major + info) ∷ big_bytes (argument_len info) n)
