-- Base 128 varints (protobuf encoding, "Base 128 Varints").
use Rattle.std.specs.Prelude.{◌≡◌, ℕ, zero, suc, ◌+◌, ◌*◌, ◌/◌, ◌%◌, ◌<◌, ◌≤◌, List, [], ◌∷◌, length, slice_index, nat_lt, if◌then◌else◌}

-- the number in the low seven bits of each byte, the lowest seven first
abbrev pub sevens : List ℕ → ℕ
sevens [] = 0
sevens (byte ∷ bytes) = byte % 128 + 128 * sevens bytes

-- the highest bit of each of the first n bytes says that another byte follows
abbrev pub IsFollowed : List ℕ → ℕ → Type 0
IsFollowed bytes n = (i : ℕ) → i < n → 128 ≤ slice_index bytes i

-- the bytes are a varint of n: one to ten of them, of which only the last says that it is the last,
-- and a tenth is at most 1, so that n fits 64 bits
pub record IsVarint (bytes : List ℕ) (n : ℕ) : Type 0 where
  pub last : ℕ
  pub size : length bytes ≡ last + 1
  pub at_most_ten : last < 10
  pub goes_on : IsFollowed bytes last
  pub ends : slice_index bytes last < 128
  pub tenth : slice_index bytes 9 ≤ 1
  pub value : n ≡ sevens bytes

-- the bytes end before a varint does
pub record IsCutVarint (bytes : List ℕ) : Type 0 where
  pub short : length bytes < 10
  pub goes_on : IsFollowed bytes (length bytes)

-- the bytes begin with what would be a varint of more than 64 bits
pub record IsLongVarint (bytes : List ℕ) : Type 0 where
  pub ten : 10 ≤ length bytes
  pub goes_on : IsFollowed bytes 9
  pub tenth : 1 < slice_index bytes 9

-- the shortest varint; the first number only bounds the recursion
abbrev pub varint_in : ℕ → ℕ → List ℕ
varint_in zero n = []
varint_in (suc most) n = if nat_lt n 128 then n ∷ [] else (n % 128 + 128) ∷ varint_in most (n / 128)

-- the shortest varint of n
unfoldable pub varint : ℕ → List ℕ
varint n = varint_in (suc n) n
