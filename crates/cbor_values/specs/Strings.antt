-- Byte strings and texts (RFC 8949, sections 3.1 and 3.2.3).
use Rattle.std.specs.Prelude.{ℕ, ◌+◌, ◌*◌, List, [], ◌∷◌, ◌++◌, length}
use Rattle.cbor_values.specs.Heads.{IsHead}

-- no condition on a string
abbrev pub IsAny : List ℕ → Type 0
IsAny s = Unit {0}

-- the bytes are strings of definite length and one major type, each of that kind, which joined are the second list
pub data Chunks (major : ℕ) (P : List ℕ → Type 0) : List ℕ → List ℕ → Type 0 where
  no_chunk : Chunks major P [] []
  one_chunk : (head part bytes joined : List ℕ) → IsHead major (length part) head → P part
      → Chunks major P bytes joined → Chunks major P (head ++ (part ++ bytes)) (part ++ joined)

-- the bytes are a string of that major type and kind: after a head with its length, or in chunks up to a break
pub data IsString (major : ℕ) (P : List ℕ → Type 0) : List ℕ → List ℕ → Type 0 where
  whole : (head s : List ℕ) → IsHead major (length s) head → P s → IsString major P (head ++ s) s
  chunked : (bytes s : List ℕ) → Chunks major P bytes s
      → IsString major P ((32 * major + 31) ∷ (bytes ++ 255 ∷ [])) s
