-- Lists of bytes, which are numbers below 256.
use Rattle.std.proofs.Common.{ℕ, zero, suc, ◌+◌, ◌<◌, List, [], ◌∷◌, ◌++◌, length, get_or, take, drop, All, arith, inl, inr}
use Rattle.std.proofs.lemmas.Bool.{cases_lt}
use Rattle.std.proofs.lemmas.List.{get_or-drop, get_or-take, get_or_past, length-take}

abbrev pub IsBytes : List ℕ → Type 0
IsBytes bytes = (i : ℕ) → get_or bytes i 0 < 256

pub IsBytes-nil : IsBytes []
IsBytes-nil zero = omega arith
IsBytes-nil (suc i) = omega arith

pub IsBytes-drop : (n : ℕ) (bytes : List ℕ) → IsBytes bytes → IsBytes (drop n bytes)
IsBytes-drop n bytes fits i = rw get_or-drop (fits (n + i))

pub IsBytes-take : (n : ℕ) (bytes : List ℕ) → IsBytes bytes → IsBytes (take n bytes)
IsBytes-take n bytes fits i = elim (cases_lt i n) [
  | inl below ↦ rw (get_or-take n bytes i 0 below) (fits i)
  | inr past ↦ rw (get_or_past (take n bytes) i 0 (omega (arith, length-take n bytes))) (omega arith)
]

pub IsBytes-tail : (first : ℕ) (bytes : List ℕ) → IsBytes (first ∷ bytes) → IsBytes bytes
IsBytes-tail first bytes fits i = fits (suc i)

pub IsBytes-suffix : (front rest : List ℕ) → IsBytes (front ++ rest) → IsBytes rest
IsBytes-suffix [] rest fits = fits
IsBytes-suffix (first ∷ front) rest fits = IsBytes-suffix front rest (IsBytes-tail first (front ++ rest) fits)

pub IsBytes-from_all : (bytes : List ℕ) → All (λ byte. byte < 256) bytes → IsBytes bytes
IsBytes-from_all bytes all i = elim (cases_lt i (length bytes)) [
  | inl inside ↦ all i 0 inside
  | inr past ↦ rw (get_or_past bytes i 0 past) (omega arith)
]
