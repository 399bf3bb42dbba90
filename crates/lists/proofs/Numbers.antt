-- Numbers: whole eights, numbers in bytes, sums that are capped at 2^63, and signed ones of 32 and of 64 bits.
use Rattle.std.proofs.Common.{◌≡◌, ℕ, ◌+◌, ◌*◌, ◌/◌, ◌%◌, ◌^◌, ◌<◌, min, sum, ℤ, pos, negsuc, List, [], ◌∷◌, length, drop, zero, suc, refl, ap, arith}
use Rattle.std.specs.Prelude.{FitsSigned}
use Rattle.std.specs.Int.{w32, w64, cast_unsigned}
use Rattle.lists.specs.Numbers.{little_numbers}

-- ---- whole eights

pub eights_divided : (n : ℕ) → 8 * n / 8 ≡ n
eights_divided n = omega arith

pub eights_whole : (n : ℕ) → 8 * n % 8 ≡ 0
eights_whole n = omega arith

-- ---- numbers in bytes

pub length-little_numbers : (count : ℕ) (bytes : List ℕ) → length (little_numbers count bytes) ≡ count
length-little_numbers zero bytes = refl
length-little_numbers (suc count) bytes = ap suc (length-little_numbers count (drop 8 bytes))

-- ---- sums that are capped

pub capped_both : (p q n x y : ℕ) → p ≡ min x (2 ^ 63) → q ≡ min y (2 ^ 63) → n ≡ min (sum (p ∷ q ∷ [])) (2 ^ 63) → n ≡ min (x + y) (2 ^ 63)
capped_both p q n x y of_p of_q of_n = omega arith

pub capped_fourth : (a b c p n x : ℕ) → p ≡ min x (2 ^ 63) → n ≡ min (sum (a ∷ b ∷ c ∷ p ∷ [])) (2 ^ 63) → n ≡ min (a + b + c + x) (2 ^ 63)
capped_fourth a b c p n x of_p of_n = omega arith

-- ---- signed numbers

pub wider : (z : ℤ) → FitsSigned w32 z → FitsSigned w64 z
wider (pos n) h = record { sfits = omega (arith, h.sfits) }
wider (negsuc n) h = record { sfits = omega (arith, h.sfits) }

pub unsigned_small : (z : ℤ) → FitsSigned w64 z → cast_unsigned w64 z < 2 ^ 64
unsigned_small (pos n) h = omega (arith, h.sfits)
unsigned_small (negsuc n) h = omega (arith, h.sfits)
