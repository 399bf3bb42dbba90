-- An offset that may lie before the bytes.
use Rattle.std.proofs.Common.{◌≡◌, ℕ, ◌^◌, Option, Some, None, arith, refl, ap}
use Rattle.std.proofs.lemmas.Int.{ints}
use Rattle.std.specs.Prelude.{ℤ, pos, negsuc, ◌<ℤ◌, ok_or, unsigned_abs, Ok, SomeIff}
use Rattle.std.specs.Int.{w64, FitsUnsigned}
use Rattle.flat_tables.specs.declared.fault.FlatFault.TheVariants.{OutOfRange}
use Rattle.flat_tables.specs.Tables.{natural}

-- what `checked_sub_signed` returns, below the greatest number
pub natural_place : (z : ℤ) (r : Option ℕ) → z <ℤ pos (2 ^ 64) → SomeIff r (FitsUnsigned w64 z) (unsigned_abs z) → ok_or r OutOfRange ≡ natural z
natural_place (pos n) (Some x) lt h = ap Ok h.1
natural_place (pos n) None lt h = absurd (h (omega (arith, ints), lt))
natural_place (negsuc n) (Some x) lt h = absurd (omega (arith, ints))
natural_place (negsuc n) None lt h = refl
