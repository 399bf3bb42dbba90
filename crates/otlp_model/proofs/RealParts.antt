-- Between the test of signed numbers and what it says.
use Rattle.std.proofs.Common.{◌≡◌, ◌^◌, true}
use Rattle.std.specs.Int.{w64}
use Rattle.std.specs.Prelude.{ℤ, pos, negsuc, FitsSigned}
use Rattle.std.proofs.lemmas.Bool.{ltb-true}
use Rattle.otlp_model.specs.Real.{fits_i64}

pub signed_of_real : (z : ℤ) → fits_i64 z ≡ true → FitsSigned w64 z
signed_of_real (pos n) h = record { sfits = ltb-true n (2 ^ 63) h }
signed_of_real (negsuc n) h = record { sfits = ltb-true n (2 ^ 63) h }
