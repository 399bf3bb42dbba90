-- Values come back from the cells that are written for them, and what such cells weigh.
use Rattle.std.proofs.Common.{◌≡◌, ℕ, ℤ, pos, negsuc, Bool, true, false, List, [], ◌∷◌, refl, arith, inl, inr, length}
use Rattle.std.proofs.lemmas.Bool.Decides.{nat_tests}
use Rattle.std.proofs.lemmas.Bool.{cases_Bool}
use Rattle.otap_cells.specs.Cells.{bytes_in, nat_in}
use Rattle.otap_cells.specs.Scalars.{text_cell, number_cell, int_cell, bits_cell, flag_cell, int_in, bits_in, flag_in}
use Rattle.otap_cells.specs.Weights.{cell_weight}
use Rattle.std.specs.Prelude.{◌==◌}

pub text_back : (text : List ℕ) → bytes_in (text_cell text) ≡ text
text_back [] = refl
text_back (byte ∷ more) = refl

pub number_back : (n : ℕ) → nat_in (number_cell n) ≡ n
number_back n = grind (arith, nat_tests)

int_back_pos : (n : ℕ) → int_in (number_cell n) ≡ pos n
int_back_pos n = grind (arith, nat_tests)

pub int_back : (n : ℤ) → int_in (int_cell n) ≡ n
int_back (pos n) = int_back_pos n
int_back (negsuc n) = refl

pub bits_back : (n : ℕ) → bits_in (bits_cell n) ≡ n
bits_back n = grind (arith, nat_tests)

pub flag_back : (b : Bool) → flag_in (flag_cell b) ≡ b
flag_back true = refl
flag_back false = refl

-- ---- what they weigh

pub text_weighs : (text : List ℕ) → cell_weight (text_cell text) ≡ length text
text_weighs [] = refl
text_weighs (byte ∷ more) = refl

pub number_weighs : (n : ℕ) → cell_weight (number_cell n) ≡ 0
number_weighs n = elim (cases_Bool (n == 0)) [ inl t ↦ rw t refl | inr f ↦ rw f refl ]

pub int_weighs_nothing : (z : ℤ) → cell_weight (int_cell z) ≡ 0
int_weighs_nothing (pos n) = number_weighs n
int_weighs_nothing (negsuc n) = refl

pub bits_weigh : (n : ℕ) → cell_weight (bits_cell n) ≡ 0
bits_weigh n = elim (cases_Bool (n == 0)) [ inl t ↦ rw t refl | inr f ↦ rw f refl ]

pub flag_weighs : (b : Bool) → cell_weight (flag_cell b) ≡ 0
flag_weighs true = refl
flag_weighs false = refl
