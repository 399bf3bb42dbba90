-- Where a value is found among others.
use Rattle.std.proofs.Common.{◌≡◌, ℕ, ◌+◌, Bool, true, false, List, [], ◌∷◌, ◌++◌, length, position, Option, Some, None, true≢false, refl, sym, ap, ◌∙◌, arith}
use Rattle.std.specs.Prelude.{bytes_eq, is_some}
use Rattle.std.specs.List.{list_any, position_from}
use Rattle.std.proofs.lemmas.Iterator.Adapters.{position_from-zero}
use Rattle.std.proofs.lemmas.Bool.{false≢true}
use Rattle.std.proofs.lemmas.Cmp.{nat_list_eq_equiv}

module _ {X : Type 0} (test : X → Bool) where
  none_from : (i : ℕ) (xs : List X) → position_from test i xs ≡ None → list_any test xs ≡ false
  none_from i [] is = refl
  none_from i (x ∷ xs) is = by (test x) refl (none_from (i + 1) xs)
    where
      by : (b : Bool) → test x ≡ b → (position_from test (i + 1) xs ≡ None → list_any test xs ≡ false) → list_any test (x ∷ xs) ≡ false
      by true here rest = absurd (let wrong : Some i ≡ None = rw here at is in cc)
      by false here rest = rw here (rest (rw here at is))

  -- a value that isn't found is not there
  pub not_there : (xs : List X) → position test xs ≡ None → list_any test xs ≡ false
  not_there xs is = none_from 0 xs (sym (position_from-zero test xs) ∙ is)

  some_from : (i n : ℕ) (xs : List X) → position_from test i xs ≡ Some n → list_any test xs ≡ true
  some_from i n [] is = absurd (cc)
  some_from i n (x ∷ xs) is = by (test x) refl (some_from (i + 1) n xs)
    where
      by : (b : Bool) → test x ≡ b → (position_from test (i + 1) xs ≡ Some n → list_any test xs ≡ true) → list_any test (x ∷ xs) ≡ true
      by true here rest = rw here refl
      by false here rest = rw here (rest (rw here at is))

  -- one that is found is there
  pub there : (n : ℕ) (xs : List X) → position test xs ≡ Some n → list_any test xs ≡ true
  there n xs is = some_from 0 n xs (sym (position_from-zero test xs) ∙ is)

  last_from : (i : ℕ) (xs : List X) (x : X) → list_any test xs ≡ false → test x ≡ true → position_from test i (xs ++ x ∷ []) ≡ Some (i + length xs)
  last_from i [] x none is = rw is (ap (λ (n : ℕ). Some n) (omega arith))
  last_from i (y ∷ xs) x none is = by (test y) refl (last_from (i + 1) xs x)
    where
      by : (b : Bool) → test y ≡ b → (list_any test xs ≡ false → test x ≡ true → position_from test (i + 1) (xs ++ x ∷ []) ≡ Some (i + 1 + length xs))
          → position_from test i (y ∷ xs ++ x ∷ []) ≡ Some (i + length (y ∷ xs))
      by true here rest = absurd (let wrong : true ≡ false = rw here at none in cc)
      by false here rest = rw here (rest (rw here at none) is ∙ ap (λ (n : ℕ). Some n) (omega arith))

-- a value that is put last is found there
pub last_place : (values : List (List ℕ)) (value : List ℕ) → list_any (bytes_eq value) values ≡ false → position (bytes_eq value) (values ++ value ∷ []) ≡ Some (length values)
last_place values value none =
    position_from-zero (bytes_eq value) (values ++ value ∷ []) ∙ last_from (bytes_eq value) 0 values value none (nat_list_eq_equiv.refl value) ∙ ap (λ (n : ℕ). Some n) (omega arith)

pub found_there : (found : Option ℕ) (values : List (List ℕ)) (value : List ℕ) → found ≡ position (bytes_eq value) values → is_some found ≡ true → list_any (bytes_eq value) values ≡ true
found_there None values value is some = absurd (false≢true some)
found_there (Some n) values value is some = there (bytes_eq value) n values (sym is)

pub none_found : (found : Option ℕ) (values : List (List ℕ)) (value : List ℕ) → found ≡ position (bytes_eq value) values → is_some found ≡ false → list_any (bytes_eq value) values ≡ false
none_found None values value is none = not_there (bytes_eq value) values (sym is)
none_found (Some n) values value is none = absurd (true≢false none)
