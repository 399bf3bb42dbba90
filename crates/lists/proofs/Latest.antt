-- The list from its latest element on that passes a test, and the latest element of all.
use Rattle.std.proofs.Common.{◌≡◌, Bool, true, false, List, [], ◌∷◌, ◌++◌, Option, Some, None, refl, sym, ap, ◌∙◌, ◌⊎◌, inl, inr}
use Rattle.std.specs.Prelude.{if◌then◌else◌, ◌||◌}
use Rattle.std.specs.List.{list_any}
use Rattle.std.proofs.lemmas.List.Folds.{list_any-append}
use Rattle.std.proofs.lemmas.Bool.{cases_Bool, false≢true}
use Rattle.lists.specs.Since.{since, last_after}

-- all of a list in which nothing passes
pub since-none : {A : Type 0} (p : A → Bool) (xs : List A) → list_any p xs ≡ false → since p xs ≡ xs
since-none p [] none = refl
since-none {A} p (x ∷ xs) none = rest (cases_Bool (list_any p xs))
  where
    passes : (b : Bool) → (b || true) ≡ true
    passes true = refl
    passes false = refl

    rest : (list_any p xs ≡ true) ⊎ (list_any p xs ≡ false) → since p (x ∷ xs) ≡ x ∷ xs
    rest (inl some) = absurd (false≢true (sym none ∙ ap (λ b. p x || b) some ∙ passes (p x)))
    rest (inr none') = rw none' refl

-- what comes after the latest element stays after it, and a later element that passes begins anew
pub since-append : {A : Type 0} (p : A → Bool) (xs ys : List A) → since p (xs ++ ys) ≡ (if list_any p ys then since p ys else since p xs ++ ys)
since-append {A} p [] ys = by_test (cases_Bool (list_any p ys))
  where
    by_test : (list_any p ys ≡ true) ⊎ (list_any p ys ≡ false) → since p ys ≡ (if list_any p ys then since p ys else ys)
    by_test (inl some) = rw some refl
    by_test (inr none) = rw (none, since-none p ys none) refl
since-append {A} p (x ∷ xs) ys = by_test (cases_Bool (list_any p ys)) (cases_Bool (list_any p xs)) (since-append p xs ys)
  where
    any : list_any p (xs ++ ys) ≡ (list_any p xs || list_any p ys)
    any = list_any-append p xs ys

    by_test : (list_any p ys ≡ true) ⊎ (list_any p ys ≡ false) → (list_any p xs ≡ true) ⊎ (list_any p xs ≡ false)
        → since p (xs ++ ys) ≡ (if list_any p ys then since p ys else since p xs ++ ys)
        → (if list_any p (xs ++ ys) then since p (xs ++ ys) else x ∷ (xs ++ ys)) ≡ (if list_any p ys then since p ys else (if list_any p xs then since p xs else x ∷ xs) ++ ys)
    by_test (inl some) (inl before) rest = rw (any, rest, some, before) refl
    by_test (inl some) (inr none) rest = rw (any, rest, some, none) refl
    by_test (inr none) (inl before) rest = rw (any, rest, none, before) refl
    by_test (inr none) (inr none') rest = rw (any, none, none') refl

-- ---- the last element

pub last_after-push : {A : Type 0} (last : Option A) (xs : List A) (x : A) → last_after last (xs ++ x ∷ []) ≡ Some x
last_after-push last [] x = refl
last_after-push last (y ∷ ys) x = last_after-push (Some y) ys x

-- there is one where there are elements
pub last_after-some : {A : Type 0} (x : A) (xs : List A) → (y : A) × (last_after (Some x) xs ≡ Some y)
last_after-some x [] = (x, refl)
last_after-some x (y ∷ ys) = last_after-some y ys

pub last_after-none : {A : Type 0} (xs : List A) → last_after None xs ≡ None → xs ≡ []
last_after-none [] none = refl
last_after-none {A} (x ∷ xs) none = let some : (y : A) × (last_after (Some x) xs ≡ Some y) = last_after-some x xs in absurd (cc (none, some.1))
