-- Whether a list contains something is decided.
use Rattle.std.proofs.Common.{◌≡◌, ℕ, List, Option, Some, None, refl, ap, subst, inl, inr}
use Rattle.std.specs.Prelude.{Contains, ◌⊎◌}
use Rattle.std.proofs.lemmas.Bool.{cases_eq}
use Rattle.std.proofs.lemmas.Option.{same_Some}
use Rattle.lists.proofs.Every.{some_or_none}

pub contains_or_not : {A : Type 0} (y : A) → ((x : A) → (x ≡ y) ⊎ (x ≡ y → ⊥)) → (xs : List A) → Contains xs y ⊎ (Contains xs y → ⊥)
contains_or_not y decide xs = elim (some_or_none (λ x. x ≡ y) decide xs) [
  | inl found ↦ inl (subst (Contains xs) found.2 found.1)
  | inr none ↦ inr (λ at. none y at refl)
]

is_none : (x : Option ℕ) → (x ≡ None) ⊎ (x ≡ None → ⊥)
is_none None = inl refl
is_none (Some n) = inr (λ e. cc)

is_some_of : (n : ℕ) (x : Option ℕ) → (x ≡ Some n) ⊎ (x ≡ Some n → ⊥)
is_some_of n None = inr (λ e. cc)
is_some_of n (Some m) = elim (cases_eq m n) [
  | inl same ↦ inl (ap (λ k. Some k) same)
  | inr differ ↦ inr (λ e. differ (same_Some m n e))
]

pub null_or_not : (ids : List (Option ℕ)) → Contains ids None ⊎ (Contains ids None → ⊥)
null_or_not ids = contains_or_not None is_none ids

pub number_or_not : (ids : List (Option ℕ)) (n : ℕ) → Contains ids (Some n) ⊎ (Contains ids (Some n) → ⊥)
number_or_not ids n = contains_or_not (Some n) (is_some_of n) ids
