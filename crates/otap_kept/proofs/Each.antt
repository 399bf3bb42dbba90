-- What holds of each element, after a sort and of what is kept below parents.
use Rattle.std.proofs.Common.{◌≡◌, ℕ, zero, suc, Bool, List, [], ◌∷◌, Option, None, Some, map, refl, subst, inl, inr, arith}
use Rattle.std.specs.Prelude.{Contains}
use Rattle.std.specs.List.{AllByRecursion}
use Rattle.std.proofs.lemmas.Bool.{cases_Bool}
use Rattle.otap_groups.specs.Flat.{PlacedIn}
use Rattle.otap_groups.specs.Rows.{ChildRow}
use Rattle.otap_attrs.specs.Sorting.{placed_by, sorted_by}
use Rattle.otap_kept.specs.Numbers.{new_number}
use Rattle.otap_kept.specs.Rows.{placed_if, under}

module _ {A : Type 0} (P : A → Type 0) where
  each_placed : (before : A → A → Bool) (x : A) (ys : List A) → P x → AllByRecursion P ys → AllByRecursion P (placed_by before x ys)
  each_placed before x [] one all = (one, tt)
  each_placed before x (y ∷ ys) one all = elim (cases_Bool (before y x)) [
    | inl t ↦ rw t (all.0, each_placed before x ys one all.1)
    | inr f ↦ rw f (one, all)
  ]

  pub each_sorted : (before : A → A → Bool) (xs : List A) → AllByRecursion P xs → AllByRecursion P (sorted_by before xs)
  each_sorted before [] all = tt
  each_sorted before (x ∷ xs) all = each_placed before x (sorted_by before xs) all.0 (each_sorted before xs all.1)

  -- an element that is there has been made of one of which it holds
  pub each_made : {B : Type 0} (f : A → B) (xs : List A) → AllByRecursion P xs → (y : B) → Contains (map f xs) y → (x : A) × P x × (f x ≡ y)
  each_made f [] all y at = absurd (omega (arith, at.1))
  each_made f (x ∷ xs) all y (zero, within, at) = (x, all.0, at)
  each_made f (x ∷ xs) all y (suc k, within, at) = each_made f xs all.1 y (k, omega arith, at)

  pub each_is : (xs : List A) → ((x : A) → Contains xs x → P x) → AllByRecursion P xs
  each_is [] all = tt
  each_is (x ∷ xs) all = (all x (0, omega arith, refl), each_is xs (λ y at. all y (suc at.0, omega (arith, at.1), at.2)))

  pub each_there : (xs : List A) → AllByRecursion P xs → (x : A) → Contains xs x → P x
  each_there xs all x at = by xs all x at where
    by : (xs : List A) → AllByRecursion P xs → (x : A) → Contains xs x → P x
    by [] all x at = absurd (omega (arith, at.1))
    by (y ∷ ys) all x (zero, within, at) = subst P at all.0
    by (y ∷ ys) all x (suc k, within, at) = by ys all.1 x (k, omega arith, at)

-- of rows that are kept below parents: their new parents are numbers of these, and the rows themselves are some of all
module _ (P : PlacedIn ChildRow → Type 0) (ids : List (Option ℕ)) where
  each_if : (row : ChildRow) (rest : List (PlacedIn ChildRow)) (o : Option ℕ) → ((n : ℕ) → o ≡ Some n → P (record { parent = n; part = row }))
      → AllByRecursion P rest → AllByRecursion P (placed_if o row rest)
  each_if row rest None one all = all
  each_if row rest (Some n) one all = (one n refl, all)

  pub each_under : (rows : List ChildRow) → AllByRecursion (λ row. (n : ℕ) → new_number ids row.parent ≡ Some n → P (record { parent = n; part = row })) rows
      → AllByRecursion P (under ids rows)
  each_under [] all = tt
  each_under (row ∷ rows) all = each_if row (under ids rows) (new_number ids row.parent) all.0 (each_under rows all.1)
