-- Running ids: each comes once, and there is one for each row. Those of items and of parts run.
use Rattle.std.proofs.Common.{◌≡◌, ℕ, zero, suc, ◌+◌, ◌≤◌, ◌<◌, List, [], ◌∷◌, Option, Some, length, map, refl, ap, subst, arith, inl, inr, eq-eqb, ne_eqb}
use Rattle.std.specs.Prelude.{Contains}
use Rattle.std.proofs.lemmas.Bool.{cases_eq}
use Rattle.otap_cells.specs.Cells.{Cell}
use Rattle.otap_cells.specs.Ids.{Twice, times}
use Rattle.otap_groups.specs.Children.{numbered}
use Rattle.otap_groups.specs.Flat.{FlatIn, PlacedIn, numbered_rows, part_rows}
use Rattle.otap_groups.specs.Rows.{ChildRow, MainRow}

pub later : {A : Type 0} (x : A) (xs : List A) (y : A) → Contains xs y → Contains (x ∷ xs) y
later x xs y at = (suc at.0, omega (arith, at.1), at.2)

-- an id for each element, from a number on
abbrev pub running : {A : Type 0} → ℕ → List A → List (Option ℕ)
running n [] = []
running n (x ∷ xs) = Some n ∷ running (suc n) xs

module _ {A : Type 0} where
  none_before : (m n : ℕ) (xs : List A) → m < n → times m (running n xs) ≡ 0
  none_before m n [] low = refl
  none_before m n (x ∷ xs) low = rw (ne_eqb n m (λ e. omega (arith, e, low))) (none_before m (suc n) xs (omega arith))

  once_from : (m n : ℕ) (xs : List A) → times m (running n xs) ≤ 1
  once_from m n [] = omega arith
  once_from m n (x ∷ xs) = elim (cases_eq n m) [
    | inl same ↦ rw (eq-eqb n m same) (let none = none_before m (suc n) xs (omega (arith, same)) in omega (arith, none))
    | inr differ ↦ rw (ne_eqb n m differ) (once_from m (suc n) xs)
  ]

  pub running_once : (n : ℕ) (xs : List A) → Twice (running n xs) → ⊥
  running_once n xs twice = let most = once_from twice.0 n xs in let many = twice.1 in omega (arith, most, many)

  there_from : (n p : ℕ) (xs : List A) → p < length xs → Contains (running n xs) (Some (n + p))
  there_from n p [] within = absurd (omega arith)
  there_from n zero (x ∷ xs) within = (0, omega arith, ap Some (omega arith))
  there_from n (suc p) (x ∷ xs) within =
      later (Some n) (running (suc n) xs) (Some (n + suc p)) (subst (λ m. Contains (running (suc n) xs) (Some m)) (omega arith) (there_from (suc n) p xs (omega arith)))

  pub running_there : (p : ℕ) (xs : List A) → p < length xs → Contains (running 0 xs) (Some p)
  running_there p xs within = subst (λ m. Contains (running 0 xs) (Some m)) (omega arith) (there_from 0 p xs within)

pub item_ids : {I : Type 0} (cells_of : I → List Cell) (n : ℕ) (fs : List (FlatIn I)) → map (λ (row : MainRow). row.id) (numbered_rows cells_of n fs) ≡ running n fs
item_ids cells_of n [] = refl
item_ids cells_of n (f ∷ fs) = ap (λ ids. Some n ∷ ids) (item_ids cells_of (suc n) fs)

pub part_ids : {C : Type 0} (cells_of : C → List Cell) (n : ℕ) (ps : List (PlacedIn C)) → map (λ (row : ChildRow). row.id) (part_rows numbered cells_of n ps) ≡ running n ps
part_ids cells_of n [] = refl
part_ids cells_of n (p ∷ ps) = ap (λ ids. Some n ∷ ids) (part_ids cells_of (suc n) ps)
