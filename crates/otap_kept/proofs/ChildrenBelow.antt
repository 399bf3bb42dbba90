-- What is found below the new number of a kept parent is what was found below the parent.
use Rattle.std.proofs.Common.{◌≡◌, ℕ, suc, ◌+◌, Bool, true, false, cond, List, [], ◌∷◌, get_or, Option, None, Some, map, refl, sym, ◌∙◌, ap, inl, inr, arith}
use Rattle.std.specs.Prelude.{◌⊎◌, ◌==◌, nat_lt, filter}
use Rattle.std.proofs.lemmas.Bool.{cases_Bool, eqb-true, eq-eqb, false≢true}
use Rattle.std.proofs.lemmas.Bool.Decides.{nat_tests}
use Rattle.otap_cells.specs.Cells.{Cell}
use Rattle.otap_groups.specs.Rows.{ChildRow, id_is, is_child_of}
use Rattle.otap_groups.specs.Children.{child_of_row, children}
use Rattle.otap_groups.specs.Flat.{PlacedIn, part_rows}
use Rattle.otap_attrs.specs.Sorting.{placed_by, sorted_by}
use Rattle.otap_kept.specs.Numbers.{new_number}
use Rattle.otap_kept.specs.Rows.{former_ids, has_lesser_parent, own_cells, parts_under, placed_if, under}
use Rattle.otap_kept.proofs.NewNumbers.{AreApart, found_at, number_at, one_number}

abbrev pub names : ℕ → PlacedIn ChildRow → Bool
names n p = p.parent == n

abbrev pub part_in : PlacedIn ChildRow → ChildRow
part_in p = p.part

-- a row's new parent is n exactly where its parent is the one looked for
abbrev Meets : ℕ → Option ℕ → Bool → Type 0
Meets n o b = ((o ≡ Some n) × (b ≡ true)) ⊎ ((b ≡ false) × ((m : ℕ) → o ≡ Some m → (m == n) ≡ false))

meets : (n : ℕ) (row : ChildRow) (rest : List (PlacedIn ChildRow)) (more : List ChildRow) (o : Option ℕ) (b : Bool) → Meets n o b
    → map part_in (filter (names n) rest) ≡ more → map part_in (filter (names n) (placed_if o row rest)) ≡ cond b (row ∷ more) more
meets n row rest more None b (inl both) ih = absurd (let e : None ≡ Some n = both.0 in cc e)
meets n row rest more None b (inr miss) ih = rw miss.0 ih
meets n row rest more (Some m) b (inl both) ih =
    let e : (m == n) ≡ true = (let s : Some m ≡ Some n = both.0 in eq-eqb m n (cc s)) in
    rw (e, both.1) (ap (λ rows. row ∷ rows) ih)
meets n row rest more (Some m) b (inr miss) ih = rw (miss.1 m refl, miss.0) ih

module _ (ids : List (Option ℕ)) where
  judged : (p n : ℕ) → new_number ids (Some p) ≡ Some n → (parent : Option ℕ) → Meets n (new_number ids parent) (id_is parent (Some p))
  judged p n is None = inr (refl, λ m e. absurd (let s : None ≡ Some m = e in cc s))
  judged p n is (Some q) = elim (cases_Bool (q == p)) [
    | inl t ↦ inl (ap (λ (r : ℕ). new_number ids (Some r)) (eqb-true q p t) ∙ is, t)
    | inr f ↦ inr (f, λ m e. other m e f)
  ]
    where
      other : (m : ℕ) → new_number ids (Some q) ≡ Some m → (q == p) ≡ false → (m == n) ≡ false
      other m e f = elim (cases_Bool (m == n)) [
        | inl t ↦ absurd (let same : q ≡ p = one_number ids q p n (e ∙ ap Some (eqb-true m n t)) is in false≢true (sym f ∙ eq-eqb q p same))
        | inr g ↦ g
      ]

  -- the rows below a parent, in their order
  pub under_found : (p n : ℕ) → new_number ids (Some p) ≡ Some n → (rows : List ChildRow) → map part_in (filter (names n) (under ids rows)) ≡ filter (is_child_of p) rows
  under_found p n is [] = refl
  under_found p n is (row ∷ rows) =
      meets n row (under ids rows) (filter (is_child_of p) rows) (new_number ids row.parent) (id_is row.parent (Some p)) (judged p n is row.parent) (under_found p n is rows)

  -- below an index without an id there are none
  missing : (n : ℕ) → get_or ids n None ≡ None → (parent : Option ℕ) (m : ℕ) → new_number ids parent ≡ Some m → (m == n) ≡ false
  missing n none None m e = absurd (let s : None ≡ Some m = e in cc s)
  missing n none (Some q) m e = elim (cases_Bool (m == n)) [
    | inl t ↦ absurd (
        let x = found_at 0 ids q m e in
        let j : x.j ≡ n = omega (arith, x.is, eqb-true m n t) in
        let s : None ≡ Some q = sym none ∙ ap (λ k. get_or ids k None) (sym j) ∙ x.at in cc s)
    | inr f ↦ f
  ]

  none_here : (n : ℕ) (row : ChildRow) (rest : List (PlacedIn ChildRow)) (o : Option ℕ) → ((m : ℕ) → o ≡ Some m → (m == n) ≡ false)
      → filter (names n) rest ≡ [] → filter (names n) (placed_if o row rest) ≡ []
  none_here n row rest None other ih = ih
  none_here n row rest (Some m) other ih = rw (other m refl) ih

  pub under_none : (n : ℕ) → get_or ids n None ≡ None → (rows : List ChildRow) → filter (names n) (under ids rows) ≡ []
  under_none n none [] = refl
  under_none n none (row ∷ rows) = none_here n row (under ids rows) (new_number ids row.parent) (missing n none row.parent) (under_none n none rows)

-- ---- the sort by parent leaves those of each parent in their order

placed_kept : (n : ℕ) (x : PlacedIn ChildRow) (ys : List (PlacedIn ChildRow)) → filter (names n) (placed_by has_lesser_parent x ys) ≡ filter (names n) (x ∷ ys)
placed_kept n x [] = refl
placed_kept n x (y ∷ ys) = elim (cases_Bool (nat_lt y.parent x.parent)) [
  | inr f ↦ rw f refl
  | inl t ↦ rw (t, placed_kept n x ys) (elim (cases_Bool (x.parent == n)) [
    | inl own ↦
        let low : (y.parent == n) ≡ false = grind (arith, nat_tests, t, own) in
        rw (own, low) refl
    | inr other ↦ rw other refl
  ])
]

pub sorted_kept : (n : ℕ) (ps : List (PlacedIn ChildRow)) → filter (names n) (sorted_by has_lesser_parent ps) ≡ filter (names n) ps
sorted_kept n [] = refl
sorted_kept n (p ∷ ps) = placed_kept n p (sorted_by has_lesser_parent ps) ∙ ap (λ (rows : List (PlacedIn ChildRow)). cond (names n p) (p ∷ rows) rows) (sorted_kept n ps)

pub parts_found : (ids : List (Option ℕ)) (n : ℕ) (rows : List ChildRow) → filter (names n) (parts_under ids rows) ≡ filter (names n) (under ids rows)
unfolding parts_under
parts_found ids n rows = sorted_kept n (under ids rows)

-- ---- with their new ids

module _ {C : Type 0} (item item' : Option ℕ → List Cell → C) (own : ℕ → Option ℕ) where
  -- what is read with a new id is what was read with the former one
  abbrev pub Renews : ℕ → List (PlacedIn ChildRow) → Type 0
  Renews k [] = Unit {0}
  Renews k (p ∷ ps) = ((cells : List Cell) → item' (own k) cells ≡ item p.part.id cells) × Renews (suc k) ps

  pub renewed_children : (k n : ℕ) (ps : List (PlacedIn ChildRow)) → Renews k ps
      → map (child_of_row item') (filter (is_child_of n) (part_rows own own_cells k ps)) ≡ map (child_of_row item) (map part_in (filter (names n) ps))
  renewed_children k n [] renews = refl
  renewed_children k n (p ∷ ps) renews =
      let ih = renewed_children (suc k) n ps renews.1 in
      elim (cases_Bool (p.parent == n)) [
        | inl t ↦ rw t (λ i. renews.0 p.part.cells i ∷ ih i)
        | inr f ↦ rw f ih
      ]

  -- THE CHILDREN of a new number are those of the id that has it
  pub children_by_number : (ids : List (Option ℕ)) (rows : List ChildRow) (ps : List (PlacedIn ChildRow)) → ((n : ℕ) → filter (names n) ps ≡ filter (names n) (under ids rows))
      → Renews 0 ps → (p n : ℕ) → new_number ids (Some p) ≡ Some n
      → children item' (part_rows own own_cells 0 ps) (Some n) ≡ children item rows (Some p)
  children_by_number ids rows ps same renews p n is =
      renewed_children 0 n ps renews ∙ ap (λ (qs : List (PlacedIn ChildRow)). map (child_of_row item) (map part_in qs)) (same n)
      ∙ ap (map (child_of_row item)) (under_found ids p n is rows)

  none_by_number : (ids : List (Option ℕ)) (rows : List ChildRow) (ps : List (PlacedIn ChildRow)) → ((n : ℕ) → filter (names n) ps ≡ filter (names n) (under ids rows))
      → Renews 0 ps → (n : ℕ) → get_or ids n None ≡ None → children item' (part_rows own own_cells 0 ps) (Some n) ≡ []
  none_by_number ids rows ps same renews n none =
      renewed_children 0 n ps renews ∙ ap (λ (qs : List (PlacedIn ChildRow)). map (child_of_row item) (map part_in qs)) (same n ∙ under_none ids n none rows)

  -- the same by index, where no two ids are equal: below an index without an id there are none
  pub children_by_place : (ids : List (Option ℕ)) (rows : List ChildRow) (ps : List (PlacedIn ChildRow)) → ((n : ℕ) → filter (names n) ps ≡ filter (names n) (under ids rows))
      → Renews 0 ps → AreApart ids → (k : ℕ) → children item' (part_rows own own_cells 0 ps) (Some k) ≡ children item rows (get_or ids k None)
  children_by_place ids rows ps same renews apart k = by (get_or ids k None) refl where
    by : (id : Option ℕ) → get_or ids k None ≡ id → children item' (part_rows own own_cells 0 ps) (Some k) ≡ children item rows id
    by None e = none_by_number ids rows ps same renews k e
    by (Some p) e = children_by_number ids rows ps same renews p k (number_at ids apart k p e)

-- parts whose children are found by index are read again with their new ids
module _ {C D : Type 0} (item : List Cell → D → C) (lookup lookup' : Option ℕ → D) where
  renews_from : (n : ℕ) (ps : List (PlacedIn ChildRow)) → ((k : ℕ) → lookup' (Some (n + k)) ≡ lookup (get_or (former_ids ps) k None))
      → Renews (λ id cells. item cells (lookup id)) (λ id cells. item cells (lookup' id)) (λ k. Some k) n ps
  renews_from n [] agree = tt
  renews_from n (p ∷ ps) agree =
      let here : lookup' (Some n) ≡ lookup p.part.id = ap (λ m. lookup' (Some m)) (omega arith) ∙ agree 0 in
      (λ cells. ap (item cells) here, renews_from (suc n) ps (λ k. ap (λ m. lookup' (Some m)) (omega arith) ∙ agree (suc k)))

  pub renews_by_place : (ps : List (PlacedIn ChildRow)) → ((k : ℕ) → lookup' (Some k) ≡ lookup (get_or (former_ids ps) k None))
      → Renews (λ id cells. item cells (lookup id)) (λ id cells. item cells (lookup' id)) (λ k. Some k) 0 ps
  renews_by_place ps agree = renews_from 0 ps (λ k. ap (λ m. lookup' (Some m)) (omega arith) ∙ agree k)
