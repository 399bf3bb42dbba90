-- Rows of one id that differ, found among neighbours in an index.
use Rattle.std.proofs.Common.{◌≡◌, ℕ, zero, suc, ◌+◌, ◌-◌, ◌<◌, ◌≤◌, Bool, true, false, cond, List, [], ◌∷◌, Option, None, Some, length, get_or, map, refl, sym, ◌∙◌, ap, subst, inl, inr, arith}
use Rattle.std.specs.Prelude.{◌⊎◌, ◌==◌, ◌&&◌, not, Contains, All}
use Rattle.std.specs.List.{range_with_len}
use Rattle.std.specs.List.Sorted.{IsNonDecreasingBy}
use Rattle.std.proofs.lemmas.Bool.Decides.{nat_tests}
use Rattle.std.proofs.lemmas.Bool.{and_from, and_parts, cases_Bool, eq-eqb, eqb-true, false≢true}
use Rattle.std.proofs.lemmas.List.{get_or_default}
use Rattle.std.proofs.lemmas.List.FromFn.{get_or-map-range_with_len, length-map-range_with_len}
use Rattle.otap_cells.specs.Cells.{Cell}
use Rattle.otap_groups.specs.declared.entry.ChildEntry.{ChildEntry}
use Rattle.otap_groups.specs.Rows.{MainRow, cells_are}
use Rattle.otap_groups.specs.Disagree.{DifferBy}
use Rattle.otap_groups.specs.Inside.{blank, clash, entries_from, part}
use Rattle.otap_groups.specs.Found.{of_parent}
use Rattle.otap_groups.proofs.CellTests.{cells_are_themselves, cells_told}

-- ---- which entries there are

abbrev In : ChildEntry → List ChildEntry → Type 0
In x [] = ⊥
In x (y ∷ ys) = (y ≡ x) ⊎ In x ys

in_filter : (parent : ℕ) (x : ChildEntry) (es : List ChildEntry) → In x es → (x.parent == parent) ≡ true → In x (of_parent parent es)
in_filter parent x [] there passes = absurd there
in_filter parent x (e ∷ es) (inl is) passes = let hit : (e.parent == parent) ≡ true = ap (λ (y : ChildEntry). y.parent == parent) is ∙ passes in rw hit (inl is)
in_filter parent x (e ∷ es) (inr there) passes = by (cases_Bool (e.parent == parent)) (in_filter parent x es there passes) where
  by : (((e.parent == parent) ≡ true) ⊎ ((e.parent == parent) ≡ false)) → In x (of_parent parent es) → In x (of_parent parent (e ∷ es))
  by (inl hit) rest = rw hit (inr rest)
  by (inr miss) rest = rw miss rest

in_whole : (parent : ℕ) (x : ChildEntry) (es : List ChildEntry) → In x (of_parent parent es) → In x es
in_whole parent x [] there = absurd there
in_whole parent x (e ∷ es) there = by (e.parent == parent) there (in_whole parent x es) where
  by : (b : Bool) → In x (cond b (e ∷ of_parent parent es) (of_parent parent es)) → (In x (of_parent parent es) → In x es) → (e ≡ x) ⊎ In x es
  by true (inl is) ih = inl is
  by true (inr there) ih = inr (ih there)
  by false there ih = inr (ih there)

record PlaceAmong (x : ChildEntry) (es : List ChildEntry) : Type 0 where
  at : ℕ
  within : at < length es
  is : (d : ChildEntry) → get_or es at d ≡ x

place_of : (x : ChildEntry) (es : List ChildEntry) → In x es → PlaceAmong x es
place_of x [] there = absurd there
place_of x (e ∷ es) (inl is) = record { at = 0; within = omega arith; is = λ d. is }
place_of x (e ∷ es) (inr there) =
    let p = place_of x es there in
    let within : p.at < length es = p.within in
    record { at = suc p.at; within = omega arith; is = λ d. p.is d }

there : (place k parent : ℕ) (ids : List (Option ℕ)) → get_or ids k None ≡ Some parent → In (record { parent = parent; place = place + k }) (entries_from place ids)
there place k parent [] is = absurd (cc)
there place zero parent (None ∷ ids) is = absurd (cc)
there place zero parent (Some q ∷ ids) is =
    let same : q ≡ parent = cc in
    let e : place ≡ place + 0 = omega arith in
    inl (λ i. record { parent = same i; place = e i })
there place (suc k) parent (None ∷ ids) is =
    let e : suc place + k ≡ place + suc k = omega arith in
    subst (λ n. In (record { parent = parent; place = n }) (entries_from (suc place) ids)) e (there (suc place) k parent ids is)
there place (suc k) parent (Some q ∷ ids) is =
    let e : suc place + k ≡ place + suc k = omega arith in
    inr (subst (λ n. In (record { parent = parent; place = n }) (entries_from (suc place) ids)) e (there (suc place) k parent ids is))

clash_yes : (p q : ℕ) (t : Bool) → ((p == q) && not t) ≡ true → (p ≡ q) × (t ≡ false)
clash_yes p q true h = let parts = and_parts (p == q) false h in absurd (false≢true parts.1)
clash_yes p q false h = let parts = and_parts (p == q) true h in (eqb-true p q parts.0, refl)

clash_no : (p q : ℕ) (t : Bool) → ((p == q) && not t) ≡ false → p ≡ q → t ≡ true
clash_no p q true h same = refl
clash_no p q false h same = absurd (false≢true (sym h ∙ and_from (p == q) true (eq-eqb p q same) refl))

module _ (id : MainRow → Option ℕ) (cells : MainRow → List Cell) (row : ℕ → MainRow) where
  -- entries of one parent have equal cells
  abbrev pub Agreeing : List ChildEntry → ℕ → Type 0
  Agreeing es n = (i j : ℕ) (d : ChildEntry) → i ≤ j → j < n → (get_or es i d).parent ≡ (get_or es j d).parent → cells (row (get_or es i d).place) ≡ cells (row (get_or es j d).place)

  pub agreeing_first : (es : List ChildEntry) → Agreeing es 1
  agreeing_first es i j d low within same = let e : i ≡ j = omega arith in ap (λ k. cells (row (get_or es k d).place)) e

  at_last : (es : List ChildEntry) (n i : ℕ) (d : ChildEntry) → IsNonDecreasingBy (λ (e : ChildEntry). e.parent) es → 0 < n → n < length es
      → ((get_or es (n - 1) d).parent ≡ (get_or es n d).parent → cells (row (get_or es (n - 1) d).place) ≡ cells (row (get_or es n d).place))
      → Agreeing es n → i < n → (get_or es i d).parent ≡ (get_or es n d).parent → cells (row (get_or es i d).place) ≡ cells (row (get_or es n d).place)
  at_last es n i d rising some within step agree low same =
      let a : (get_or es i d).parent ≤ (get_or es (n - 1) d).parent = rising i (n - 1) d (omega arith) (omega arith) in
      let b : (get_or es (n - 1) d).parent ≤ (get_or es n d).parent = rising (n - 1) n d (omega arith) within in
      let e : (get_or es (n - 1) d).parent ≡ (get_or es n d).parent = omega (arith, a, b, same) in
      let f : (get_or es i d).parent ≡ (get_or es (n - 1) d).parent = omega (arith, a, b, same) in
      agree i (n - 1) d (omega arith) (omega arith) f ∙ step e

  cases : (i n : ℕ) → i ≤ n → (i < n) ⊎ (i ≡ n)
  cases i n h = grind (arith, nat_tests)

  -- one more entry, which doesn't clash with the one before it
  pub agreeing_more : (es : List ChildEntry) (n : ℕ) → IsNonDecreasingBy (λ (e : ChildEntry). e.parent) es → 1 ≤ n → n < length es
      → clash cells row (get_or es (n - 1) blank) (get_or es n blank) ≡ false → Agreeing es n → Agreeing es (n + 1)
  agreeing_more es n rising some within free agree i j d low below same = outer (cases j n (omega arith)) where
    step : (get_or es (n - 1) d).parent ≡ (get_or es n d).parent → cells (row (get_or es (n - 1) d).place) ≡ cells (row (get_or es n d).place)
    step one =
        let before : get_or es (n - 1) blank ≡ get_or es (n - 1) d = get_or_default es (n - 1) blank d (omega arith) in
        let here : get_or es n blank ≡ get_or es n d = get_or_default es n blank d within in
        let equal : cells_are (cells (row (get_or es (n - 1) blank).place)) (cells (row (get_or es n blank).place)) ≡ true =
        clash_no _ _ _ free (ap (λ (e : ChildEntry). e.parent) before ∙ one ∙ sym (ap (λ (e : ChildEntry). e.parent) here)) in
        sym (ap (λ (e : ChildEntry). cells (row e.place)) before) ∙ cells_told _ _ equal ∙ ap (λ (e : ChildEntry). cells (row e.place)) here

    inner : (j ≡ n) → ((i < n) ⊎ (i ≡ n)) → cells (row (get_or es i d).place) ≡ cells (row (get_or es j d).place)
    inner last (inl earlier) =
        at_last es n i d rising (omega arith) within step agree earlier (same ∙ ap (λ k. (get_or es k d).parent) last) ∙ sym (ap (λ k. cells (row (get_or es k d).place)) last)
    inner last (inr it) = ap (λ k. cells (row (get_or es k d).place)) (it ∙ sym last)

    outer : ((j < n) ⊎ (j ≡ n)) → cells (row (get_or es i d).place) ≡ cells (row (get_or es j d).place)
    outer (inl earlier) = agree i j d low earlier same
    outer (inr last) = inner last (cases i n (omega arith))

  map_map : (ks : List ℕ) → map id (map row ks) ≡ map (λ k. id (row k)) ks
  map_map [] = refl
  map_map (k ∷ ks) = ap (λ xs. id (row k) ∷ xs) (map_map ks)

  pub id_of : (n p : ℕ) (ids : List (Option ℕ)) → ids ≡ map id (part row 0 n) → p < n → get_or ids p None ≡ id (row p)
  id_of n p ids are within =
      ap (λ xs. get_or xs p None) (are ∙ map_map (range_with_len 0 n)) ∙ get_or-map-range_with_len (λ k. id (row k)) 0 n p p None within (omega arith)

  yes_from : (n : ℕ) (a b : ChildEntry) → a.place < n → b.place < n → id (row a.place) ≡ Some a.parent → id (row b.place) ≡ Some b.parent → a.parent ≡ b.parent
      → cells_are (cells (row a.place)) (cells (row b.place)) ≡ false → DifferBy id cells (part row 0 n)
  yes_from n a b in_a in_b named_a named_b same differ = record {
    shared = b.parent;
    a = row a.place;
    b = row b.place;
    first = (a.place, subst (λ m. a.place < m) (sym (length-map-range_with_len row 0 n)) in_a, get_or-map-range_with_len row 0 n a.place a.place (row a.place) in_a (omega arith));
    second = (b.place, subst (λ m. b.place < m) (sym (length-map-range_with_len row 0 n)) in_b, get_or-map-range_with_len row 0 n b.place b.place (row b.place) in_b (omega arith));
    of_first = named_a ∙ ap Some same;
    of_second = named_b;
    differ = differ;
  }

  -- entries that clash are rows that differ
  pub yes_ : (n k : ℕ) (ids : List (Option ℕ)) (es : List ChildEntry) → ids ≡ map id (part row 0 n) → 1 ≤ k → k < length es → All (λ (e : ChildEntry). e.place < n) es
      → All (λ (e : ChildEntry). get_or ids e.place None ≡ Some e.parent) es
      → clash cells row (get_or es (k - 1) blank) (get_or es k blank) ≡ true → DifferBy id cells (part row 0 n)
  yes_ n k ids es are some within below named clashes =
      let told = clash_yes _ _ _ clashes in
      let in_a : (get_or es (k - 1) blank).place < n = below (k - 1) blank (omega arith) in
      let in_b : (get_or es k blank).place < n = below k blank within in
      yes_from n (get_or es (k - 1) blank) (get_or es k blank) in_a in_b
      (sym (id_of n _ ids are in_a) ∙ named (k - 1) blank (omega arith)) (sym (id_of n _ ids are in_b) ∙ named k blank within) told.0 told.1

  -- the place of a row
  placed_row : (n : ℕ) (a : MainRow) (has : Contains (part row 0 n) a) → (has.0 < n) × (row has.0 ≡ a)
  placed_row n a has =
      let within : has.0 < n = subst (λ m. has.0 < m) (length-map-range_with_len row 0 n) has.1 in
      (within, sym (get_or-map-range_with_len row 0 n has.0 has.0 a within (omega arith)) ∙ has.2)

  entry_place : (n p k : ℕ) (a : MainRow) (ids : List (Option ℕ)) (es : List ChildEntry) → ids ≡ map id (part row 0 n)
      → ((parent : ℕ) → of_parent parent es ≡ of_parent parent (entries_from 0 ids)) → k < n → row k ≡ a → id a ≡ Some p → PlaceAmong (record { parent = p; place = k }) es
  entry_place n p k a ids es are same within is named =
      let at : get_or ids k None ≡ Some p = id_of n k ids are within ∙ ap id is ∙ named in
      let e : 0 + k ≡ k = omega arith in
      let inside : In (record { parent = p; place = k }) (entries_from 0 ids) =
      subst (λ m. In (record { parent = p; place = m }) (entries_from 0 ids)) e (there 0 k p ids at) in
      let filtered = in_filter p (record { parent = p; place = k }) (entries_from 0 ids) inside (eq-eqb p p refl) in
      place_of _ es (in_whole p (record { parent = p; place = k }) es (subst (λ xs. In (record { parent = p; place = k }) xs) (sym (same p)) filtered))

  meet : (es : List ChildEntry) (x y : ChildEntry) (i j : ℕ) → Agreeing es (length es) → i ≤ j → j < length es → ((d : ChildEntry) → get_or es i d ≡ x) → ((d : ChildEntry) → get_or es j d ≡ y)
      → x.parent ≡ y.parent → cells (row x.place) ≡ cells (row y.place)
  meet es x y i j agree low within is_x is_y same =
      sym (ap (λ (e : ChildEntry). cells (row e.place)) (is_x x))
      ∙ agree i j x low within (ap (λ (e : ChildEntry). e.parent) (is_x x) ∙ same ∙ sym (ap (λ (e : ChildEntry). e.parent) (is_y x)))
      ∙ ap (λ (e : ChildEntry). cells (row e.place)) (is_y x)

  pub no_ : (n : ℕ) (ids : List (Option ℕ)) (es : List ChildEntry) → ids ≡ map id (part row 0 n)
      → ((parent : ℕ) → of_parent parent es ≡ of_parent parent (entries_from 0 ids)) → Agreeing es (length es) → DifferBy id cells (part row 0 n) → ⊥
  no_ n ids es are same agree h =
      let in_a = placed_row n h.a h.first in
      let in_b = placed_row n h.b h.second in
      let x = entry_place n h.shared h.first.0 h.a ids es are same in_a.0 in_a.1 h.of_first in
      let y = entry_place n h.shared h.second.0 h.b ids es are same in_b.0 in_b.1 h.of_second in
      let equal : cells h.a ≡ cells h.b = sym (ap cells in_a.1) ∙ either x y (total x.at y.at) ∙ ap cells in_b.1 in
      false≢true (sym h.differ ∙ ap (λ xs. cells_are xs (cells h.b)) equal ∙ cells_are_themselves (cells h.b)) where
        total : (i j : ℕ) → (i ≤ j) ⊎ (j ≤ i)
        total i j = grind (arith, nat_tests)

        either : (x : PlaceAmong (record { parent = h.shared; place = h.first.0 }) es) (y : PlaceAmong (record { parent = h.shared; place = h.second.0 }) es)
            → ((x.at ≤ y.at) ⊎ (y.at ≤ x.at)) → cells (row h.first.0) ≡ cells (row h.second.0)
        either x y (inl low) = meet es _ _ x.at y.at agree low y.within x.is y.is refl
        either x y (inr low) = sym (meet es _ _ y.at x.at agree low x.within y.is x.is refl)
