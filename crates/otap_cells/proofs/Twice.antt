-- Numbers that occur twice, and neighbours among sorted numbers.
use Rattle.std.proofs.Common.{◌≡◌, ℕ, zero, suc, ◌+◌, ◌≤◌, ◌<◌, nat_eq, List, [], ◌∷◌, get_or, length, Option, None, Some, if◌then◌else◌, inl, inr, eq-eqb, ne_eqb, refl, sym, ◌∙◌, ap, arith, add-one}
use Rattle.std.specs.Prelude.{sum_by}
use Rattle.std.specs.List.Sorted.{IsPermutation, IsSorted}
use Rattle.std.specs.Ordering.{nat_cmp}
use Rattle.std.proofs.lemmas.List.Sums.{sum_by-cons}
use Rattle.std.proofs.lemmas.List.Sorted.{sum_by-IsPermutation, IsNonDecreasingBy-from_sort}
use Rattle.std.proofs.lemmas.Bool.{cases_eq, cases_Bool, eqb-true}
use Rattle.otap_cells.specs.Ids.{times, Twice}
use Rattle.otap_cells.specs.Inside.{numbers, HasPair}

abbrev one_if : ℕ → ℕ → ℕ
one_if n x = if nat_eq x n then 1 else 0

abbrev often : ℕ → List ℕ → ℕ
often n xs = sum_by (one_if n) xs

often_more : (n x : ℕ) (xs : List ℕ) → often n (x ∷ xs) ≡ one_if n x + often n xs
often_more n x xs = sum_by-cons (one_if n) x xs

times_often : (n : ℕ) (ids : List (Option ℕ)) → times n ids ≡ often n (numbers ids)
times_often n [] = refl
times_often n (None ∷ ids) = times_often n ids
times_often n (Some id ∷ ids) =
    let rest = times_often n ids in
    elim (cases_Bool (nat_eq id n)) [
      | inl hit ↦ rw (often_more n id (numbers ids), hit) (omega (arith, rest))
      | inr miss ↦ rw (often_more n id (numbers ids), miss) (omega (arith, rest))
    ]

-- equal neighbours are one number twice
pair_often : (xs : List ℕ) (k n : ℕ) → k + 1 < length xs → get_or xs k 0 ≡ n → get_or xs (k + 1) 0 ≡ n → 1 < often n xs
pair_often [] k n within first second = absurd (omega arith)
pair_often (x ∷ []) k n within first second = absurd (omega arith)
pair_often (x ∷ y ∷ xs) zero n within first second =
    let one : one_if n x ≡ 1 = rw (first, eq-eqb n n refl) refl in
    let two : one_if n y ≡ 1 = rw (second, eq-eqb n n refl) refl in
    omega (arith, often_more n x (y ∷ xs), often_more n y xs, one, two)
pair_often (x ∷ y ∷ xs) (suc k) n within first second =
    omega (arith, often_more n x (y ∷ xs), pair_often (y ∷ xs) k n (omega arith) first (let e : suc (k + 1) ≡ suc k + 1 = omega arith in ap (λ m. get_or (x ∷ y ∷ xs) m 0) e ∙ second))

-- a number below all others doesn't occur among them
none_below : (xs : List ℕ) (n : ℕ) → ((k : ℕ) → k < length xs → n < get_or xs k 0) → often n xs ≡ 0
none_below [] n below = refl
none_below (x ∷ xs) n below =
    let differs : one_if n x ≡ 0 = rw (ne_eqb x n (λ same. absurd (omega (arith, below 0 (omega arith), same)))) refl in
    omega (arith, often_more n x xs, differs, none_below xs n (λ k within. below (suc k) (omega arith)))

-- numbers that rise occur once
rising_once : (xs : List ℕ) (n : ℕ) → ((k : ℕ) → k + 1 < length xs → get_or xs k 0 < get_or xs (k + 1) 0) → often n xs ≤ 1
rising_once [] n rise = omega arith
rising_once (x ∷ xs) n rise =
    let rest : often n xs ≤ 1 = rising_once xs n (λ k within. let up = rise (suc k) (omega arith) in rw (add-one k) (rw (add-one (suc k)) at up)) in
    elim (cases_Bool (nat_eq x n)) [
      | inl hit ↦
          let same : x ≡ n = eqb-true x n hit in
          let none : often n xs ≡ 0 = none_below xs n (λ k within. omega (arith, same, above k within)) in
          rw (often_more n x xs, hit) (omega (arith, none))
      | inr miss ↦ rw (often_more n x xs, miss) (omega (arith, rest))
    ]
  where
    above : (k : ℕ) → k < length xs → x < get_or xs k 0
    above zero within = rise 0 (omega arith)
    above (suc k) within =
        let up : get_or xs k 0 < get_or xs (suc k) 0 = rw (add-one (suc k)) at (rise (suc k) (omega arith)) in
        omega (arith, above k (omega arith), up)

module _ (ids : List (Option ℕ)) (sorted : List ℕ) (same : IsPermutation (numbers ids) sorted) where
  told : (n : ℕ) → times n ids ≡ often n sorted
  told n = times_often n ids ∙ sym (sum_by-IsPermutation (one_if n) (numbers ids) sorted same)

  pub pair_twice : HasPair sorted → Twice ids
  pair_twice pair = (get_or sorted pair.0 0, rw (told (get_or sorted pair.0 0)) (pair_often sorted pair.0 (get_or sorted pair.0 0) pair.1 refl (sym pair.2)))

  pub no_pair_twice : IsSorted nat_cmp sorted → (HasPair sorted → ⊥) → Twice ids → ⊥
  no_pair_twice order none twice =
      let once = rising_once sorted twice.0 (λ k within. elim (cases_eq (get_or sorted k 0) (get_or sorted (k + 1) 0)) [
        | inl equal ↦ absurd (none (k, within, equal))
        | inr differ ↦ let up : get_or sorted k 0 ≤ get_or sorted (k + 1) 0 = IsNonDecreasingBy-from_sort (λ n. n) sorted order k (k + 1) 0 (omega arith) within in omega (arith, up, differ)
      ]) in
      let many = twice.1 in absurd (omega (arith, told twice.0, once, many))
