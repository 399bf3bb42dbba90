-- How often pairs occur.
use Rattle.std.proofs.Common.{◌≡◌, ℕ, ◌+◌, ◌-◌, length, List, [], ◌∷◌, ◌++◌, take, drop, Bool, true, false, cond, refl, sym, ◌∙◌, ap, subst, inl, inr, arith}
use Rattle.std.specs.Prelude.{◌↔◌, ◌⊎◌, IsTrue}
use Rattle.std.specs.List.{All, slice_index_or}
use Rattle.std.proofs.lemmas.Bool.{eqb-true, eq-eqb, false≢true, and_parts, and_from, cases_Bool}
use Rattle.std.proofs.lemmas.List.{take-append-drop, take_rest}
use Rattle.std.proofs.lemmas.List.Elements.{All-head, All-tail}
use Rattle.std.proofs.lemmas.List.Sorted.{IsPermutation-refl, IsPermutation-sym, IsPermutation-cons, IsPermutation-trans, IsPermutation-middle, sum_by-IsPermutation}
use Rattle.std.proofs.lemmas.List.Sums.{sum_by-cons, sum_by-append}
use base.Stored.{Gv, gnil, gnum, gcons}
use Rattle.otlp_model.specs.Each.{Each}
use Rattle.otlp_model.specs.Equal.{code_is, pair_is, occurrences}
use Rattle.otlp_model.specs.Same.{SameOften}
use Rattle.otlp_model.specs.declared.value.Pair.{Pair}
use Rattle.otlp_model.specs.contracts.value.Pair as contract

code_is_true : (a b : Gv) → code_is a b ≡ true → a ≡ b
code_is_true gnil gnil h = refl
code_is_true gnil (gnum n) h = absurd (false≢true h)
code_is_true gnil (gcons c d) h = absurd (false≢true h)
code_is_true (gnum m) gnil h = absurd (false≢true h)
code_is_true (gnum m) (gnum n) h = ap gnum (eqb-true m n h)
code_is_true (gnum m) (gcons c d) h = absurd (false≢true h)
code_is_true (gcons a b) gnil h = absurd (false≢true h)
code_is_true (gcons a b) (gnum n) h = absurd (false≢true h)
code_is_true (gcons a b) (gcons c d) h =
    let parts = and_parts (code_is a c) (code_is b d) h in
    let first : a ≡ c = code_is_true a c parts.0 in
    let second : b ≡ d = code_is_true b d parts.1 in
    cc

code_is_itself : (a : Gv) → code_is a a ≡ true
code_is_itself gnil = refl
code_is_itself (gnum n) = eq-eqb n n refl
code_is_itself (gcons a b) = and_from _ _ (code_is_itself a) (code_is_itself b)

pub pair_same : (p q : Pair) → pair_is p q ≡ true → p ≡ q
unfolding pair_is
pair_same p q h = contract.the_row.coded.inj p q (code_is_true _ _ h)

pub pair_is_itself : (p q : Pair) → p ≡ q → pair_is p q ≡ true
unfolding pair_is
pair_is_itself p q e = subst (λ x. code_is (contract.the_row.coded.code p) (contract.the_row.coded.code x) ≡ true) e (code_is_itself (contract.the_row.coded.code p))

-- a result that says whether two pairs are the same is the test
pub pair_is_told : (r : Bool) (p q : Pair) → ((r ≡ true) ↔ (p ≡ q)) → r ≡ pair_is p q
pair_is_told true p q h = sym (pair_is_itself p q (h.0 refl))
pair_is_told false p q h = by (pair_is p q) (λ e. h.1 (pair_same p q e)) where
  by : (b : Bool) → (b ≡ true → false ≡ true) → false ≡ b
  by true f = f refl
  by false f = refl

pub occurrences-cons : (p x : Pair) (xs : List Pair) → occurrences p (x ∷ xs) ≡ cond (pair_is p x) 1 0 + occurrences p xs
unfolding occurrences
occurrences-cons p x xs = sum_by-cons (λ y. cond (pair_is p y) 1 0) x xs

pub occurrences-append : (p : Pair) (xs ys : List Pair) → occurrences p (xs ++ ys) ≡ occurrences p xs + occurrences p ys
unfolding occurrences
occurrences-append p xs ys = sum_by-append (λ y. cond (pair_is p y) 1 0) xs ys

-- two numbers of each pair that agree at the pairs of a list agree at a pair that occurs in it
agree : (F G : Pair → ℕ) (p : Pair) (xs : List Pair) → All (λ x. F x ≡ G x) xs → (occurrences p xs ≡ 0) ⊎ (F p ≡ G p)
unfolding occurrences
agree F G p [] all = inl refl
agree F G p (x ∷ xs) all = split (cases_Bool (pair_is p x)) (agree F G p xs (All-tail (λ y. F y ≡ G y) x xs all)) where
  split : ((pair_is p x ≡ true) ⊎ (pair_is p x ≡ false)) → ((occurrences p xs ≡ 0) ⊎ (F p ≡ G p)) → (occurrences p (x ∷ xs) ≡ 0) ⊎ (F p ≡ G p)
  split (inl hit) others = inr (subst (λ y. F y ≡ G y) (sym (pair_same p x hit)) (All-head (λ y. F y ≡ G y) x xs all))
  split (inr miss) (inr e) = inr e
  split (inr miss) (inl none) = inl (occurrences-cons p x xs ∙ (rw (miss, none) refl))

pub occurrences-nil : (p : Pair) → occurrences p [] ≡ 0
unfolding occurrences
occurrences-nil p = refl

-- a pair that occurs is somewhere
abbrev IsIn : Pair → List Pair → Type 0
IsIn p ys = (before : List Pair) × (after : List Pair) × (ys ≡ before ++ p ∷ after)

found : (p : Pair) (ys : List Pair) → (occurrences p ys ≡ 0) ⊎ IsIn p ys
found p [] = inl (occurrences-nil p)
found p (y ∷ ys) = by (cases_Bool (pair_is p y)) (found p ys) where
  by : ((pair_is p y ≡ true) ⊎ (pair_is p y ≡ false)) → ((occurrences p ys ≡ 0) ⊎ IsIn p ys) → (occurrences p (y ∷ ys) ≡ 0) ⊎ IsIn p (y ∷ ys)
  by (inl hit) rest = inr ([], ys, ap (λ q. q ∷ ys) (sym (pair_same p y hit)))
  by (inr miss) (inl none) = inl (occurrences-cons p y ys ∙ (rw (miss, none) refl))
  by (inr miss) (inr (before, after, is)) = inr (y ∷ before, after, ap (λ zs. y ∷ zs) is)

one_at_least : (p : Pair) (xs : List Pair) → occurrences p (p ∷ xs) ≡ 1 + occurrences p xs
one_at_least p xs = occurrences-cons p p xs ∙ ap (λ b. cond b 1 0 + occurrences p xs) (pair_is_itself p p refl)

-- no list but the empty one has no pair
none_occur : (ys : List Pair) → ((p : Pair) → occurrences p ys ≡ 0) → ys ≡ []
none_occur [] none = refl
none_occur (y ∷ ys) none = absurd (omega (arith, none y, one_at_least y ys))

-- pairs that occur equally often are the same in some order
pub same_often_from : (xs ys : List Pair) → ((p : Pair) → occurrences p xs ≡ occurrences p ys) → SameOften xs ys
unfolding SameOften
same_often_from [] ys each = subst (λ zs. SameOften [] zs) (sym (none_occur ys (λ p. sym (each p) ∙ occurrences-nil p))) (IsPermutation-refl [])
same_often_from (x ∷ xs) ys each = by (found x ys) (same_often_from xs) where
  by : (occurrences x ys ≡ 0) ⊎ IsIn x ys → ((zs : List Pair) → ((p : Pair) → occurrences p xs ≡ occurrences p zs) → SameOften xs zs) → SameOften (x ∷ xs) ys
  by (inl none) rest = absurd (omega (arith, each x, none, one_at_least x xs))
  by (inr (before, after, is)) rest =
      let without : (p : Pair) → occurrences p xs ≡ occurrences p (before ++ after) =
      λ p. omega (
        arith,
        each p,
        ap (occurrences p) is,
        occurrences-cons p x xs,
        occurrences-cons p x after,
        occurrences-append p before (x ∷ after),
        occurrences-append p before after,
      ) in
      let moved = IsPermutation-sym (before ++ x ∷ after) (x ∷ (before ++ after)) (IsPermutation-middle before x after) in
      subst (λ zs. SameOften (x ∷ xs) zs) (sym is)
      (IsPermutation-trans (x ∷ xs) (x ∷ (before ++ after)) (before ++ x ∷ after) (IsPermutation-cons x xs (before ++ after) (rest (before ++ after) without)) moved)

-- and back
pub same_often_counts : (xs ys : List Pair) → SameOften xs ys → (p : Pair) → occurrences p xs ≡ occurrences p ys
unfolding SameOften occurrences
same_often_counts xs ys same p = sym (sum_by-IsPermutation (λ y. cond (pair_is p y) 1 0) xs ys same)

pub same_often : (xs ys : List Pair) → Each (λ p. occurrences p xs ≡ occurrences p ys) xs
    → Each (λ p. occurrences p xs ≡ occurrences p ys) ys → SameOften xs ys
same_often xs ys in_xs in_ys =
    same_often_from xs ys
    (λ p.
    by p (agree (λ q. occurrences q xs) (λ q. occurrences q ys) p xs in_xs.at)
    (agree (λ q. occurrences q xs) (λ q. occurrences q ys) p ys in_ys.at))
  where
    by : (p : Pair) → (occurrences p xs ≡ 0) ⊎ (occurrences p xs ≡ occurrences p ys)
        → (occurrences p ys ≡ 0) ⊎ (occurrences p xs ≡ occurrences p ys) → occurrences p xs ≡ occurrences p ys
    by p (inr e) _ = e
    by p (inl a) (inr e) = e
    by p (inl a) (inl b) = a ∙ sym b

pub each_as_often : (xs ys wanted : List Pair) → SameOften xs ys → Each (λ p. occurrences p xs ≡ occurrences p ys) wanted
each_as_often xs ys wanted same = record { at = λ k d h. same_often_counts xs ys same (slice_index_or wanted k d) }

-- a common front doesn't count
module _ (n : ℕ) (xs ys : List Pair) (front : take n xs ≡ take n ys) where
  both_counts : (p : Pair)
      → (occurrences p (drop n xs) ≡ occurrences p (drop n ys) → occurrences p xs ≡ occurrences p ys) × (occurrences p xs ≡ occurrences p ys → occurrences p (drop n xs) ≡ occurrences p (drop n ys))
  both_counts p =
      let a = occurrences-append p (take n xs) (drop n xs) in
      let b = occurrences-append p (take n ys) (drop n ys) in
      let f = ap (occurrences p) front in
      let g = ap (occurrences p) (take-append-drop n xs) in
      let h = ap (occurrences p) (take-append-drop n ys) in
      (λ e. omega arith, λ e. omega arith)

  same_after : SameOften (drop n xs) (drop n ys) → SameOften xs ys
  same_after same = same_often_from xs ys (λ p. (both_counts p).0 (same_often_counts (drop n xs) (drop n ys) same p))

  same_without : SameOften xs ys → SameOften (drop n xs) (drop n ys)
  same_without same = same_often_from (drop n xs) (drop n ys) (λ p. (both_counts p).1 (same_often_counts xs ys same p))

-- a result about what follows a common front is one about the whole
pub same_front : (n : ℕ) (xs ys : List Pair) (r : Bool) → take n xs ≡ take n ys
    → (IsTrue r ↔ SameOften (take (length xs - n) (drop n xs)) (take (length ys - n) (drop n ys))) → IsTrue r ↔ SameOften xs ys
same_front n xs ys r front told =
    let left = take_rest xs n in
    let right = take_rest ys n in
    let rest : IsTrue r ↔ SameOften (drop n xs) (drop n ys) =
    subst (λ l. IsTrue r ↔ SameOften l (drop n ys)) left
    (subst (λ l. IsTrue r ↔ SameOften (take (length xs - n) (drop n xs)) l) right told) in
    (λ h. same_after n xs ys front (rest.0 h), λ h. rest.1 (same_without n xs ys front h))
