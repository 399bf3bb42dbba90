-- The first of each id: none is there twice, and each is one of the ids.
use Rattle.std.proofs.Common.{◌≡◌, ℕ, zero, suc, ◌+◌, ◌≤◌, ◌<◌, false, List, [], ◌∷◌, ◌++◌, length, get_or, Option, None, Some, refl, sym, ◌∙◌, subst, inl, inr, arith}
use Rattle.std.specs.Prelude.{Contains, nat_eq}
use Rattle.std.specs.List.{AllByRecursion}
use Rattle.std.proofs.lemmas.Bool.{cases_Bool, eqb-true, false≢true}
use Rattle.otap_cells.specs.Ids.{times}
use Rattle.otap_groups.specs.Rows.{id_is}
use Rattle.otap_kept.specs.Numbers.{first_ids, first_ids_after, new_number, with_id}
use Rattle.otap_kept.proofs.Each.{each_is}
use Rattle.otap_kept.proofs.NewNumbers.{AreApart, is_among, number_at}
use Rattle.otap_kept.proofs.Once.{apart_once, one, times_more}

-- ---- none twice

pub times_after : (n : ℕ) (xs ys : List (Option ℕ)) → times n (xs ++ ys) ≡ times n xs + times n ys
times_after n [] ys = omega arith
times_after n (x ∷ xs) ys = omega (arith, times_after n xs ys, times_more n x (xs ++ ys), times_more n x xs)

-- an id that isn't among others occurs 0 times among them
pub not_there : (n : ℕ) (xs : List (Option ℕ)) → is_among xs n ≡ false → times n xs ≡ 0
not_there n [] none = refl
not_there n (x ∷ xs) none = elim (cases_Bool (id_is x (Some n))) [
  | inl hit ↦ absurd (false≢true (sym none ∙ rw hit refl))
  | inr miss ↦
      let more = not_there n xs (rw miss at none) in
      omega (arith, other x miss, more, times_more n x xs)
]
  where
    other : (x : Option ℕ) → id_is x (Some n) ≡ false → one x n ≡ 0
    other None miss = refl
    other (Some m) miss = rw miss refl

once_with : (n : ℕ) (known : List (Option ℕ)) (id : Option ℕ) → times n known ≤ 1 → times n (with_id known id) ≤ 1
once_with n known None most = most
once_with n known (Some id) most = elim (cases_Bool (is_among known id)) [
  | inl there ↦ rw there most
  | inr new ↦ rw new (elim (cases_Bool (nat_eq id n)) [
    | inl same ↦
        let is : one (Some id) n ≡ 1 = rw same refl in
        let none : times n known ≡ 0 = subst (λ m. times m known ≡ 0) (eqb-true id n same) (not_there id known new) in
        omega (arith, is, none, times_after n known (Some id ∷ []), times_more n (Some id) [])
    | inr other ↦
        let is : one (Some id) n ≡ 0 = rw other refl in
        omega (arith, is, most, times_after n known (Some id ∷ []), times_more n (Some id) [])
  ])
]

once_after : (n : ℕ) (known ids : List (Option ℕ)) → times n known ≤ 1 → times n (first_ids_after known ids) ≤ 1
once_after n known [] most = most
once_after n known (id ∷ ids) most = once_after n (with_id known id) ids (once_with n known id most)

pub first_apart : (ids : List (Option ℕ)) → AreApart (first_ids ids)
unfolding first_ids
first_apart ids = apart_once (first_ids_after [] ids) (λ n. once_after n [] ids (omega arith))

-- ---- each is one of the ids

abbrev IsOne : List (Option ℕ) → Option ℕ → Type 0
IsOne all id = (p : ℕ) × (id ≡ Some p) × Contains all (Some p)

at_end : (P : Option ℕ → Type 0) (known : List (Option ℕ)) (id : Option ℕ) → AllByRecursion P known → P id → AllByRecursion P (known ++ id ∷ [])
at_end P [] id all is = (is, tt)
at_end P (x ∷ xs) id all is = (all.0, at_end P xs id all.1 is)

one_with : (all known : List (Option ℕ)) (id : Option ℕ) → AllByRecursion (IsOne all) known → Contains all id → AllByRecursion (IsOne all) (with_id known id)
one_with all known None are there = are
one_with all known (Some id) are there = elim (cases_Bool (is_among known id)) [
  | inl t ↦ rw t are
  | inr new ↦ rw new (at_end (IsOne all) known (Some id) are (id, refl, there))
]

one_after : (all known ids : List (Option ℕ)) → AllByRecursion (IsOne all) known → AllByRecursion (Contains all) ids → AllByRecursion (IsOne all) (first_ids_after known ids)
one_after all known [] are there = are
one_after all known (id ∷ ids) are there = one_after all (with_id known id) ids (one_with all known id are there.0) there.1

all_there : (ids : List (Option ℕ)) → AllByRecursion (Contains ids) ids
all_there ids = each_is (Contains ids) ids (λ id at. at)

one_at : (all ids : List (Option ℕ)) → AllByRecursion (IsOne all) ids → (n : ℕ) → n < length ids → IsOne all (get_or ids n None)
one_at all [] are n within = absurd (omega arith)
one_at all (id ∷ ids) are zero within = are.0
one_at all (id ∷ ids) are (suc n) within = one_at all ids are.1 n (omega arith)

-- EACH INDEX among the first ids is the number of one of the ids
pub number_there : (ids : List (Option ℕ)) (n : ℕ) → n < length (first_ids ids) → (p : ℕ) × Contains ids (Some p) × (new_number (first_ids ids) (Some p) ≡ Some n)
unfolding first_ids
number_there ids n within =
    let here = one_at ids (first_ids_after [] ids) (one_after ids [] ids tt (all_there ids)) n within in
    (here.0, here.2, number_at (first_ids_after [] ids) (first_apart ids) n here.0 here.1)
