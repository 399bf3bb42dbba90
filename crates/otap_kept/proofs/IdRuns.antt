-- Where ids come back after others their new numbers fall, and else their runs are the first of each.
use Rattle.std.proofs.Common.{◌≡◌, ℕ, suc, ◌≤◌, true, false, List, [], ◌∷◌, ◌++◌, length, get_or, Option, None, Some, map, refl, sym, ◌∙◌, ap, subst, inl, inr, arith, append-nil, append_assoc, length-append}
use Rattle.std.specs.Prelude.{nat_eq, nat_le}
use Rattle.std.specs.List.{AllByRecursion}
use Rattle.std.proofs.Math.Seq.{get_or-append_seam}
use Rattle.std.proofs.lemmas.Bool.{and_from, and_parts, cases_Bool, eqb-true, eq-eqb, false≢true}
use Rattle.std.proofs.lemmas.Bool.Decides.{nat_tests}
use Rattle.otap_cells.specs.Ids.{Twice, times}
use Rattle.otap_groups.specs.Rows.{id_is}
use Rattle.otap_kept.specs.Numbering.{IsFirstIds, numbers_rise, runs_after}
use Rattle.otap_kept.specs.Numbers.{first_ids, first_ids_after, new_number, rise_after}
use Rattle.otap_kept.proofs.FirstIds.{first_apart, times_after}
use Rattle.otap_kept.proofs.NewNumbers.{AreApart, HasNumber, all_numbered, hit, is_among, number_at, one_number}
use Rattle.otap_kept.proofs.Once.{once_from, one, times_more}

-- an id that is among others stands there
among_times : (n : ℕ) (xs : List (Option ℕ)) → is_among xs n ≡ true → 1 ≤ times n xs
among_times n [] among = absurd (false≢true among)
among_times n (x ∷ xs) among = elim (cases_Bool (id_is x (Some n))) [
  | inl there ↦
      let is : x ≡ Some n = hit x n there in
      let here : one x n ≡ 1 = ap (λ (o : Option ℕ). one o n) is ∙ (let t : nat_eq n n ≡ true = eq-eqb n n refl in rw t refl) in
      omega (arith, here, times_more n x xs)
  | inr miss ↦ omega (arith, among_times n xs (rw miss at among), times_more n x xs)
]

itself_times : (n : ℕ) (xs : List (Option ℕ)) → times n (Some n ∷ xs) ≡ suc (times n xs)
itself_times n xs = let t : nat_eq n n ≡ true = eq-eqb n n refl in rw t refl

-- the last id that was taken is among those so far
abbrev IsLast : List (Option ℕ) → Option ℕ → Type 0
IsLast known last = (p : ℕ) → last ≡ Some p → is_among known p ≡ true

among_end : (xs : List (Option ℕ)) (id : ℕ) → is_among (xs ++ Some id ∷ []) id ≡ true
among_end [] id = rw (eq-eqb id id refl) refl
among_end (x ∷ xs) id = elim (cases_Bool (id_is x (Some id))) [
  | inl here ↦ rw here refl
  | inr not ↦ rw not (among_end xs id)
]

some_is : (p q : ℕ) → Some p ≡ Some q → p ≡ q
some_is p q e = cc e

-- ids that don't come back: their runs are the first of each
runs_first : (known : List (Option ℕ)) (last : Option ℕ) (ids : List (Option ℕ)) → IsLast known last → ((n : ℕ) → times n (known ++ runs_after last ids) ≤ 1)
    → first_ids_after known ids ≡ known ++ runs_after last ids
runs_first known last [] is once = sym (append-nil known)
runs_first known last (None ∷ ids) is once = runs_first known last ids is once
runs_first known last (Some id ∷ ids) is once = elim (cases_Bool (id_is last (Some id))) [
  | inl same ↦
      let there : is_among known id ≡ true = is id (hit last id same) in
      rw (same, there) (runs_first known last ids is (rw same at once))
  | inr other ↦
      let most : (n : ℕ) → times n (known ++ Some id ∷ runs_after (Some id) ids) ≤ 1 = rw other at once in
      let new : is_among known id ≡ false = elim (cases_Bool (is_among known id)) [
        | inl among ↦ absurd (omega (
          arith,
          most id,
          times_after id known (Some id ∷ runs_after (Some id) ids),
          among_times id known among,
          itself_times id (runs_after (Some id) ids),
        ))
        | inr none ↦ none
      ] in
      let joined : (known ++ Some id ∷ []) ++ runs_after (Some id) ids ≡ known ++ Some id ∷ runs_after (Some id) ids = append_assoc known (Some id ∷ []) (runs_after (Some id) ids) in
      rw (other, new)
      (runs_first (known ++ Some id ∷ []) (Some id) ids (λ p e. subst (λ q. is_among (known ++ Some id ∷ []) q ≡ true) (some_is id p e) (among_end known id))
      (λ n. subst (λ (xs : List (Option ℕ)). times n xs ≤ 1) (sym joined) (most n)) ∙ joined)
]

-- and their new numbers don't fall
rises_up : (all : List (Option ℕ)) → AreApart all → (known : List (Option ℕ)) (last : Option ℕ) (ids : List (Option ℕ)) (before : ℕ) → all ≡ known ++ runs_after last ids
    → before ≤ length known → ((p : ℕ) → last ≡ Some p → get_or all before None ≡ Some p) → rise_after before (map (new_number all) ids) ≡ true
rises_up all apart known last [] before are low at = refl
rises_up all apart known last (None ∷ ids) before are low at = rises_up all apart known last ids before are low at
rises_up all apart known last (Some id ∷ ids) before are low at = elim (cases_Bool (id_is last (Some id))) [
  | inl same ↦
      let number : new_number all (Some id) ≡ Some before = number_at all apart before id (at id (hit last id same)) in
      let here : nat_le before before ≡ true = grind (arith, nat_tests) in
      ap (λ (o : Option ℕ). rise_after before (o ∷ map (new_number all) ids)) number
      ∙ and_from (nat_le before before) (rise_after before (map (new_number all) ids)) here (rises_up all apart known last ids before (rw same at are) low at)
  | inr other ↦
      let place : ℕ = length known in
      let now : all ≡ known ++ Some id ∷ runs_after (Some id) ids = rw other at are in
      let there : get_or all place None ≡ Some id = ap (λ (xs : List (Option ℕ)). get_or xs place None) now ∙ get_or-append_seam known (Some id) (runs_after (Some id) ids) None in
      let number : new_number all (Some id) ≡ Some place = number_at all apart place id there in
      let here : nat_le before place ≡ true = grind (arith, nat_tests, low) in
      ap (λ (o : Option ℕ). rise_after before (o ∷ map (new_number all) ids)) number
      ∙ and_from (nat_le before place) (rise_after place (map (new_number all) ids)) here
      (rises_up all apart (known ++ Some id ∷ []) (Some id) ids place (now ∙ sym (append_assoc known (Some id ∷ []) (runs_after (Some id) ids)))
      (omega (arith, length-append known (Some id ∷ []))) (λ p e. there ∙ e))
]

-- ---- where new numbers don't fall, no id comes back

module _ (all : List (Option ℕ)) where
  -- what is read of the next id
  record Goes (before id : ℕ) (ids : List (Option ℕ)) : Type 0 where
    number : ℕ
    is : new_number all (Some id) ≡ Some number
    low : before ≤ number
    rest : rise_after number (map (new_number all) ids) ≡ true

  goes_on : (before id : ℕ) (ids : List (Option ℕ)) → HasNumber all (Some id) → rise_after before (map (new_number all) (Some id ∷ ids)) ≡ true → Goes before id ids
  goes_on before id ids has rise =
      let n = has id refl in
      let both = and_parts (nat_le before n.0) (rise_after n.0 (map (new_number all) ids)) (sym (ap (λ (o : Option ℕ). rise_after before (o ∷ map (new_number all) ids)) n.1) ∙ rise) in
      record { number = n.0; is = n.1; low = grind (arith, nat_tests, both.0); rest = both.1 }

  none_again : (l : ℕ) (ids : List (Option ℕ)) (before : ℕ) → AllByRecursion (HasNumber all) ids → new_number all (Some l) ≡ Some before
      → rise_after before (map (new_number all) ids) ≡ true → (q m : ℕ) → new_number all (Some q) ≡ Some m → m ≤ before → times q (runs_after (Some l) ids) ≡ 0
  none_again l [] before has last rise q m is low = refl
  none_again l (None ∷ ids) before has last rise q m is low = none_again l ids before has.1 last rise q m is low
  none_again l (Some id ∷ ids) before has last rise q m is low =
      let next = goes_on before id ids has.0 rise in elim (cases_Bool (id_is (Some l) (Some id))) [
        | inl same ↦
            let one_id : l ≡ id = eqb-true l id same in
            let number : next.number ≡ before = some_is next.number before (sym next.is ∙ ap (λ k. new_number all (Some k)) (sym one_id) ∙ last) in
            rw same (none_again l ids before has.1 last (subst (λ n. rise_after n (map (new_number all) ids) ≡ true) number next.rest) q m is low)
        | inr other ↦ rw other (elim (cases_Bool (nat_eq id q)) [
          | inl hits ↦ absurd (
              let same : id ≡ q = eqb-true id q hits in
              let number : next.number ≡ m = some_is next.number m (sym next.is ∙ ap (λ k. new_number all (Some k)) same ∙ is) in
              let there : next.number ≡ before = omega (arith, number, next.low, low) in
              let back : l ≡ id = one_number all l id before last (next.is ∙ ap Some there) in
              false≢true (sym other ∙ eq-eqb l id back)
              )
          | inr differs ↦ rw differs (none_again id ids next.number has.1 next.is next.rest q m is (omega (arith, low, next.low)))
        ])
      ]

  once_each : (last : Option ℕ) (ids : List (Option ℕ)) (before : ℕ) → AllByRecursion (HasNumber all) ids → ((p : ℕ) → last ≡ Some p → new_number all (Some p) ≡ Some before)
      → rise_after before (map (new_number all) ids) ≡ true → (q : ℕ) → times q (runs_after last ids) ≤ 1
  once_each last [] before has at rise q = omega arith
  once_each last (None ∷ ids) before has at rise q = once_each last ids before has.1 at rise q
  once_each last (Some id ∷ ids) before has at rise q =
      let next = goes_on before id ids has.0 rise in elim (cases_Bool (id_is last (Some id))) [
        | inl same ↦
            let number : next.number ≡ before = some_is next.number before (sym next.is ∙ at id (hit last id same)) in
            rw same (once_each last ids before has.1 at (subst (λ n. rise_after n (map (new_number all) ids) ≡ true) number next.rest) q)
        | inr other ↦ rw other (elim (cases_Bool (nat_eq id q)) [
          | inl hits ↦
              let none = none_again id ids next.number has.1 next.is next.rest id next.number next.is (omega arith) in
              let same : id ≡ q = eqb-true id q hits in
              let gone : times q (runs_after (Some id) ids) ≡ 0 = ap (λ k. times k (runs_after (Some id) ids)) (sym same) ∙ none in
              rw hits (omega (arith, gone))
          | inr differs ↦ rw differs (once_each (Some id) ids next.number has.1 (λ p e. ap (λ k. new_number all (Some k)) (some_is p id (sym e)) ∙ next.is) next.rest q)
        ])
      ]

pub runs_ordered : (ids : List (Option ℕ)) → (Twice (runs_after None ids) → ⊥) → IsFirstIds ids (runs_after None ids)
unfolding first_ids
runs_ordered ids once =
    let first : first_ids_after [] ids ≡ runs_after None ids = runs_first [] None ids (λ p e. absurd (let s : None ≡ Some p = e in cc s)) (once_from (runs_after None ids) once) in
    (sym first, rises_up (first_ids_after [] ids) (first_apart ids) [] None ids 0 first (omega arith) (λ p e. absurd (let s : None ≡ Some p = e in cc s)))

pub runs_unordered : (ids : List (Option ℕ)) → Twice (runs_after None ids) → numbers_rise ids ≡ false
runs_unordered ids twice = elim (cases_Bool (numbers_rise ids)) [
  | inl rises ↦
      let most = once_each (first_ids ids) None ids 0 (all_numbered ids) (λ p e. absurd (let s : None ≡ Some p = e in cc s)) rises twice.0 in
      let many = twice.1 in
      absurd (omega (arith, most, many))
  | inr falls ↦ falls
]
