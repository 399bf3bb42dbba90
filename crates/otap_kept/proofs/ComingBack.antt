-- New numbers fall where an id comes back after another one, and nowhere else.
use Rattle.std.proofs.Common.{◌≡◌, ℕ, zero, suc, ◌≤◌, ◌<◌, true, false, List, [], ◌∷◌, get_or, Option, None, Some, map, refl, sym, ◌∙◌, ap, subst, inl, inr, arith}
use Rattle.std.specs.Prelude.{◌⊎◌, nat_eq, nat_le}
use Rattle.std.specs.List.{AllByRecursion}
use Rattle.std.proofs.lemmas.Bool.{and_from, and_parts, cases_Bool, eqb-true, eq-eqb, false≢true}
use Rattle.std.proofs.lemmas.Bool.Decides.{nat_tests}
use Rattle.otlp_model.specs.declared.request.Signal.{Signal}
use Rattle.otlp_model.specs.declared.value.Pair.{Pair}
use Rattle.otap_cells.specs.Ids.{Twice, times}
use Rattle.otap_cells.specs.Tables.{Table}
use Rattle.otap_groups.specs.Rows.{MainRow, id_is}
use Rattle.otap_kept.specs.declared.whose.Whose.{Whose}
use Rattle.otap_kept.specs.Falling.{ComesBack, SomeIdComesBack}
use Rattle.otap_kept.specs.Kept.{is_ordered, kept_rows, rise}
use Rattle.otap_kept.specs.Numbering.{numbers_rise, runs_after}
use Rattle.otap_kept.specs.Numbers.{first_ids, new_number, rise_after}
use Rattle.otap_kept.specs.Rows.{renewed, resource_ids, scope_ids}
use Rattle.otap_kept.proofs.IdRuns.{runs_ordered}
use Rattle.otap_kept.proofs.MainAgain.{rise_is}
use Rattle.otap_kept.proofs.NewNumbers.{HasNumber, all_numbered, one_number}
use Rattle.otap_kept.proofs.Once.{one, times_more}

none_is : (n : ℕ) → None ≡ Some n → ⊥
none_is n e = let s : None ≡ Some n = e in cc s

some_is : (m n : ℕ) → Some m ≡ Some n → m ≡ n
some_is m n e = cc e

-- ---- a number occurs twice, or each once

one_of : (id n : ℕ) → nat_eq id n ≡ true → one (Some id) n ≡ 1
one_of id n t = rw t refl

none_of : (id n : ℕ) → nat_eq id n ≡ false → one (Some id) n ≡ 0
none_of id n f = rw f refl

twice_or_once : (ids : List (Option ℕ)) → Twice ids ⊎ ((n : ℕ) → times n ids ≤ 1)
twice_or_once [] = inr (λ n. omega arith)
twice_or_once (None ∷ ids) = twice_or_once ids
twice_or_once (Some id ∷ ids) = elim (twice_or_once ids) [
  | inl twice ↦ inl (twice.0, (let many = twice.1 in omega (arith, many, times_more twice.0 (Some id) ids)))
  | inr once ↦ elim (cases_Bool (nat_le 1 (times id ids))) [
    | inl there ↦
        let many : 1 ≤ times id ids = grind (arith, nat_tests, there) in
        inl (id, omega (arith, many, one_of id id (eq-eqb id id refl), times_more id (Some id) ids))
    | inr not ↦
        let none : times id ids ≡ 0 = grind (arith, nat_tests, not) in
        inr (λ n. elim (cases_Bool (nat_eq id n)) [
          | inl same ↦
              let gone : times n ids ≡ 0 = subst (λ m. times m ids ≡ 0) (eqb-true id n same) none in
              omega (arith, gone, one_of id n same, times_more n (Some id) ids)
          | inr other ↦ omega (arith, once n, none_of id n other, times_more n (Some id) ids)
        ])
  ]
]

-- ---- a number that runs have twice comes back

record IsThere (n : ℕ) (ids : List (Option ℕ)) : Type 0 where
  place : ℕ
  is : get_or ids place None ≡ Some n

record IsBehind (n : ℕ) (ids : List (Option ℕ)) : Type 0 where
  other : ℕ
  differ : n ≡ other → ⊥
  between : ℕ
  again : ℕ
  after : between < again
  between_is : get_or ids between None ≡ Some other
  again_is : get_or ids again None ≡ Some n

there_later : (n : ℕ) (x : Option ℕ) (ids : List (Option ℕ)) → IsThere n ids → IsThere n (x ∷ ids)
there_later n x ids at = record { place = suc at.place; is = at.is }

behind_later : (n : ℕ) (x : Option ℕ) (ids : List (Option ℕ)) → IsBehind n ids → IsBehind n (x ∷ ids)
behind_later n x ids at = record {
  other = at.other;
  differ = at.differ;
  between = suc at.between;
  again = suc at.again;
  after = (let less = at.after in omega (arith, less));
  between_is = at.between_is;
  again_is = at.again_is;
}

back_later : (x : Option ℕ) (ids : List (Option ℕ)) → ComesBack ids → ComesBack (x ∷ ids)
back_later x ids at = record {
  id = at.id;
  other = at.other;
  differ = at.differ;
  first = suc at.first;
  between = suc at.between;
  again = suc at.again;
  before = (let less = at.before in omega (arith, less));
  after = (let less = at.after in omega (arith, less));
  first_is = at.first_is;
  between_is = at.between_is;
  again_is = at.again_is;
}

-- what is taken after an id
fewer_after : (n id k : ℕ) (rest : List (Option ℕ)) → nat_eq id n ≡ false → k ≤ times n (Some id ∷ rest) → k ≤ times n rest
fewer_after n id k rest other many = omega (arith, many, none_of id n other, times_more n (Some id) rest)

is_there : (n : ℕ) (last : Option ℕ) (ids : List (Option ℕ)) → 1 ≤ times n (runs_after last ids) → IsThere n ids
is_there n last [] many = absurd (omega (arith, many))
is_there n last (None ∷ ids) many = there_later n None ids (is_there n last ids many)
is_there n last (Some id ∷ ids) many = elim (cases_Bool (nat_eq id n)) [
  | inl hits ↦ record { place = 0; is = ap Some (eqb-true id n hits) }
  | inr other ↦ there_later n (Some id) ids (elim (cases_Bool (id_is last (Some id))) [
    | inl same ↦ is_there n last ids (rw same at many)
    | inr new ↦ is_there n (Some id) ids (fewer_after n id 1 (runs_after (Some id) ids) other (rw new at many))
  ])
]

is_behind : (n : ℕ) (ids : List (Option ℕ)) → 1 ≤ times n (runs_after (Some n) ids) → IsBehind n ids
is_behind n [] many = absurd (omega (arith, many))
is_behind n (None ∷ ids) many = behind_later n None ids (is_behind n ids many)
is_behind n (Some id ∷ ids) many = elim (cases_Bool (id_is (Some n) (Some id))) [
  | inl same ↦ behind_later n (Some id) ids (is_behind n ids (rw same at many))
  | inr new ↦
      let differ : n ≡ id → ⊥ = λ e. false≢true (sym new ∙ eq-eqb n id e) in
      let now : 1 ≤ times n (Some id ∷ runs_after (Some id) ids) = rw new at many in
      elim (cases_Bool (nat_eq id n)) [
        | inl hits ↦ absurd (differ (sym (eqb-true id n hits)))
        | inr other ↦
            let at = is_there n (Some id) ids (fewer_after n id 1 (runs_after (Some id) ids) other now) in record {
              other = id;
              differ = differ;
              between = 0;
              again = suc at.place;
              after = omega arith;
              between_is = refl;
              again_is = at.is;
            }
      ]
]

comes_back : (n : ℕ) (last : Option ℕ) (ids : List (Option ℕ)) → 2 ≤ times n (runs_after last ids) → ComesBack ids
comes_back n last [] many = absurd (omega (arith, many))
comes_back n last (None ∷ ids) many = back_later None ids (comes_back n last ids many)
comes_back n last (Some id ∷ ids) many = elim (cases_Bool (id_is last (Some id))) [
  | inl same ↦ back_later (Some id) ids (comes_back n last ids (rw same at many))
  | inr new ↦
      let now : 2 ≤ times n (Some id ∷ runs_after (Some id) ids) = rw new at many in
      elim (cases_Bool (nat_eq id n)) [
        | inl hits ↦
            let more : 1 ≤ times n (runs_after (Some id) ids) = omega (arith, now, one_of id n hits, times_more n (Some id) (runs_after (Some id) ids)) in
            let again : 1 ≤ times id (runs_after (Some id) ids) = subst (λ m. 1 ≤ times m (runs_after (Some id) ids)) (sym (eqb-true id n hits)) more in
            let at = is_behind id ids again in record {
              id = id;
              other = at.other;
              differ = at.differ;
              first = 0;
              between = suc at.between;
              again = suc at.again;
              before = omega arith;
              after = (let less = at.after in omega (arith, less));
              first_is = refl;
              between_is = at.between_is;
              again_is = at.again_is;
            }
        | inr other ↦ back_later (Some id) ids (comes_back n (Some id) ids (fewer_after n id 2 (runs_after (Some id) ids) other now))
      ]
]

-- WHERE NEW NUMBERS FALL an id comes back
pub falls_back : (ids : List (Option ℕ)) → numbers_rise ids ≡ false → ComesBack ids
falls_back ids falls = elim (twice_or_once (runs_after None ids)) [
  | inl twice ↦ comes_back twice.0 None ids (let many = twice.1 in omega (arith, many))
  | inr once ↦
      let first = runs_ordered ids (λ twice. let many = twice.1 in let most = once twice.0 in absurd (omega (arith, many, most))) in
      absurd (false≢true (sym falls ∙ first.1))
]

-- ---- among numbers that don't fall none comes back

not_below : (before : ℕ) (ids : List (Option ℕ)) (k n : ℕ) → rise_after before ids ≡ true → get_or ids k None ≡ Some n → before ≤ n
not_below before [] k n rises at = absurd (none_is n at)
not_below before (None ∷ ids) zero n rises at = absurd (none_is n at)
not_below before (None ∷ ids) (suc k) n rises at = not_below before ids k n rises at
not_below before (Some id ∷ ids) zero n rises at =
    let both = and_parts (nat_le before id) (rise_after id ids) rises in
    let low : before ≤ id = grind (arith, nat_tests, both.0) in
    omega (arith, low, some_is id n at)
not_below before (Some id ∷ ids) (suc k) n rises at =
    let both = and_parts (nat_le before id) (rise_after id ids) rises in
    let low : before ≤ id = grind (arith, nat_tests, both.0) in
    omega (arith, low, not_below id ids k n both.1 at)

no_less : (before : ℕ) (ids : List (Option ℕ)) (i k m n : ℕ) → rise_after before ids ≡ true → i < k → get_or ids i None ≡ Some m → get_or ids k None ≡ Some n → m ≤ n
no_less before [] i k m n rises less at later = absurd (none_is m at)
no_less before (x ∷ ids) i zero m n rises less at later = absurd (omega (arith, less))
no_less before (None ∷ ids) zero (suc k) m n rises less at later = absurd (none_is m at)
no_less before (None ∷ ids) (suc i) (suc k) m n rises less at later = no_less before ids i k m n rises (omega (arith, less)) at later
no_less before (Some id ∷ ids) zero (suc k) m n rises less at later =
    let both = and_parts (nat_le before id) (rise_after id ids) rises in
    omega (arith, some_is id m at, not_below id ids k n both.1 later)
no_less before (Some id ∷ ids) (suc i) (suc k) m n rises less at later =
    let both = and_parts (nat_le before id) (rise_after id ids) rises in
    no_less id ids i k m n both.1 (omega (arith, less)) at later

pub none_back : (before : ℕ) (ids : List (Option ℕ)) → rise_after before ids ≡ true → ComesBack ids → ⊥
none_back before ids rises back =
    let up : back.id ≤ back.other = no_less before ids back.first back.between back.id back.other rises back.before back.first_is back.between_is in
    let down : back.other ≤ back.id = no_less before ids back.between back.again back.other back.id rises back.after back.between_is back.again_is in
    back.differ (omega (arith, up, down))

-- ---- where an id comes back, so does its new number

record IsNumbered (all : List (Option ℕ)) (id : ℕ) : Type 0 where
  number : ℕ
  is : new_number all (Some id) ≡ Some number

numbered_at : (all ids : List (Option ℕ)) → AllByRecursion (HasNumber all) ids → (k id : ℕ) → get_or ids k None ≡ Some id → IsNumbered all id
numbered_at all [] has k id at = absurd (none_is id at)
numbered_at all (x ∷ ids) has zero id at = let n = has.0 id at in record { number = n.0; is = n.1 }
numbered_at all (x ∷ ids) has (suc k) id at = numbered_at all ids has.1 k id at

number_at : (all ids : List (Option ℕ)) (k id n : ℕ) → get_or ids k None ≡ Some id → new_number all (Some id) ≡ Some n → get_or (map (new_number all) ids) k None ≡ Some n
number_at all [] k id n at is = absurd (none_is id at)
number_at all (x ∷ ids) zero id n at is = ap (new_number all) at ∙ is
number_at all (x ∷ ids) (suc k) id n at is = number_at all ids k id n at is

numbers_back : (ids : List (Option ℕ)) → ComesBack ids → ComesBack (map (new_number (first_ids ids)) ids)
numbers_back ids back =
    let all : List (Option ℕ) = first_ids ids in
    let one = numbered_at all ids (all_numbered ids) back.first back.id back.first_is in
    let two = numbered_at all ids (all_numbered ids) back.between back.other back.between_is in record {
      id = one.number;
      other = two.number;
      differ = λ same. back.differ (one_number all back.id back.other two.number (one.is ∙ ap Some same) two.is);
      first = back.first;
      between = back.between;
      again = back.again;
      before = back.before;
      after = back.after;
      first_is = number_at all ids back.first back.id one.number back.first_is one.is;
      between_is = number_at all ids back.between back.other two.number back.between_is two.is;
      again_is = number_at all ids back.again back.id one.number back.again_is one.is;
    }

-- WHERE AN ID COMES BACK new numbers fall
back_falls : (ids : List (Option ℕ)) → ComesBack ids → numbers_rise ids ≡ false
back_falls ids back = elim (cases_Bool (numbers_rise ids)) [
  | inl rises ↦ absurd (none_back 0 (map (new_number (first_ids ids)) ids) rises (numbers_back ids back))
  | inr falls ↦ falls
]

-- ---- main rows

rows_fall : (rows : List MainRow) → rise (renewed rows) ≡ false → SomeIdComesBack rows
rows_fall rows falls = elim (cases_Bool (numbers_rise (resource_ids rows))) [
  | inr resources ↦ inl (falls_back (resource_ids rows) resources)
  | inl resources ↦ elim (cases_Bool (numbers_rise (scope_ids rows))) [
    | inr scopes ↦ inr (falls_back (scope_ids rows) scopes)
    | inl scopes ↦ absurd (false≢true (sym falls ∙ rise_is rows ∙ and_from (numbers_rise (resource_ids rows)) (numbers_rise (scope_ids rows)) resources scopes))
  ]
]

rows_back : (rows : List MainRow) → SomeIdComesBack rows → rise (renewed rows) ≡ false
rows_back rows back = elim (cases_Bool (rise (renewed rows))) [
  | inr falls ↦ falls
  | inl rises ↦
      let both = and_parts (numbers_rise (resource_ids rows)) (numbers_rise (scope_ids rows)) (sym (rise_is rows) ∙ rises) in
      elim back [
        | inl resources ↦ absurd (false≢true (sym (back_falls (resource_ids rows) resources) ∙ both.0))
        | inr scopes ↦ absurd (false≢true (sym (back_falls (scope_ids rows) scopes) ∙ both.1))
      ]
]

pub unordered_back : (of : Signal) (by : Whose) (pair : Pair) (tables : List Table) → is_ordered of by pair tables ≡ false → SomeIdComesBack (kept_rows of by pair tables)
unfolding is_ordered
unordered_back of by pair tables = rows_fall (kept_rows of by pair tables)

pub back_unordered : (of : Signal) (by : Whose) (pair : Pair) (tables : List Table) → SomeIdComesBack (kept_rows of by pair tables) → is_ordered of by pair tables ≡ false
unfolding is_ordered
back_unordered of by pair tables = rows_back (kept_rows of by pair tables)
