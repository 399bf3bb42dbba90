-- Different ids have different new numbers, and each kept id has one.
use Rattle.std.proofs.Common.{◌≡◌, ℕ, zero, suc, ◌+◌, Bool, true, false, List, [], ◌∷◌, ◌++◌, get_or, Option, None, Some, refl, sym, ◌∙◌, ap, subst, inl, inr, arith}
use Rattle.std.specs.Prelude.{if◌then◌else◌}
use Rattle.std.proofs.lemmas.Bool.{cases_Bool, eqb-true, eq-eqb, false≢true}
use Rattle.otap_groups.specs.Rows.{id_is}
use Rattle.std.specs.List.{AllByRecursion, list_any}
use Rattle.otap_kept.specs.Numbers.{first_ids, first_ids_after, new_number, place_from, with_id}

some_same : (m n : ℕ) → Some m ≡ Some n → m ≡ n
some_same m n e = cc e

-- an id that is found is the one at its index
pub hit : (other : Option ℕ) (id : ℕ) → id_is other (Some id) ≡ true → other ≡ Some id
hit None id t = absurd (false≢true t)
hit (Some n) id t = ap Some (eqb-true n id t)

itself : (other : Option ℕ) (id : ℕ) → other ≡ Some id → id_is other (Some id) ≡ true
itself other id e = ap (λ (o : Option ℕ). id_is o (Some id)) e ∙ eq-eqb id id refl

pub record StandsAt (ids : List (Option ℕ)) (n id k : ℕ) : Type 0 where
  pub j : ℕ
  pub is : k ≡ n + j
  pub at : get_or ids j None ≡ Some id

pub found_at : (n : ℕ) (ids : List (Option ℕ)) (id k : ℕ) → place_from n ids id ≡ Some k → StandsAt ids n id k
found_at n [] id k e = absurd (let s : None ≡ Some k = e in cc s)
found_at n (other ∷ ids) id k e = by (id_is other (Some id)) refl e (found_at (suc n) ids id k) where
  by : (b : Bool) → id_is other (Some id) ≡ b → (if b then Some n else place_from (suc n) ids id) ≡ Some k
      → (place_from (suc n) ids id ≡ Some k → StandsAt ids (suc n) id k) → StandsAt (other ∷ ids) n id k
  by true t e later = record { j = 0; is = (let s : Some n ≡ Some k = e in omega (arith, some_same n k s)); at = hit other id t }
  by false f e later = let more : StandsAt ids (suc n) id k = later e in record { j = suc more.j; is = omega (arith, more.is); at = more.at }

-- two ids don't have the same number
pub one_number : (ids : List (Option ℕ)) (p q k : ℕ) → new_number ids (Some p) ≡ Some k → new_number ids (Some q) ≡ Some k → p ≡ q
one_number ids p q k a b =
    let x = found_at 0 ids p k a in
    let y = found_at 0 ids q k b in
    let e : x.j ≡ y.j = omega (arith, x.is, y.is) in
    some_same p q (sym x.at ∙ ap (λ j. get_or ids j None) e ∙ y.at)

-- ids of which no two are equal; null may be anywhere
abbrev pub AreApart : List (Option ℕ) → Type 0
AreApart ids = (i j p : ℕ) → get_or ids i None ≡ Some p → get_or ids j None ≡ Some p → i ≡ j

placed_apart : (n : ℕ) (ids : List (Option ℕ)) → AreApart ids → (k p : ℕ) → get_or ids k None ≡ Some p → place_from n ids p ≡ Some (n + k)
placed_apart n [] apart k p e = absurd (let s : None ≡ Some p = e in cc s)
placed_apart n (other ∷ ids) apart zero p e = rw (itself other p e) (ap Some (omega arith))
placed_apart n (other ∷ ids) apart (suc k) p e =
    let later : place_from (suc n) ids p ≡ Some (suc n + k) = placed_apart (suc n) ids (λ i j q a b. let s : suc i ≡ suc j = apart (suc i) (suc j) q a b in omega (arith, s)) k p e in
    elim (cases_Bool (id_is other (Some p))) [
      | inl t ↦ absurd (let s : zero ≡ suc k = apart zero (suc k) p (hit other p t) e in omega (arith, s))
      | inr f ↦ rw f (later ∙ ap Some (omega arith))
    ]

-- the number of an id that occurs once is its index
pub number_at : (ids : List (Option ℕ)) → AreApart ids → (k p : ℕ) → get_or ids k None ≡ Some p → new_number ids (Some p) ≡ Some k
number_at ids apart k p e = placed_apart 0 ids apart k p e ∙ ap Some (omega arith)

-- ---- ids where they first occur

abbrev pub is_among : List (Option ℕ) → ℕ → Bool
is_among ids id = list_any (λ other. id_is other (Some id)) ids

-- an id among others has a number
pub has_number : (n : ℕ) (ids : List (Option ℕ)) (id : ℕ) → is_among ids id ≡ true → (k : ℕ) × (place_from n ids id ≡ Some k)
has_number n [] id t = absurd (false≢true t)
has_number n (other ∷ ids) id t = elim (cases_Bool (id_is other (Some id))) [
  | inl here ↦ (n, rw here refl)
  | inr not ↦
      let later : (k : ℕ) × (place_from (suc n) ids id ≡ Some k) = has_number (suc n) ids id (rw not at t) in
      (later.0, rw not later.1)
]

among_more : (xs ys : List (Option ℕ)) (id : ℕ) → is_among xs id ≡ true → is_among (xs ++ ys) id ≡ true
among_more [] ys id t = absurd (false≢true t)
among_more (x ∷ xs) ys id t = elim (cases_Bool (id_is x (Some id))) [
  | inl here ↦ rw here refl
  | inr not ↦ rw not (among_more xs ys id (rw not at t))
]

among_last : (xs : List (Option ℕ)) (id : ℕ) → is_among (xs ++ Some id ∷ []) id ≡ true
among_last [] id = rw (eq-eqb id id refl) refl
among_last (x ∷ xs) id = elim (cases_Bool (id_is x (Some id))) [
  | inl here ↦ rw here refl
  | inr not ↦ rw not (among_last xs id)
]

kept_with : (known : List (Option ℕ)) (next : Option ℕ) (id : ℕ) → is_among known id ≡ true → is_among (with_id known next) id ≡ true
kept_with known None id t = t
kept_with known (Some n) id t = elim (cases_Bool (is_among known n)) [
  | inl there ↦ rw there t
  | inr new ↦ rw new (among_more known (Some n ∷ []) id t)
]

itself_with : (known : List (Option ℕ)) (id : ℕ) → is_among (with_id known (Some id)) id ≡ true
itself_with known id = elim (cases_Bool (is_among known id)) [
  | inl there ↦ rw there there
  | inr new ↦ rw new (among_last known id)
]

kept_first : (known ids : List (Option ℕ)) (id : ℕ) → is_among known id ≡ true → is_among (first_ids_after known ids) id ≡ true
kept_first known [] id t = t
kept_first known (next ∷ ids) id t = kept_first (with_id known next) ids id (kept_with known next id t)

-- each of these ids has a number
abbrev pub HasNumber : List (Option ℕ) → Option ℕ → Type 0
HasNumber ids id = (p : ℕ) → id ≡ Some p → (k : ℕ) × (new_number ids (Some p) ≡ Some k)

number_first : (known : List (Option ℕ)) (ids : List (Option ℕ)) → AllByRecursion (HasNumber (first_ids_after known ids)) ids
number_first known [] = tt
number_first known (id ∷ ids) = (
  λ p e. has_number 0 (first_ids_after (with_id known id) ids) p
      (kept_first (with_id known id) ids p (subst (λ (o : Option ℕ). is_among (with_id known o) p ≡ true) (sym e) (itself_with known p))),
  number_first (with_id known id) ids,
)

pub all_numbered : (ids : List (Option ℕ)) → AllByRecursion (HasNumber (first_ids ids)) ids
unfolding first_ids
all_numbered ids = number_first [] ids
