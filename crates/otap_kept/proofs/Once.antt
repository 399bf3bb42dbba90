-- Ids of which none occurs twice are apart, and so are those of kept rows.
use Rattle.std.proofs.Common.{◌≡◌, ℕ, zero, suc, ◌+◌, ◌≤◌, Bool, true, List, [], ◌∷◌, get_or, Option, None, Some, map, refl, ◌∙◌, ap, inl, inr, arith}
use Rattle.std.specs.Prelude.{nat_eq, nat_lt, filter, if◌then◌else◌}
use Rattle.std.proofs.lemmas.Bool.{cases_Bool, eq-eqb}
use Rattle.std.proofs.lemmas.Bool.Decides.{nat_tests}
use Rattle.otap_cells.specs.Ids.{Twice, times}
use Rattle.otap_groups.specs.Flat.{PlacedIn}
use Rattle.otap_groups.specs.Rows.{ChildRow, MainRow}
use Rattle.otap_attrs.specs.Sorting.{placed_by, sorted_by}
use Rattle.otap_kept.specs.Numbers.{new_number}
use Rattle.otap_kept.specs.Rows.{former_ids, has_lesser_parent, own_ids, parts_under, placed_if, under}
use Rattle.otap_kept.proofs.NewNumbers.{AreApart}

abbrev pub one : Option ℕ → ℕ → ℕ
one None n = 0
one (Some id) n = if nat_eq id n then 1 else 0

pub times_more : (n : ℕ) (id : Option ℕ) (ids : List (Option ℕ)) → times n (id ∷ ids) ≡ one id n + times n ids
times_more n None ids = omega arith
times_more n (Some id) ids = elim (cases_Bool (nat_eq id n)) [ inl t ↦ rw t (omega arith) | inr f ↦ rw f (omega arith) ]

there : (ids : List (Option ℕ)) (j p : ℕ) → get_or ids j None ≡ Some p → 1 ≤ times p ids
there [] j p e = absurd (let s : None ≡ Some p = e in cc s)
there (x ∷ ids) zero p e =
    let hit : one x p ≡ 1 = ap (λ (o : Option ℕ). one o p) e ∙ (let t : nat_eq p p ≡ true = eq-eqb p p refl in rw t refl) in
    omega (arith, hit, times_more p x ids)
there (x ∷ ids) (suc j) p e = omega (arith, there ids j p e, times_more p x ids)

pub apart_once : (ids : List (Option ℕ)) → ((n : ℕ) → times n ids ≤ 1) → AreApart ids
apart_once [] once i j p a b = absurd (let s : None ≡ Some p = a in cc s)
apart_once (x ∷ ids) once zero zero p a b = refl
apart_once (x ∷ ids) once zero (suc j) p a b =
    let hit : one x p ≡ 1 = ap (λ (o : Option ℕ). one o p) a ∙ (let t : nat_eq p p ≡ true = eq-eqb p p refl in rw t refl) in
    absurd (omega (arith, hit, times_more p x ids, there ids j p b, once p))
apart_once (x ∷ ids) once (suc i) zero p a b =
    let hit : one x p ≡ 1 = ap (λ (o : Option ℕ). one o p) b ∙ (let t : nat_eq p p ≡ true = eq-eqb p p refl in rw t refl) in
    absurd (omega (arith, hit, times_more p x ids, there ids i p a, once p))
apart_once (x ∷ ids) once (suc i) (suc j) p a b = ap suc (apart_once ids (λ n. omega (arith, once n, times_more n x ids)) i j p a b)

pub once_from : (ids : List (Option ℕ)) → (Twice ids → ⊥) → (n : ℕ) → times n ids ≤ 1
once_from ids not_twice n = elim (cases_Bool (nat_lt 1 (times n ids))) [
  | inl t ↦ absurd (not_twice (n, grind (arith, nat_tests, t)))
  | inr f ↦ grind (arith, nat_tests, f)
]

-- ---- kept rows

pub times_filter : (n : ℕ) (test : MainRow → Bool) (rows : List MainRow) → times n (own_ids (filter test rows)) ≤ times n (own_ids rows)
times_filter n test [] = omega arith
times_filter n test (row ∷ rows) =
    let ih = times_filter n test rows in elim (cases_Bool (test row)) [
      | inl t ↦ rw t (omega (arith, ih, times_more n row.id (own_ids (filter test rows)), times_more n row.id (own_ids rows)))
      | inr f ↦ rw f (omega (arith, ih, times_more n row.id (own_ids rows)))
    ]

abbrev pub child_id : ChildRow → Option ℕ
child_id row = row.id

times_if : (n : ℕ) (o : Option ℕ) (row : ChildRow) (rest : List (PlacedIn ChildRow)) → times n (former_ids (placed_if o row rest)) ≤ one row.id n + times n (former_ids rest)
times_if n None row rest = omega arith
times_if n (Some parent) row rest = omega (arith, times_more n row.id (former_ids rest))

times_under : (n : ℕ) (ids : List (Option ℕ)) (rows : List ChildRow) → times n (former_ids (under ids rows)) ≤ times n (map child_id rows)
times_under n ids [] = omega arith
times_under n ids (row ∷ rows) = omega (arith, times_if n (new_number ids row.parent) row (under ids rows), times_under n ids rows, times_more n row.id (map child_id rows))

times_placed : (n : ℕ) (x : PlacedIn ChildRow) (ys : List (PlacedIn ChildRow))
    → times n (former_ids (placed_by has_lesser_parent x ys)) ≡ times n (former_ids (x ∷ ys))
times_placed n x [] = refl
times_placed n x (y ∷ ys) =
    let ih = times_placed n x ys in elim (cases_Bool (nat_lt y.parent x.parent)) [
      | inr f ↦ rw f refl
      | inl t ↦ rw t (omega (
        arith,
        ih,
        times_more n y.part.id (former_ids (placed_by has_lesser_parent x ys)),
        times_more n x.part.id (former_ids (y ∷ ys)),
        times_more n y.part.id (former_ids ys),
        times_more n x.part.id (former_ids ys),
      ))
    ]

times_sorted : (n : ℕ) (ps : List (PlacedIn ChildRow)) → times n (former_ids (sorted_by has_lesser_parent ps)) ≡ times n (former_ids ps)
times_sorted n [] = refl
times_sorted n (p ∷ ps) =
    omega (arith, times_placed n p (sorted_by has_lesser_parent ps), times_sorted n ps, times_more n p.part.id (former_ids (sorted_by has_lesser_parent ps)), times_more n p.part.id (former_ids ps))

-- THE IDS OF KEPT PARTS are apart where those of all are
pub parts_apart : (ids : List (Option ℕ)) (rows : List ChildRow) → ((n : ℕ) → times n (map child_id rows) ≤ 1) → AreApart (former_ids (parts_under ids rows))
unfolding parts_under
parts_apart ids rows once =
    apart_once (former_ids (sorted_by has_lesser_parent (under ids rows))) (λ n. omega (arith, times_sorted n (under ids rows), times_under n ids rows, once n))
