-- Ids and the numbers that encode them, one after the other.
use Rattle.std.proofs.Common.{◌≡◌, ℕ, ◌+◌, ◌≤◌, nat_le, Bool, true, List, [], ◌∷◌, drop, Option, None, Some, refl, sym, ◌∙◌, ap, arith, leb-true, le-leb}
use Rattle.std.proofs.lemmas.Bool.{and_parts}
use Rattle.otap_cells.specs.declared.profile.Coding.{Coding}
use Rattle.otap_cells.specs.Ids.{IdsAfter, RiseAfter, AtMost, base_of, goes_on, takes_null, fits_after, undone_after}
use Rattle.otap_cells.specs.Inside.{stored_after}

-- what is stored for ids that rise encodes them
pub stored_stands : (how : Coding) (last before : ℕ) (rows : List Bool) (ids : List (Option ℕ)) → RiseAfter how before rows ids → AtMost last ids
    → IdsAfter how last before rows (stored_after how before rows ids) ids
stored_stands how last before rows [] rise most = tt
stored_stands how last before rows (None ∷ ids) rise most = (rise.0, stored_stands how last before (drop 1 rows) ids rise.1 most)
stored_stands how last before rows (Some id ∷ ids) rise most =
    (let low : base_of how (goes_on rows) before ≤ id = rise.0 in omega (arith, low), most.0, stored_stands how last id (drop 1 rows) ids rise.1 most.1)

-- numbers that have ids encode those that replace them
pub undone_stands : (how : Coding) (last before : ℕ) (rows : List Bool) (ns : List (Option ℕ)) → fits_after how last before rows ns ≡ true
    → IdsAfter how last before rows ns (undone_after how last before rows ns)
undone_stands how last before rows [] fits = tt
undone_stands how last before rows (None ∷ ns) fits =
    let parts = and_parts (takes_null how) (fits_after how last before (drop 1 rows) ns) fits in
    rw parts.0 (refl, undone_stands how last before (drop 1 rows) ns parts.1)
undone_stands how last before rows (Some n ∷ ns) fits =
    let parts = and_parts (nat_le (base_of how (goes_on rows) before + n) last) (fits_after how last (base_of how (goes_on rows) before + n) (drop 1 rows) ns) fits in
    rw parts.0 (refl, leb-true (base_of how (goes_on rows) before + n) last parts.0, undone_stands how last (base_of how (goes_on rows) before + n) (drop 1 rows) ns parts.1)

-- numbers that encode ids have ids
pub stands_fits : (how : Coding) (last before : ℕ) (rows : List Bool) (ns ids : List (Option ℕ)) → IdsAfter how last before rows ns ids → fits_after how last before rows ns ≡ true
stands_fits how last before rows [] [] is = refl
stands_fits how last before rows (None ∷ ns) (None ∷ ids) is = rw is.0 (stands_fits how last before (drop 1 rows) ns ids is.1)
stands_fits how last before rows (Some n ∷ ns) (Some id ∷ ids) is =
    let low : base_of how (goes_on rows) before + n ≤ last = omega (arith, is.0, is.1) in
    rw (le-leb (base_of how (goes_on rows) before + n) last low, ← is.0) (stands_fits how last id (drop 1 rows) ns ids is.2)
stands_fits how last before rows [] (id ∷ ids) is = absurd is
stands_fits how last before rows (n ∷ ns) [] is = absurd is
stands_fits how last before rows (None ∷ ns) (Some id ∷ ids) is = absurd is
stands_fits how last before rows (Some n ∷ ns) (None ∷ ids) is = absurd is

-- numbers encode one list of ids at most
pub one_list : (how : Coding) (last before : ℕ) (rows : List Bool) (ns xs ys : List (Option ℕ)) → IdsAfter how last before rows ns xs → IdsAfter how last before rows ns ys → xs ≡ ys
one_list how last before rows [] [] [] a b = refl
one_list how last before rows (None ∷ ns) (None ∷ xs) (None ∷ ys) a b = ap (λ ids. None ∷ ids) (one_list how last before (drop 1 rows) ns xs ys a.1 b.1)
one_list how last before rows (Some n ∷ ns) (Some x ∷ xs) (Some y ∷ ys) a b =
    let same : x ≡ y = a.0 ∙ sym b.0 in
    (λ i. Some (same i) ∷ one_list how last y (drop 1 rows) ns xs ys (rw (← same) a.2) b.2 i)
one_list how last before rows [] (x ∷ xs) ys a b = absurd a
one_list how last before rows (n ∷ ns) [] ys a b = absurd a
one_list how last before rows (None ∷ ns) (Some x ∷ xs) ys a b = absurd a
one_list how last before rows (Some n ∷ ns) (None ∷ xs) ys a b = absurd a
one_list how last before rows [] [] (y ∷ ys) a b = absurd b
one_list how last before rows (None ∷ ns) (None ∷ xs) [] a b = absurd b
one_list how last before rows (None ∷ ns) (None ∷ xs) (Some y ∷ ys) a b = absurd b
one_list how last before rows (Some n ∷ ns) (Some x ∷ xs) [] a b = absurd b
one_list how last before rows (Some n ∷ ns) (Some x ∷ xs) (None ∷ ys) a b = absurd b
