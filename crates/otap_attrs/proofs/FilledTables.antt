-- The tables below a main one, of which those with rows are in a request: what the table of a kind is, and what holds of all.
use Rattle.std.proofs.Common.{◌≡◌, ℕ, true, false, Bool, List, [], ◌∷◌, ◌++◌, length, map, refl, sym, ap, ◌∙◌, subst, arith, inl, inr, append-nil, append_assoc}
use Rattle.std.specs.Prelude.{All, ◌==◌, not, if◌then◌else◌, filter, nat_eq, nat_lt, sum_by}
use Rattle.std.specs.List.{AllByRecursion, IsDistinct, flat_map}
use Rattle.std.proofs.lemmas.Bool.{and_parts, cases_Bool, ltb-false, not-true}
use Rattle.std.proofs.lemmas.Bool.Decides.{nat_tests}
use Rattle.std.proofs.lemmas.List.{map-append}
use Rattle.std.proofs.lemmas.List.Elements.{All-nil, All-cons, All-head, All-tail}
use Rattle.std.proofs.lemmas.List.Sums.{sum_by-cons}
use Rattle.otap_cells.specs.declared.payload.Kind.{Kind}
use Rattle.otap_cells.specs.Cells.{Cell}
use Rattle.otap_cells.specs.Named.{table_named}
use Rattle.otap_cells.specs.Payload.{is_kind, number_of}
use Rattle.otap_cells.specs.Sets.{IsSet, tables_in}
use Rattle.otap_cells.specs.Tables.{Table, profile_table}
use Rattle.otap_cells.specs.Weights.{weight_of_row, weight_of_table, weight_of_tables}
use Rattle.otap_attrs.specs.Tables.{apart, beside_kind, missing, where_rows}
use Rattle.otap_cells.proofs.KindsApart.{same_kind}

abbrev pub filled : List Table → List Table
filled tables = flat_map where_rows tables

-- ---- kinds that differ

abbrev pub numbers : List Table → List ℕ
numbers tables = map (λ (t : Table). number_of t.kind) tables

-- tables as the profile stores them
abbrev pub Formed : List Table → Type 0
Formed [] = Unit {0}
Formed (t ∷ ts) = (t ≡ profile_table t.kind t.rows) × Formed ts

flipped : (n m : ℕ) → (n == m) ≡ false → (m == n) ≡ false
flipped n m differ = grind (arith, nat_tests, differ)

-- ---- the table of a kind

empty : (t : Table) → nat_lt 0 (length t.rows) ≡ false → t.rows ≡ []
empty t none = by t.rows none
  where
    by : (rows : List (List Cell)) → nat_lt 0 (length rows) ≡ false → rows ≡ []
    by [] none = refl
    by (row ∷ rows) none = absurd (omega (arith, ltb-false 0 (length (row ∷ rows)) none))

missing_named : (kind : Kind) (ts : List Table) → missing (number_of kind) (numbers ts) ≡ true → table_named kind (filled ts) ≡ profile_table kind []
missing_named kind [] far = refl
missing_named kind (t ∷ ts) far =
    let both = and_parts (not (number_of kind == number_of t.kind)) (missing (number_of kind) (numbers ts)) far in
    let other : is_kind t.kind kind ≡ false = flipped (number_of kind) (number_of t.kind) (not-true _ both.0) in
    let more = missing_named kind ts both.1 in elim (cases_Bool (nat_lt 0 (length t.rows))) [
      | inl some ↦ rw some (rw other more)
      | inr none ↦ rw none more
    ]

-- tables without rows may be there or not
pub filled_named : (kind : Kind) (ts : List Table) → apart (numbers ts) ≡ true → Formed ts → table_named kind (filled ts) ≡ table_named kind ts
filled_named kind [] far formed = refl
filled_named kind (t ∷ ts) far formed =
    let both = and_parts (missing (number_of t.kind) (numbers ts)) (apart (numbers ts)) far in
    let more = filled_named kind ts both.1 formed.1 in
    let at_last : nat_lt 0 (length t.rows) ≡ false → is_kind t.kind kind ≡ true → table_named kind (filled ts) ≡ t = λ none same.
    let one : t.kind ≡ kind = same_kind t.kind kind same in
    let gone : table_named t.kind (filled ts) ≡ profile_table t.kind [] = missing_named t.kind ts both.0 in
    let is : t ≡ profile_table t.kind [] = formed.0 ∙ ap (profile_table t.kind) (empty t none) in
    ap (λ (k : Kind). table_named k (filled ts)) (sym one) ∙ gone ∙ sym is in
    elim (cases_Bool (nat_lt 0 (length t.rows))) [
      | inl some ↦ rw some (ap (λ (u : Table). if is_kind t.kind kind then t else u) more)
      | inr none ↦ rw none (elim (cases_Bool (is_kind t.kind kind)) [
        | inl same ↦ rw same (at_last none same)
        | inr other ↦ rw other more
      ])
    ]

-- ---- their kinds

abbrev pub Tells : (Kind → Bool) → List Table → Type 0
Tells has [] = Unit {0}
Tells has (t ∷ ts) = (has t.kind ≡ nat_lt 0 (length t.rows)) × Tells has ts

pub kinds_filled : (has : Kind → Bool) (ts : List Table) → Tells has ts → map (λ (t : Table). t.kind) (filled ts) ≡ filter has (map (λ (t : Table). t.kind) ts)
kinds_filled has [] tells = refl
kinds_filled has (t ∷ ts) tells =
    let more = kinds_filled has ts tells.1 in elim (cases_Bool (nat_lt 0 (length t.rows))) [
      | inl some ↦ rw (tells.0 ∙ some, some) (ap (λ (kinds : List Kind). t.kind ∷ kinds) more)
      | inr none ↦ rw (tells.0 ∙ none, none) more
    ]

-- ---- the set of them

missing_filled : (n : ℕ) (ts : List Table) → missing n (numbers ts) ≡ true → missing n (numbers (filled ts)) ≡ true
missing_filled n [] far = refl
missing_filled n (t ∷ ts) far =
    let both = and_parts (not (n == number_of t.kind)) (missing n (numbers ts)) far in
    let more = missing_filled n ts both.1 in elim (cases_Bool (nat_lt 0 (length t.rows))) [
      | inl some ↦ rw some (rw (both.0, more) refl)
      | inr none ↦ rw none more
    ]

apart_filled : (ts : List Table) → apart (numbers ts) ≡ true → apart (numbers (filled ts)) ≡ true
apart_filled [] far = refl
apart_filled (t ∷ ts) far =
    let both = and_parts (missing (number_of t.kind) (numbers ts)) (apart (numbers ts)) far in
    let more = apart_filled ts both.1 in elim (cases_Bool (nat_lt 0 (length t.rows))) [
      | inl some ↦ rw some (rw (missing_filled (number_of t.kind) ts both.0, more) refl)
      | inr none ↦ rw none more
    ]

abbrev pub IsBeside : Kind × Table → Type 0
IsBeside pair = pair.1.kind ≡ pair.0

pub all_beside : (ts : List Table) → All IsBeside (map beside_kind ts)
all_beside [] = All-nil IsBeside
all_beside (t ∷ ts) = All-cons IsBeside (beside_kind t) (map beside_kind ts) refl (all_beside ts)

abbrev numbers_beside : List Table → List ℕ
numbers_beside ts = map (λ (pair : Kind × Table). number_of pair.0) (map beside_kind ts)

distinct : (ts : List Table) → apart (numbers ts) ≡ true → IsDistinct nat_eq (numbers_beside ts)
unfolding IsDistinct
distinct [] far = tt
distinct (t ∷ ts) far =
    let both = and_parts (missing (number_of t.kind) (numbers ts)) (apart (numbers ts)) far in
    (others ts both.0, distinct ts both.1)
  where
    others : (us : List Table) → missing (number_of t.kind) (numbers us) ≡ true → AllByRecursion (λ m. nat_eq (number_of t.kind) m ≡ false) (numbers_beside us)
    others [] far = tt
    others (u ∷ us) far =
        let both = and_parts (not (number_of t.kind == number_of u.kind)) (missing (number_of t.kind) (numbers us)) far in
        (not-true _ both.0, others us both.1)

tables_beside : (ts : List Table) → tables_in (λ t. t) (map beside_kind ts) ≡ ts
tables_beside [] = refl
tables_beside (t ∷ ts) = ap (λ (us : List Table). t ∷ us) (tables_beside ts)

-- what is added to the main table makes the set of all
module _ (main : Table) (ts : List Table) (items : List (Kind × Table)) (are : items ≡ map beside_kind (main ∷ filled ts)) where
  pub filled_tables : tables_in (λ t. t) items ≡ main ∷ filled ts
  filled_tables = ap (tables_in (λ t. t)) are ∙ tables_beside (main ∷ filled ts)

  pub filled_set : apart (numbers (main ∷ ts)) ≡ true → IsSet (λ t. t) items
  filled_set far =
      let both = and_parts (missing (number_of main.kind) (numbers ts)) (apart (numbers ts)) far in
      let all : apart (numbers (main ∷ filled ts)) ≡ true = rw (missing_filled (number_of main.kind) ts both.0, apart_filled ts both.1) refl in
      subst (IsSet (λ t. t)) (sym are) (record { beside = all_beside (main ∷ filled ts); once = distinct (main ∷ filled ts) all })

-- one table further
pub added : (before after all : List (Kind × Table)) (t : Table) (ts : List Table) → after ≡ before ++ map beside_kind (where_rows t)
    → all ≡ after ++ map beside_kind (filled ts) → all ≡ before ++ map beside_kind (filled (t ∷ ts))
added before after all t ts here rest =
    rest ∙ ap (λ xs. xs ++ map beside_kind (filled ts)) here ∙ append_assoc before (map beside_kind (where_rows t)) (map beside_kind (filled ts))
    ∙ ap (λ xs. before ++ xs) (sym (map-append beside_kind (where_rows t) (filled ts)))

pub added_all : (all : List (Kind × Table)) → all ≡ all ++ map beside_kind (filled [])
added_all all = sym (append-nil all)

-- ---- their weight

pub no_weight : (rows : List (List Cell)) → nat_lt 0 (length rows) ≡ false → sum_by weight_of_row rows ≡ 0
no_weight [] none = refl
no_weight (row ∷ rows) none = absurd (omega (arith, ltb-false 0 (length (row ∷ rows)) none))

pub filled_weigh : (ts : List Table) → weight_of_tables (filled ts) ≡ weight_of_tables ts
filled_weigh [] = refl
filled_weigh (t ∷ ts) =
    let more = filled_weigh ts in
    let all = sum_by-cons weight_of_table t ts in elim (cases_Bool (nat_lt 0 (length t.rows))) [
      | inl some ↦ rw some (let a = sum_by-cons weight_of_table t (filled ts) in omega (arith, more, all, a))
      | inr none ↦ rw none (let a = no_weight t.rows none in omega (arith, more, all, a))
    ]

-- ---- what holds of each

pub filled_all : (P : Table → Type 0) (ts : List Table) → All P ts → All P (filled ts)
filled_all P [] all = All-nil P
filled_all P (t ∷ ts) all =
    let more = filled_all P ts (All-tail P t ts all) in elim (cases_Bool (nat_lt 0 (length t.rows))) [
      | inl some ↦ rw some (All-cons P t (filled ts) (All-head P t ts all) more)
      | inr none ↦ rw none more
    ]
