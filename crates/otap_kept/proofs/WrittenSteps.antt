-- One row further, in the loops that write tables.
use Rattle.std.proofs.Common.{◌≡◌, ℕ, suc, ◌+◌, ◌-◌, ◌<◌, ◌≤◌, Bool, true, false, List, [], ◌∷◌, ◌++◌, length, get_or, map, drop, Option, Some, None, refl, sym, ap, ◌∙◌, inl, inr, arith, append_assoc}
use Rattle.std.specs.Prelude.{◌==◌, ◌↔◌, Contains}
use Rattle.std.specs.List.{list_any, slice_index_or}
use Rattle.std.proofs.lemmas.Bool.{cases_Bool, eq-eqb, false≢true}
use Rattle.std.proofs.lemmas.Bool.Decides.{Decides-eqb}
use Rattle.std.proofs.lemmas.List.{at_drop_more}
use Rattle.std.proofs.lemmas.List.Folds.{list_any_at}
use Rattle.otap_cells.specs.declared.profile.Base.{Base}
use Rattle.otap_cells.specs.declared.profile.Base.TheVariants as base
use Rattle.otap_cells.specs.declared.profile.Coding.{Coding}
use Rattle.otap_cells.specs.Bases.{is_id}
use Rattle.otap_cells.specs.Cells.{Cell, IsCellOf, bits, bytes, cell_at, flag, null, number}
use Rattle.otap_cells.specs.Continuing.{goes_on_after}
use Rattle.otap_cells.specs.Ids.{base_of}
use Rattle.otap_groups.specs.declared.entry.ChildEntry.{ChildEntry}
use Rattle.otap_groups.specs.Rows.{id_at}
use Rattle.otap_groups.specs.Stored.{id_cell, stored_parts}
use Rattle.otap_kept.specs.declared.text_pair.TextPair.{TextPair}
use Rattle.otap_kept.specs.Holding.{parent_before, parents_saying, says}
use Rattle.otap_kept.specs.Rows.{own_cells}
use Rattle.otap_kept.specs.Tables.{past_id, stored_main, stored_row}
use Rattle.otap_kept.specs.Writing.{main_at, mains_from, part_at, with_number, with_numbers}

-- ---- numbers among others

contains_any : (ns : List ℕ) (id : ℕ) → Contains ns id → list_any (λ n. n == id) ns ≡ true
contains_any ns id at = list_any_at (λ n. n == id) ns at.0 id at.1 (eq-eqb (get_or ns at.0 id) id at.2)

any_contains : (ns : List ℕ) (id : ℕ) → list_any (λ n. n == id) ns ≡ true → Contains ns id
any_contains [] id is = absurd (false≢true is)
any_contains (n ∷ ns) id is = elim (cases_Bool (n == id)) [
  | inl t ↦ (0, omega arith, (Decides-eqb n id).0 t)
  | inr f ↦
      let more : list_any (λ m. m == id) ns ≡ true = rw f at is in
      let there = any_contains ns id more in (suc there.0, omega (arith, there.1), there.2)
]

pub among_told : (ns : List ℕ) (id : ℕ) (b : Bool) → ((b ≡ true) ↔ Contains ns id) → b ≡ list_any (λ n. n == id) ns
among_told ns id b is = elim (cases_Bool (list_any (λ n. n == id) ns)) [
  | inl t ↦ is.1 (any_contains ns id t) ∙ sym t
  | inr f ↦ elim (cases_Bool b) [
    | inl said ↦ absurd (false≢true (sym f ∙ contains_any ns id (is.0 said)))
    | inr unsaid ↦ unsaid ∙ sym f
  ]
]

-- ---- rows of attributes

pub saying_next : (pair : TextPair) (parents : List (Option ℕ)) (rows : List (List Cell)) (k : ℕ) → k < length parents → k < length rows
    → parents_saying pair (drop k parents) (drop k rows)
    ≡ parent_before (says pair (drop 1 (get_or rows k []))) (get_or parents k None) (parents_saying pair (drop (k + 1) parents) (drop (k + 1) rows))
saying_next pair parents rows k a b =
    at_drop_more (λ ps. parents_saying pair ps (drop k rows)) parents k None a
    ∙ at_drop_more (λ rs. parents_saying pair (get_or parents k None ∷ drop (k + 1) parents) rs) rows k [] b

pub numbers_next : (numbers : List (Option ℕ)) (rows : List (List Cell)) (k : ℕ) → k < length numbers → k < length rows
    → with_numbers (drop k numbers) (drop k rows) ≡ with_number (get_or numbers k None) (get_or rows k []) (with_numbers (drop (k + 1) numbers) (drop (k + 1) rows))
numbers_next numbers rows k a b =
    at_drop_more (λ ns. with_numbers ns (drop k rows)) numbers k None a
    ∙ at_drop_more (λ rs. with_numbers (get_or numbers k None ∷ drop (k + 1) numbers) rs) rows k [] b

-- a row whose parent is null says none, and one without a number isn't written
parent_none : (said : Bool) (parents : List ℕ) → parent_before said None parents ≡ parents
parent_none true parents = refl
parent_none false parents = refl

pub saying_none : (pair : TextPair) (parents : List (Option ℕ)) (rows : List (List Cell)) (k : ℕ) → k < length parents → k < length rows → get_or parents k None ≡ None
    → parents_saying pair (drop k parents) (drop k rows) ≡ parents_saying pair (drop (k + 1) parents) (drop (k + 1) rows)
saying_none pair parents rows k a b none =
    saying_next pair parents rows k a b
    ∙ ap (λ parent. parent_before (says pair (drop 1 (get_or rows k []))) parent (parents_saying pair (drop (k + 1) parents) (drop (k + 1) rows))) none
    ∙ parent_none (says pair (drop 1 (get_or rows k []))) (parents_saying pair (drop (k + 1) parents) (drop (k + 1) rows))

pub numbers_none : (numbers : List (Option ℕ)) (rows : List (List Cell)) (k : ℕ) → k < length numbers → k < length rows → get_or numbers k None ≡ None
    → with_numbers (drop k numbers) (drop k rows) ≡ with_numbers (drop (k + 1) numbers) (drop (k + 1) rows)
numbers_none numbers rows k a b none =
    numbers_next numbers rows k a b
    ∙ ap (λ number. with_number number (get_or rows k []) (with_numbers (drop (k + 1) numbers) (drop (k + 1) rows))) none

-- ---- parts

pub parts_next : (how : Coding) (test : List Cell → List Cell → Bool) (rows : List (List Cell)) (step parent : ℕ) (before : Option (List Cell)) (entries : List ChildEntry)
    (k : ℕ) (d : ChildEntry) → k < length entries
    → stored_parts how test own_cells step parent before (map (part_at rows) (drop k entries))
    ≡ (id_cell step ∷ id_cell ((get_or entries k d).parent - base_of how (goes_on_after test before (drop 2 (slice_index_or rows (get_or entries k d).place []))) parent)
    ∷ drop 2 (slice_index_or rows (get_or entries k d).place []))
    ∷ stored_parts how test own_cells 1 (get_or entries k d).parent (Some (drop 2 (slice_index_or rows (get_or entries k d).place []))) (map (part_at rows) (drop (k + 1) entries))
parts_next how test rows step parent before entries k d within =
    at_drop_more (λ es. stored_parts how test own_cells step parent before (map (part_at rows) es)) entries k d within

-- ---- main rows

-- the cells of a row from the scope's on
pub nine_cells : (row : List Cell) → 9 ≤ length row → drop 5 row ≡ cell_at row 5 ∷ cell_at row 6 ∷ cell_at row 7 ∷ cell_at row 8 ∷ drop 9 row
nine_cells row wide =
    at_drop_more (λ xs. xs) row 5 null (omega (arith, wide))
    ∙ at_drop_more (λ xs. cell_at row 5 ∷ xs) row 6 null (omega (arith, wide))
    ∙ at_drop_more (λ xs. cell_at row 5 ∷ cell_at row 6 ∷ xs) row 7 null (omega (arith, wide))
    ∙ at_drop_more (λ xs. cell_at row 5 ∷ cell_at row 6 ∷ cell_at row 7 ∷ xs) row 8 null (omega (arith, wide))

pub mains_next : (resources scopes : List (Option ℕ)) (rows : List (List Cell)) (own resource scope : ℕ) (places : List ℕ) (n : ℕ) → n < length places
    → stored_main own resource scope (mains_from resources scopes rows n (drop n places))
    ≡ stored_row own resource scope (main_at resources scopes rows n (get_or places n 0))
    ∷ stored_main n (past_id resource (id_at resources n)) (past_id scope (id_at scopes n)) (mains_from resources scopes rows (n + 1) (drop (n + 1) places))
mains_next resources scopes rows own resource scope places n within =
    at_drop_more (λ ps. stored_main own resource scope (mains_from resources scopes rows n ps)) places n 0 within
    ∙ ap (λ m. stored_row own resource scope (main_at resources scopes rows n (get_or places n 0))
    ∷ stored_main n (past_id resource (id_at resources n)) (past_id scope (id_at scopes n)) (mains_from resources scopes rows m (drop (n + 1) places))) (let e : suc n ≡ n + 1 = omega arith in e)

-- one row more, of what is to be written
pub one_more : {A : Type 0} (front grown left more whole : List A) (row : A) → grown ≡ front ++ row ∷ [] → left ≡ row ∷ more → front ++ left ≡ whole → grown ++ more ≡ whole
one_more front grown left more whole row grew is so_far = rw grew (append_assoc front (row ∷ []) more ∙ sym (ap (λ xs. front ++ xs) is) ∙ so_far)

-- ---- ids fit

-- an id of 32 bits fits each column of ids
pub id_fits : (holds : Base) (cell : Cell) → is_id holds ≡ true → IsCellOf (base.Id true) cell → IsCellOf holds cell
id_fits (base.Id w) null is fits = tt
id_fits (base.Id w) (number n) is fits = fits
id_fits (base.Id w) (bits n) is fits = absurd fits
id_fits (base.Id w) (flag b) is fits = absurd (let other : base.Id true ≡ base.Bool = fits in cc other)
id_fits (base.Id w) (bytes part) is fits = absurd fits
id_fits _ cell is fits = absurd cc
