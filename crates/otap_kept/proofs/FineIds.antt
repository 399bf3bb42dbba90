-- Nothing is wrong with the ids of what is kept.
use Rattle.std.proofs.Common.{◌≡◌, ℕ, zero, suc, ◌≤◌, ◌<◌, ◌^◌, Bool, true, false, List, [], ◌∷◌, length, drop, Option, None, Some, map, refl, sym, ◌∙◌, ap, subst, inl, inr, arith}
use Rattle.std.specs.Prelude.{◌⊎◌, Contains}
use Rattle.std.specs.List.{AllByRecursion}
use Rattle.std.proofs.lemmas.Bool.{false≢true}
use Rattle.otap_cells.specs.declared.payload.Kind.{Kind}
use Rattle.otap_cells.specs.declared.profile.Coding.{Coding}
use Rattle.otap_cells.specs.Cells.{Cell}
use Rattle.otap_cells.specs.ColumnIds.{HasNullParent, id_in, stored_in}
use Rattle.otap_cells.specs.Columns.{coding_at}
use Rattle.otap_cells.specs.Continuing.{again_of, continues_in, has_attributes}
use Rattle.otap_cells.specs.GivenIds.{HasIds}
use Rattle.otap_cells.specs.Ids.{IdsAfter, takes_null}
use Rattle.otap_cells.specs.Named.{table_named}
use Rattle.otap_cells.specs.Tables.{Table, coding_in, column_in, greatest_in}
use Rattle.otap_cells.proofs.AttributeColumns.{attribute_width}
use Rattle.otap_groups.specs.Children.{numbered}
use Rattle.otap_groups.specs.Flat.{PlacedIn, part_rows}
use Rattle.otap_groups.specs.Rows.{ChildRow, MainRow}
use Rattle.otap_groups.specs.Stored.{stored_parts}
use Rattle.otap_groups.proofs.RunningIds.{running, running_once}
use Rattle.otap_groups.proofs.StoredRows.{coding_is}
use Rattle.otap_attrs.specs.declared.refusal.RowRefusal.{RowRefusal}
use Rattle.otap_attrs.specs.Sorting.{coded_rows}
use Rattle.otap_attrs.proofs.AttributeRows.{parents_run}
use Rattle.otap_checks.specs.Given.{AreGiven, IsGiven}
use Rattle.otap_checks.specs.IdDefects.{OrphanOf, WrongIn}
use Rattle.otap_checks.specs.Links.{attributes_link, parts}
use Rattle.otap_checks.specs.Written.{IsPartKind}
use Rattle.otap_checks.proofs.GivenColumns.{nothing_wrong, one_given, own_once}
use Rattle.otap_checks.proofs.PairParents.{attribute_ids}
use Rattle.otap_kept.specs.Numbers.{new_number}
use Rattle.otap_kept.specs.Rows.{has_lesser_parent, own_cells, own_ids, parts_under, renewed_from, under}
use Rattle.otap_kept.specs.Tables.{kept_attributes, kept_parts, row_of_placed}
use Rattle.otap_kept.proofs.AttributeTables.{HasParents, kept_parents}
use Rattle.otap_kept.proofs.Each.{each_sorted, each_under}
use Rattle.otap_kept.proofs.MainTables.{number_low, under_low}
use Rattle.otap_kept.proofs.PartTables.{kept_part_ids, kept_part_parents, parts_few, parts_low, parts_rising}

-- ---- stored numbers that aren't null

no_null : (how : Coding) (last before : ℕ) (rows : List Bool) (ns ids : List (Option ℕ)) → takes_null how ≡ false → IdsAfter how last before rows ns ids → Contains ns None → ⊥
no_null how last before rows [] ids runs is at = absurd (omega (arith, at.1))
no_null how last before rows (None ∷ ns) (None ∷ ids) runs is at = absurd (false≢true (sym runs ∙ is.0))
no_null how last before rows (None ∷ ns) (Some id ∷ ids) runs is at = absurd is
no_null how last before rows (None ∷ ns) [] runs is at = absurd is
no_null how last before rows (Some n ∷ ns) (None ∷ ids) runs is at = absurd is
no_null how last before rows (Some n ∷ ns) [] runs is at = absurd is
no_null how last before rows (Some n ∷ ns) (Some id ∷ ids) runs is (zero, within, at) = absurd (let s : Some n ≡ None = at in cc s)
no_null how last before rows (Some n ∷ ns) (Some id ∷ ids) runs is (suc k, within, at) = no_null how last id (drop 1 rows) ns ids runs is.2 (k, omega arith, at)

parents_there : (how : Coding) (test : List Cell → List Cell → Bool) (step parent : ℕ) (before : Option (List Cell)) (ps : List (PlacedIn ChildRow))
    → Contains (map id_in (column_in (stored_parts how test own_cells step parent before ps) 1)) None → ⊥
parents_there how test step parent before [] at = absurd (omega (arith, at.1))
parents_there how test step parent before (p ∷ ps) (zero, within, at) = absurd (none_there _ at) where
  none_there : (n : ℕ) → Some n ≡ None → ⊥
  none_there n s = cc s
parents_there how test step parent before (p ∷ ps) (suc k, within, at) = parents_there how test 1 p.parent (Some (own_cells p.part)) ps (k, omega arith, at)

-- ---- own ids run

part_run : (n : ℕ) (ps : List (PlacedIn ChildRow)) → map (λ (row : ChildRow). row.id) (part_rows numbered own_cells n ps) ≡ running n ps
part_run n [] = refl
part_run n (p ∷ ps) = ap (λ ids. Some n ∷ ids) (part_run (suc n) ps)

pub main_run : (resources scopes : List (Option ℕ)) (n : ℕ) (rows : List MainRow) → own_ids (renewed_from resources scopes n rows) ≡ running n rows
main_run resources scopes n [] = refl
main_run resources scopes n (row ∷ rows) = ap (λ ids. Some n ∷ ids) (main_run resources scopes (suc n) rows)

-- the parents of parts are new numbers
pub parents_from : (P : ℕ → Type 0) (n : ℕ) (ps : List (PlacedIn ChildRow)) → AllByRecursion (λ p. P p.parent) ps → (k : ℕ)
    → Contains (map (λ (row : ChildRow). row.parent) (part_rows numbered own_cells n ps)) (Some k) → P k
parents_from P n [] all k at = absurd (omega (arith, at.1))
parents_from P n (p ∷ ps) all k (zero, within, at) = subst P (let s : Some p.parent ≡ Some k = at in cc s) all.0
parents_from P n (p ∷ ps) all k (suc i, within, at) = parents_from P (suc n) ps all.1 k (i, omega arith, at)

-- new numbers are indices among the parents
number_below : (ids : List (Option ℕ)) (parent : Option ℕ) (n : ℕ) → new_number ids parent ≡ Some n → n < length ids
number_below ids None n is = absurd (let s : None ≡ Some n = is in cc s)
number_below ids (Some p) n is = number_low ids p n is

all_below : (ids : List (Option ℕ)) (rows : List ChildRow) → AllByRecursion (λ p. p.parent < length ids) (under ids rows)
all_below ids rows = each_under (λ p. p.parent < length ids) ids rows (each rows) where
  each : (rows : List ChildRow) → AllByRecursion (λ row. (n : ℕ) → new_number ids row.parent ≡ Some n → n < length ids) rows
  each [] = tt
  each (row ∷ rows) = (λ n is. number_below ids row.parent n is, each rows)

parts_below : (ids : List (Option ℕ)) (rows : List ChildRow) → AllByRecursion (λ p. p.parent < length ids) (parts_under ids rows)
unfolding parts_under
parts_below ids rows = each_sorted (λ p. p.parent < length ids) has_lesser_parent (under ids rows) (all_below ids rows)

-- ---- one table below, the ids of whose parents another table has

-- a column of the table of a kind has each index among these ids as an id
abbrev pub Covers : List Table → Kind → ℕ → List (Option ℕ) → Type 0
Covers all kind column ids = (xs : List (Option ℕ)) → HasIds (table_named kind all) column xs → (n : ℕ) → n < length ids → Contains xs (Some n)

module _ (all : List Table) (kind of : Kind) (at : ℕ) (ids : List (Option ℕ)) (rows : List ChildRow) (covers : Covers all of at ids) (few : length ids ≤ 2 ^ 32) where
  abbrev attributes : Table
  attributes = kept_attributes kind (under ids rows)

  module _ (kinds : has_attributes kind ≡ true) where
    abbrev have : HasParents kind (under ids rows)
    have = kept_parents kind (under ids rows) kinds (under_low ids few rows)

    runs : takes_null (coding_in attributes 0) ≡ false
    unfolding kept_attributes
    runs = ap takes_null (coding_is kind (coded_rows (map row_of_placed (under ids rows))) 0 (omega (arith, attribute_width kind kinds)) ∙ parents_run kind kinds)

    filled : HasNullParent attributes 0 → ⊥
    filled null = no_null (coding_in attributes 0) (greatest_in attributes 0) 0 (continues_in attributes) (stored_in attributes 0) have.parents runs have.are null.null

    pub attributes_given : AreGiven attributes
    unfolding kept_attributes
    attributes_given = attribute_ids (IsGiven attributes) kind kinds (record { ids = have.parents; are = have.are; parents = filled })

    no_orphans : OrphanOf all attributes (Some (record { column = 0; of = of; at = at })) → ⊥
    no_orphans orphan =
        let lost = orphan.lost in
        let same : lost.parents ≡ have.parents = one_given attributes 0 lost.parents have.parents lost.are have.are in
        lost.orphan.missing (covers orphan.ids orphan.known lost.orphan.parent
        (have.from (λ n. n < length ids) (all_below ids rows) lost.orphan.parent (subst (λ ps. Contains ps (Some lost.orphan.parent)) same lost.orphan.named)))

    pub fine_attributes : (wrong : RowRefusal) → WrongIn all attributes (attributes_link kind of at) wrong → ⊥
    fine_attributes = nothing_wrong all attributes (attributes_link kind of at) attributes_given (λ is. is) no_orphans

  abbrev ps : List (PlacedIn ChildRow)
  ps = parts_under ids rows

  abbrev parted : Table
  parted = kept_parts kind ps

  module _ (part : IsPartKind kind) (few_rows : length rows ≤ 2 ^ 21) where
    few_ps : length ps ≤ 2 ^ 32
    few_ps = omega (arith, parts_few ids rows, few_rows)

    pub part_own : HasIds parted 0 (running 0 ps)
    part_own = subst (HasIds parted 0) (part_run 0 ps) (kept_part_ids kind ps part.part few_ps)

    part_above : HasIds parted 1 (map (λ (row : ChildRow). row.parent) (part_rows numbered own_cells 0 ps))
    part_above = kept_part_parents kind ps part.part (parts_rising ids rows) (parts_low ids rows (under_low ids few rows))

    unnamed : HasNullParent parted 0 → ⊥
    unfolding kept_parts
    unnamed null = part.own null.named

    part_filled : HasNullParent parted 1 → ⊥
    unfolding kept_parts
    part_filled null = parents_there (coding_at kind 1) (again_of kind) 0 0 None ps null.null

    pub parts_given : AreGiven parted
    unfolding kept_parts
    parts_given column id = by column (part.ids column id) where
      by : (column : ℕ) → ((column ≡ 0) ⊎ (column ≡ 1)) → IsGiven parted column
      by column (inl first) = subst (IsGiven parted) (sym first) (record { ids = running 0 ps; are = part_own; parents = unnamed })
      by column (inr second) =
          subst (IsGiven parted) (sym second) (record { ids = map (λ (row : ChildRow). row.parent) (part_rows numbered own_cells 0 ps); are = part_above; parents = part_filled })

    no_lost_parts : OrphanOf all parted (Some (record { column = 1; of = of; at = at })) → ⊥
    no_lost_parts orphan =
        let named : List (Option ℕ) = map (λ (row : ChildRow). row.parent) (part_rows numbered own_cells 0 ps) in
        let lost = orphan.lost in
        let same : lost.parents ≡ named = one_given parted 1 lost.parents named lost.are part_above in
        lost.orphan.missing (covers orphan.ids orphan.known lost.orphan.parent
        (parents_from (λ n. n < length ids) 0 ps (parts_below ids rows) lost.orphan.parent (subst (λ ps. Contains ps (Some lost.orphan.parent)) same lost.orphan.named)))

    pub fine_parts : (wrong : RowRefusal) → WrongIn all parted (parts kind of at) wrong → ⊥
    fine_parts = nothing_wrong all parted (parts kind of at) parts_given (own_once parted (Some 0) 0 (running 0 ps) refl part_own (running_once 0 ps)) no_lost_parts
