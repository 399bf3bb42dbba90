-- Nothing is wrong with the values that are written for pairs.
use Rattle.std.proofs.Common.{◌≡◌, ℕ, suc, List, [], ◌∷◌, Option, Some, None, map, drop, sym, subst}
use Rattle.std.specs.Prelude.{All, IsTrue}
use Rattle.std.proofs.lemmas.Bool.{and_parts}
use Rattle.std.proofs.lemmas.List.{map-append}
use Rattle.std.proofs.lemmas.List.Elements.{All-nil, All-cons, All-head, All-tail, All-append, All-get_or}
use Rattle.std.proofs.lemmas.List.Sorted.{All-permutation}
use Rattle.otlp_model.specs.Profile.{IsProfilePair}
use Rattle.otlp_model.specs.Real.{are_real_pairs}
use Rattle.otlp_model.specs.declared.value.Pair.{Pair}
use Rattle.otlp_model.specs.declared.groups.Resource.{Resource}
use Rattle.otlp_model.specs.declared.groups.Scope.{Scope}
use Rattle.otap_cells.specs.declared.payload.Kind.{Kind}
use Rattle.otap_cells.specs.Cells.{Cell}
use Rattle.otap_cells.specs.Tables.{Table}
use Rattle.otap_cells.specs.Named.{table_named}
use Rattle.otap_groups.specs.Flat.{placed, placed_at, placed_from}
use Rattle.otap_attrs.specs.declared.refusal.RowRefusal.{RowRefusal}
use Rattle.otap_attrs.specs.Sorting.{coded_after, coded_rows, is_before, parent_in, sorted_by, sorted_rows}
use Rattle.otap_attrs.specs.Tables.{attribute_table, row_of_pair}
use Rattle.otap_attrs.specs.Values.{BadValue, value_cells}
use Rattle.otap_attrs.proofs.StableSort.{sorted_moves}
use Rattle.otap_attrs.proofs.ValueLaws.{value_fine}
use Rattle.otap_attrs.proofs.PairRows.{after_both}
use Rattle.otap_attrs.specs.Defects.{WrongValue}
use Rattle.otap_checks.specs.ValueDefects.{HasFineValues}

abbrev pub IsFine : List Cell → Type 0
IsFine cells = (wrong : RowRefusal) → BadValue cells wrong → ⊥

abbrev pub IsFineFrom : ℕ → List Cell → Type 0
IsFineFrom column row = IsFine (drop column row)

abbrev pub IsFinePair : Pair → Type 0
IsFinePair pair = IsFine (value_cells pair.value)

pub fine_rows : (column : ℕ) (t : Table) (wrong : RowRefusal) → All (IsFineFrom column) t.rows → WrongValue t column wrong → ⊥
fine_rows column t wrong all is = All-get_or (IsFineFrom column) t.rows is.row [] is.there all wrong is.is

one_fine : (k : ℕ) (pairs : List Pair) → All IsFinePair pairs → All (IsFineFrom 2) (map row_of_pair (map (placed_at k) pairs))
one_fine k [] all = All-nil (IsFineFrom 2)
one_fine k (pair ∷ pairs) all =
    All-cons (IsFineFrom 2) (row_of_pair (placed_at k pair)) (map row_of_pair (map (placed_at k) pairs)) (All-head IsFinePair pair pairs all)
    (one_fine k pairs (All-tail IsFinePair pair pairs all))

abbrev pub IsFineList : List Pair → Type 0
IsFineList pairs = All IsFinePair pairs

-- so of a resource, and of a scope
abbrev pub IsFineResource : Resource → Type 0
IsFineResource resource = IsFineList resource.pairs

abbrev pub IsFineScope : Scope → Type 0
IsFineScope scope = IsFineList scope.pairs

lists_fine : (k : ℕ) (lists : List (List Pair)) → All IsFineList lists → All (IsFineFrom 2) (map row_of_pair (placed_from k lists))
lists_fine k [] all = All-nil (IsFineFrom 2)
lists_fine k (pairs ∷ lists) all =
    subst (All (IsFineFrom 2)) (sym (map-append row_of_pair (map (placed_at k) pairs) (placed_from (suc k) lists)))
    (All-append (IsFineFrom 2) (map row_of_pair (map (placed_at k) pairs)) (map row_of_pair (placed_from (suc k) lists))
    (one_fine k pairs (All-head IsFineList pairs lists all)) (lists_fine (suc k) lists (All-tail IsFineList pairs lists all)))

coded_fine : (parent : ℕ) (before : Option (List Cell)) (rows : List (List Cell)) → All (IsFineFrom 2) rows → All (IsFineFrom 2) (coded_after parent before rows)
coded_fine parent before [] all = All-nil (IsFineFrom 2)
coded_fine parent before (row ∷ rows) all =
    All-cons (IsFineFrom 2) _ (coded_after (parent_in row) (Some (drop 1 row)) rows) (subst IsFine (sym (after_both row)) (All-head (IsFineFrom 2) row rows all))
    (coded_fine (parent_in row) (Some (drop 1 row)) rows (All-tail (IsFineFrom 2) row rows all))

-- nothing is wrong with the values of a table of attributes
pub attributes_fine : (kind : Kind) (lists : List (List Pair)) (wrong : RowRefusal) → All IsFineList lists → WrongValue (attribute_table kind lists) 2 wrong → ⊥
unfolding attribute_table coded_rows sorted_rows placed
attributes_fine kind lists wrong all =
    let rows : List (List Cell) = map row_of_pair (placed_from 0 lists) in
    fine_rows 2 (attribute_table kind lists) wrong
    (coded_fine 0 None (sorted_by is_before rows) (All-permutation (IsFineFrom 2) rows (sorted_by is_before rows) (sorted_moves is_before rows) (lists_fine 0 lists all)))

pub pairs_fine : (pairs : List Pair) → IsTrue (are_real_pairs pairs) → All IsProfilePair pairs → All IsFinePair pairs
pairs_fine [] real deep = All-nil IsFinePair
pairs_fine (pair ∷ pairs) real deep =
    let both = and_parts _ _ real in
    All-cons IsFinePair pair pairs (value_fine pair.value (and_parts _ _ both.0).1 (All-head IsProfilePair pair pairs deep)) (pairs_fine pairs both.1 (All-tail IsProfilePair pair pairs deep))

-- the values of a table of attributes, which is the one of its kind
pub fine_table : (all : List Table) (kind : Kind) (lists : List (List Pair)) → table_named kind all ≡ attribute_table kind lists → All IsFineList lists → HasFineValues all kind
fine_table all kind lists named fine = λ wrong w. attributes_fine kind lists wrong fine (subst (λ (t : Table). WrongValue t 2 wrong) named w)
