-- Tables of attributes are tables of the profile.
use Rattle.std.proofs.Common.{◌≡◌, ℕ, suc, ◌+◌, ◌^◌, ◌<◌, ◌≤◌, pos, true, List, [], ◌∷◌, Option, Some, None, length, map, drop, refl, sym, ap, subst, arith}
use Rattle.std.specs.Prelude.{All, IsTrue}
use Rattle.std.proofs.lemmas.Bool.{and_parts}
use Rattle.std.proofs.lemmas.List.{map-append}
use Rattle.std.proofs.lemmas.List.Elements.{All-nil, All-cons, All-head, All-tail, All-append}
use Rattle.std.proofs.lemmas.List.Sorted.{All-permutation}
use Rattle.otlp_model.specs.Real.{are_real_pairs}
use Rattle.otlp_model.specs.declared.value.Pair.{Pair}
use Rattle.otap_cells.specs.declared.payload.Kind.{Kind}
use Rattle.otap_cells.specs.declared.profile.Base.TheVariants as base
use Rattle.otap_cells.specs.Cells.{Cell, IsCellOf, number}
use Rattle.otap_cells.specs.Columns.{columns_of}
use Rattle.otap_cells.specs.Continuing.{has_attributes}
use Rattle.otap_cells.specs.GivenIds.{HasIds}
use Rattle.otap_cells.specs.Scalars.{text_cell}
use Rattle.otap_cells.specs.Tables.{IsRow}
use Rattle.otap_groups.specs.Flat.{placed, placed_at, placed_from}
use Rattle.otap_groups.specs.ProfileTables.{IsProfileTable}
use Rattle.otap_groups.proofs.ProfileRows.{is_profile_table, text_fits}
use Rattle.otap_attrs.specs.Sorting.{coded_after, coded_rows, is_before, parent_in, sorted_by, sorted_rows, stored_parent}
use Rattle.otap_attrs.specs.Tables.{attribute_table, row_of_pair}
use Rattle.otap_attrs.specs.Values.{AreCellsOf, value_bases, value_cells}
use Rattle.otap_attrs.proofs.AttributeRows.{pair_fits}
use Rattle.otap_attrs.proofs.CellFits.{value_fits}
use Rattle.otap_attrs.proofs.StableSort.{sorted_moves}
use Rattle.otap_checks.proofs.PairParents.{attribute_ids, parents_of}

-- a row of a pair, before its parent is coded
record IsPairRow (row : List Cell) : Type 0 where
  parent : ℕ
  key : Cell
  cells : List Cell
  is : row ≡ number (pos parent) ∷ key ∷ cells
  low : parent < 2 ^ 32
  text : IsCellOf base.Utf8 key
  value : AreCellsOf value_bases cells

abbrev pub AreReal : List Pair → Type 0
AreReal pairs = IsTrue (are_real_pairs pairs)

one_fits : (k : ℕ) (pairs : List Pair) → k < 2 ^ 32 → AreReal pairs → All IsPairRow (map row_of_pair (map (placed_at k) pairs))
one_fits k [] low real = All-nil IsPairRow
one_fits k (pair ∷ pairs) low real =
    let both = and_parts _ _ real in
    let here = and_parts _ _ both.0 in
    All-cons IsPairRow (row_of_pair (placed_at k pair)) (map row_of_pair (map (placed_at k) pairs))
    (record { parent = k; key = text_cell pair.key; cells = value_cells pair.value; is = refl; low = low; text = text_fits pair.key here.0; value = value_fits pair.value here.1 })
    (one_fits k pairs low both.1)

lists_fit : (k : ℕ) (lists : List (List Pair)) → k + length lists ≤ 2 ^ 32 → All AreReal lists → All IsPairRow (map row_of_pair (placed_from k lists))
lists_fit k [] few real = All-nil IsPairRow
lists_fit k (pairs ∷ lists) few real =
    subst (All IsPairRow) (sym (map-append row_of_pair (map (placed_at k) pairs) (placed_from (suc k) lists)))
    (All-append IsPairRow (map row_of_pair (map (placed_at k) pairs)) (map row_of_pair (placed_from (suc k) lists))
    (one_fits k pairs (omega arith) (All-head AreReal pairs lists real)) (lists_fit (suc k) lists (omega arith) (All-tail AreReal pairs lists real)))

coded_fits : (kind : Kind) (parent : ℕ) (before : Option (List Cell)) (row : List Cell) → has_attributes kind ≡ true → IsPairRow row
    → IsRow (columns_of kind) (stored_parent parent before row ∷ drop 1 row)
coded_fits kind parent before row kinds fits =
    let same : parent_in row ≡ fits.parent = ap parent_in fits.is in
    let less : fits.parent < 2 ^ 32 = fits.low in
    subst (λ more. IsRow (columns_of kind) (stored_parent parent before row ∷ more)) (sym (ap (drop 1) fits.is))
    (pair_fits kind (stored_parent parent before row) fits.key fits.cells kinds (omega (arith, same, less)) fits.text fits.value)

all_coded : (kind : Kind) (parent : ℕ) (before : Option (List Cell)) (rows : List (List Cell)) → has_attributes kind ≡ true → All IsPairRow rows
    → All (IsRow (columns_of kind)) (coded_after parent before rows)
all_coded kind parent before [] kinds all = All-nil (IsRow (columns_of kind))
all_coded kind parent before (row ∷ rows) kinds all =
    All-cons (IsRow (columns_of kind)) (stored_parent parent before row ∷ drop 1 row) (coded_after (parent_in row) (Some (drop 1 row)) rows)
    (coded_fits kind parent before row kinds (All-head IsPairRow row rows all)) (all_coded kind (parent_in row) (Some (drop 1 row)) rows kinds (All-tail IsPairRow row rows all))

pub attributes_written : (kind : Kind) (lists : List (List Pair)) → has_attributes kind ≡ true → length lists ≤ 2 ^ 32 → All AreReal lists
    → IsProfileTable (attribute_table kind lists)
unfolding attribute_table coded_rows sorted_rows placed
attributes_written kind lists kinds few real =
    let rows : List (List Cell) = map row_of_pair (placed_from 0 lists) in
    let have = parents_of kind lists kinds few in
    is_profile_table kind (coded_after 0 None (sorted_by is_before rows))
    (all_coded kind 0 None (sorted_by is_before rows) kinds (All-permutation IsPairRow rows (sorted_by is_before rows) (sorted_moves is_before rows) (lists_fit 0 lists (omega arith) real)))
    (attribute_ids (λ column. (ids : List (Option ℕ)) × HasIds (attribute_table kind lists) column ids) kind kinds (have.parents, have.are))
