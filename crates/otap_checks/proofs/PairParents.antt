-- The parents of a table of attributes: none is null, and each is one of those that it was written for.
use Rattle.std.proofs.Common.{◌≡◌, ℕ, zero, suc, ◌<◌, ◌≤◌, ◌^◌, Bool, true, false, List, [], ◌∷◌, map, drop, length, Option, Some, None, refl, sym, ◌∙◌, ap, subst, arith}
use Rattle.std.specs.Prelude.{Contains}
use Rattle.std.specs.List.{AllByRecursion}
use Rattle.std.proofs.lemmas.Bool.{false≢true}
use Rattle.std.proofs.lemmas.List.{get_or_default, length-map}
use Rattle.std.proofs.lemmas.List.FromFn.{get_or-map-range_with_len, length-map-range_with_len}
use Rattle.std.specs.List.Sorted.{IsPermutation}
use Rattle.std.proofs.lemmas.List.Sorted.{Contains-permutation, IsPermutation-sym}
use Rattle.lists.proofs.Every.{every_contained}
use Rattle.otlp_model.specs.declared.value.Pair.{Pair}
use Rattle.otap_cells.specs.declared.payload.Kind.{Kind}
use Rattle.otap_cells.specs.declared.payload.Kind.TheVariants as table
use Rattle.otap_cells.specs.declared.profile.Coding.{Coding}
use Rattle.otap_cells.specs.Cells.{Cell}
use Rattle.otap_cells.specs.Columns.{attrs, deep_attrs, is_id_at}
use Rattle.otap_cells.specs.ColumnIds.{HasNullParent, stored_in}
use Rattle.otap_cells.specs.Continuing.{continues_in, has_attributes}
use Rattle.otap_cells.specs.GivenIds.{HasIds}
use Rattle.otap_cells.specs.Ids.{IdsAfter, takes_null}
use Rattle.otap_cells.specs.Tables.{Table, coding_in, greatest_in}
use Rattle.otap_groups.specs.Children.{unnumbered}
use Rattle.otap_groups.specs.Flat.{PlacedIn, part_rows, placed}
use Rattle.otap_groups.specs.Rows.{ChildRow, child_row_at, child_rows}
use Rattle.otap_groups.specs.Stored.{IsPairRows}
use Rattle.otap_groups.proofs.Bounds.{BoundedParts, bounded_placed}
use Rattle.otap_groups.proofs.IdColumns.{each_id}
use Rattle.otap_groups.proofs.StoredRows.{coding_is}
use Rattle.otap_attrs.specs.Sorting.{coded_rows}
use Rattle.otap_attrs.specs.Tables.{attribute_table, row_of_pair}
use Rattle.otap_attrs.specs.Values.{pair_cells}
use Rattle.otap_attrs.proofs.AttributeRows.{parents_run}
use Rattle.otap_attrs.proofs.TableLaws.{table_has_rows}
use Rattle.otap_attrs.proofs.TablePairs.{ids_long}
use Rattle.otap_cells.proofs.AttributeColumns.{attribute_width}

-- where no null is taken, none is stored
no_null : (how : Coding) (last before : ℕ) (rows : List Bool) (ns ids : List (Option ℕ)) → takes_null how ≡ false → IdsAfter how last before rows ns ids → Contains ns None → ⊥
no_null how last before rows [] ids runs is (k, within, at) = absurd (omega arith)
no_null how last before rows (None ∷ ns) [] runs is null = absurd is
no_null how last before rows (None ∷ ns) (None ∷ ids) runs is null = absurd (false≢true (sym runs ∙ is.0))
no_null how last before rows (None ∷ ns) (Some id ∷ ids) runs is null = absurd is
no_null how last before rows (Some n ∷ ns) [] runs is null = absurd is
no_null how last before rows (Some n ∷ ns) (None ∷ ids) runs is null = absurd is
no_null how last before rows (Some n ∷ ns) (Some id ∷ ids) runs is (zero, within, at) = absurd cc
no_null how last before rows (Some n ∷ ns) (Some id ∷ ids) runs is (suc k, within, at) = no_null how last id (drop 1 rows) ns ids runs is.2 (k, omega arith, at)

-- a parent that is at most a number
abbrev AtMost : ℕ → ChildRow → Type 0
AtMost last row = (p : ℕ) × (row.parent ≡ Some p) × (p ≤ last)

parts_low : (n last : ℕ) (ps : List (PlacedIn Pair)) → BoundedParts last ps → AllByRecursion (AtMost last) (part_rows unnumbered pair_cells n ps)
parts_low n last [] all = tt
parts_low n last (p ∷ ps) all = ((p.parent, refl, all.0), parts_low (suc n) last ps all.1)

-- the row that has a parent
row_of : (parents : List (Option ℕ)) (cells : List (List Cell)) (p : ℕ) → length parents ≡ length cells → Contains parents (Some p)
    → (row : ChildRow) × (row.parent ≡ Some p) × Contains (child_rows [] parents cells) row
unfolding child_rows
row_of parents cells p long at =
    let within : at.0 < length cells = omega (arith, at.1, long) in
    let row : ChildRow = child_row_at [] parents cells at.0 in
    let is : row.parent ≡ Some p = get_or_default parents at.0 None (Some p) at.1 ∙ at.2 in
    let size = length-map-range_with_len (child_row_at [] parents cells) 0 (length cells) in
    (row, is, (at.0, omega (arith, size, within), get_or-map-range_with_len (child_row_at [] parents cells) 0 (length cells) at.0 at.0 row within (omega arith)))

-- what holds of the rows that are written holds of a row with each parent
parent_written : (t : Table) (P : ChildRow → Type 0) (xs rows : List ChildRow) (have : IsPairRows t rows) → IsPermutation xs rows → AllByRecursion P xs
    → (p : ℕ) → Contains have.parents (Some p) → (row : ChildRow) × (row.parent ≡ Some p) × P row
parent_written t P xs rows have moved all p at =
    let cells : List (List Cell) = map (drop 1) t.rows in
    let long : length have.parents ≡ length cells = ids_long t 0 have.parents have.above ∙ sym (length-map t.rows (drop 1)) in
    let row = row_of have.parents cells p long at in
    let there : Contains rows row.0 = subst (λ rows. Contains rows row.0) (sym have.are) row.2 in
    let written : Contains xs row.0 = Contains-permutation rows xs row.0 (IsPermutation-sym xs rows moved) there in
    (row.0, row.1, every_contained P xs row.0 all written)

-- the parents of a table of attributes
pub record HasParents (kind : Kind) (lists : List (List Pair)) : Type 0 where
  pub parents : List (Option ℕ)
  pub are : HasIds (attribute_table kind lists) 0 parents
  pub low : (p : ℕ) → Contains parents (Some p) → p < length lists
  pub filled : HasNullParent (attribute_table kind lists) 0 → ⊥

low : (kind : Kind) (lists : List (List Pair)) (rows : List ChildRow) (have : IsPairRows (attribute_table kind lists) rows)
    → IsPermutation (part_rows unnumbered pair_cells 0 (placed lists)) rows → (p : ℕ) → Contains have.parents (Some p) → p < length lists
unfolding placed
low kind [] rows have moved p at = absurd (parent_written (attribute_table kind []) (λ row. ⊥) [] rows have moved tt p at).2
low kind (pairs ∷ lists) rows have moved p at =
    let written : List ChildRow = part_rows unnumbered pair_cells 0 (placed (pairs ∷ lists)) in
    let row = parent_written (attribute_table kind (pairs ∷ lists)) (AtMost (length lists)) written rows have moved
    (parts_low 0 (length lists) (placed (pairs ∷ lists)) (bounded_placed (length lists) (pairs ∷ lists) (omega arith))) p at in
    let same : Some row.2.0 ≡ Some p = sym row.2.1 ∙ row.1 in
    let equal : row.2.0 ≡ p = cc in
    let most : row.2.0 ≤ length lists = row.2.2 in
    omega (arith, equal, most)

-- the one column of ids that attributes have
pub attribute_ids : (P : ℕ → Type 0) (kind : Kind) → has_attributes kind ≡ true → P 0 → (column : ℕ) → is_id_at kind column ≡ true → P column
unfolding attrs deep_attrs
attribute_ids P table.ResourceAttrs kinds parent column is = each_id P table.ResourceAttrs (parent, tt) column is
attribute_ids P table.ScopeAttrs kinds parent column is = each_id P table.ScopeAttrs (parent, tt) column is
attribute_ids P table.LogAttrs kinds parent column is = each_id P table.LogAttrs (parent, tt) column is
attribute_ids P table.SpanAttrs kinds parent column is = each_id P table.SpanAttrs (parent, tt) column is
attribute_ids P table.EventAttrs kinds parent column is = each_id P table.EventAttrs (parent, tt) column is
attribute_ids P table.LinkAttrs kinds parent column is = each_id P table.LinkAttrs (parent, tt) column is
attribute_ids P table.NumberPointAttrs kinds parent column is = each_id P table.NumberPointAttrs (parent, tt) column is
attribute_ids P table.SummaryPointAttrs kinds parent column is = each_id P table.SummaryPointAttrs (parent, tt) column is
attribute_ids P table.HistPointAttrs kinds parent column is = each_id P table.HistPointAttrs (parent, tt) column is
attribute_ids P table.NumberExemplarAttrs kinds parent column is = each_id P table.NumberExemplarAttrs (parent, tt) column is
attribute_ids P table.HistExemplarAttrs kinds parent column is = each_id P table.HistExemplarAttrs (parent, tt) column is
attribute_ids P _ kinds parent column is = absurd (false≢true kinds)

runs : (kind : Kind) (lists : List (List Pair)) → has_attributes kind ≡ true → takes_null (coding_in (attribute_table kind lists) 0) ≡ false
unfolding attribute_table
runs kind lists kinds = ap takes_null (coding_is kind (coded_rows (map row_of_pair (placed lists))) 0 (omega (arith, attribute_width kind kinds)) ∙ parents_run kind kinds)

pub parents_of : (kind : Kind) (lists : List (List Pair)) → has_attributes kind ≡ true → length lists ≤ 2 ^ 32 → HasParents kind lists
parents_of kind lists kinds few =
    let have = table_has_rows kind lists kinds few in
    let t : Table = attribute_table kind lists in
    record {
      parents = have.1.parents;
      are = have.1.above;
      low = low kind lists have.0 have.1 have.2;
      filled = λ null. no_null (coding_in t 0) (greatest_in t 0) 0 (continues_in t) (stored_in t 0) have.1.parents (runs kind lists kinds) have.1.above null.null;
    }
