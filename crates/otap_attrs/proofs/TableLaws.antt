-- The table of the pairs of parents has a row for each pair.
use Rattle.std.proofs.Common.{◌≡◌, ℕ, zero, suc, ◌+◌, ◌^◌, ◌<◌, ◌≤◌, true, false, ◌&&◌, List, [], ◌∷◌, ◌++◌, length, map, drop, Option, Some, None, refl, sym, ap, subst, ◌∙◌, arith, inl, inr}
use Rattle.std.specs.Prelude.{◌==◌, if◌then◌else◌, IsPermutation}
use Rattle.std.specs.List.{slice_index_or}
use Rattle.std.specs.Str.{bytes_eq}
use Rattle.std.specs.Ordering.{is_lt, int_eq, nat_cmp, ordering_then}
use Rattle.std.specs.declared.cmp.Ordering.{Ordering}
use Rattle.std.specs.declared.cmp.Ordering.TheVariants.{Equal}
use Rattle.std.proofs.lemmas.Bool.{and_parts, cases_Bool}
use Rattle.std.proofs.lemmas.Bool.Decides.{Decides-eqb, Decides-int_eq}
use Rattle.std.proofs.lemmas.Slice.Eq.{bytes_eq-Decides}
use Rattle.std.proofs.lemmas.Cmp.{tied_itself}
use Rattle.std.proofs.lemmas.List.{length-map, map-append}
use Rattle.std.proofs.lemmas.List.FromFn.{fill_by_all, get_or-map-range_with_len}
use Rattle.std.proofs.lemmas.List.Sorted.{IsPermutation-map}
use Rattle.std.proofs.lemmas.Map.Keys.{ge_from_not_lt}
use Rattle.otlp_model.specs.declared.value.Pair.{Pair}
use Rattle.otap_cells.specs.declared.payload.Kind.{Kind}
use Rattle.otap_cells.specs.declared.profile.Coding.TheVariants as coding
use Rattle.otap_cells.specs.Cells.{Cell}
use Rattle.otap_cells.specs.ColumnIds.{id_in}
use Rattle.otap_cells.specs.Continuing.{AttributeIn, again_of, attribute_in, attribute_is, continues_after, continues_of, has_attributes, ids_in_front, is_run_kind, says_again}
use Rattle.otap_cells.specs.Ids.{IdsAfter}
use Rattle.otap_cells.specs.Tables.{column_in, profile_table, coding_in, greatest_in, greatest_wide}
use Rattle.otap_cells.specs.Columns.{coding_at, width_of}
use Rattle.otap_groups.specs.Children.{unnumbered}
use Rattle.otap_groups.specs.Flat.{PlacedIn, part_rows, placed, placed_at, placed_from}
use Rattle.otap_groups.specs.Rows.{ChildRow, child_row, child_rows}
use Rattle.otap_groups.specs.Stored.{IsPairRows}
use Rattle.otap_attrs.specs.Sorting.{attribute_cmp, coded_after, coded_rows, is_before, parent_in, placed_by, sorted_by, sorted_rows}
use Rattle.otap_attrs.specs.Tables.{attribute_table, row_of_pair}
use Rattle.otap_attrs.specs.Values.{pair_cells}
use Rattle.otap_attrs.proofs.AttributeRows.{parents_run}
use Rattle.otap_attrs.proofs.SortedRows.{attribute_total, rows_order}
use Rattle.otap_attrs.proofs.StableSort.{NoneBefore, Rises, sorted_moves, sorted_rises}
use Rattle.otap_cells.proofs.AttributeColumns.{attribute_width}

-- ---- parents of rows in their order

pub same_attribute : (a b : AttributeIn) → attribute_is a b ≡ true → a ≡ b
same_attribute a b same =
    let p = and_parts (a.kind == b.kind && bytes_eq a.key b.key && int_eq a.int b.int && a.bits == b.bits) (bytes_eq a.bytes b.bytes) same in
    let q = and_parts (a.kind == b.kind && bytes_eq a.key b.key && int_eq a.int b.int) (a.bits == b.bits) p.0 in
    let r = and_parts (a.kind == b.kind && bytes_eq a.key b.key) (int_eq a.int b.int) q.0 in
    let s = and_parts (a.kind == b.kind) (bytes_eq a.key b.key) r.0 in
    λ i. record {
      kind = (Decides-eqb a.kind b.kind).0 s.0 i;
      key = (bytes_eq-Decides a.key b.key).0 s.1 i;
      int = (Decides-int_eq a.int b.int).0 r.1 i;
      bits = (Decides-eqb a.bits b.bits).0 q.1 i;
      bytes = (bytes_eq-Decides a.bytes b.bytes).0 p.1 i;
    }

parent_rises : (a b : List Cell) → is_before b a ≡ false → says_again (drop 1 a) (drop 1 b) ≡ true → parent_in a ≤ parent_in b
parent_rises a b rising again =
    let one = attribute_in (drop 1 a) in
    let other = attribute_in (drop 1 b) in
    let same : one ≡ other = same_attribute one other (and_parts (is_run_kind other.kind) (attribute_is one other) again).1 in
    let tied : attribute_cmp other one ≡ Equal = subst (λ (x : AttributeIn). attribute_cmp other x ≡ Equal) (sym same) (tied_itself attribute_total other) in
    ge_from_not_lt (parent_in b) (parent_in a) (sym (ap (λ (o : Ordering). is_lt (ordering_then o (nat_cmp (parent_in b) (parent_in a)))) tied) ∙ rising)

-- no parent is above the greatest number
abbrev Small : List (List Cell) → Type 0
Small [] = Unit {0}
Small (row ∷ rows) = (parent_in row ≤ 4294967295) × Small rows

base_low : (before row : List Cell) → is_before row before ≡ false
    → (if says_again (drop 1 before) (drop 1 row) then parent_in before else 0) ≤ parent_in row
base_low before row rising = elim (cases_Bool (says_again (drop 1 before) (drop 1 row))) [
  | inl t ↦ rw t (parent_rises before row rising t)
  | inr f ↦ rw f (omega arith)
]

ids_after : (before : List Cell) (rows : List (List Cell)) → NoneBefore is_before before rows → Rises is_before rows → Small rows
    → IdsAfter coding.Run 4294967295 (parent_in before) (continues_after says_again (Some (drop 1 before)) (map (drop 1) (coded_after (parent_in before) (Some (drop 1 before)) rows)))
    (map id_in (column_in (coded_after (parent_in before) (Some (drop 1 before)) rows) 0)) (map (λ row. Some (parent_in row)) rows)
ids_after before [] none up small = tt
ids_after before (row ∷ rows) none up small =
    let low = base_low before row none.0 in
    (omega (arith, low), small.0, ids_after row rows up.0 up.1 small.1)

ids_of_rows : (rows : List (List Cell)) → Rises is_before rows → Small rows
    → IdsAfter coding.Run 4294967295 0 (continues_after says_again None (map (drop 1) (coded_after 0 None rows))) (map id_in (column_in (coded_after 0 None rows) 0)) (map (λ row. Some (parent_in row)) rows)
ids_of_rows [] up small = tt
ids_of_rows (row ∷ rows) up small = (omega arith, small.0, ids_after row rows up.0 up.1 small.1)

cells_stay : (parent : ℕ) (before : Option (List Cell)) (rows : List (List Cell)) → map (drop 1) (coded_after parent before rows) ≡ map (drop 1) rows
cells_stay parent before [] = refl
cells_stay parent before (row ∷ rows) = ap (λ (more : List (List Cell)). drop 1 row ∷ more) (cells_stay (parent_in row) (Some (drop 1 row)) rows)

-- ---- rows as children

abbrev child_of : List Cell → ChildRow
child_of row = child_row None (Some (parent_in row)) (drop 1 row)

child_at : (rows : List (List Cell)) (k : ℕ) (d : ChildRow) → k < length rows
    → slice_index_or (map child_of rows) k d ≡ child_row None (slice_index_or (map (λ row. Some (parent_in row)) rows) k None) (slice_index_or (map (drop 1) rows) k [])
child_at [] k d within = absurd (omega arith)
child_at (row ∷ rows) zero d within = refl
child_at (row ∷ rows) (suc k) d within = child_at rows k d (omega arith)

children_are : (rows : List (List Cell)) → map child_of rows ≡ child_rows [] (map (λ row. Some (parent_in row)) rows) (map (drop 1) rows)
unfolding child_rows
children_are rows =
    let long : length (map child_of rows) ≡ length (map (drop 1) rows) = length-map rows child_of ∙ sym (length-map rows (drop 1)) in
    fill_by_all _ (map child_of rows) (length (map (drop 1) rows)) (child_row None None []) long
    (λ k within. child_at rows k (child_row None None []) (omega (arith, within, length-map rows (drop 1))))

parts_are : (n : ℕ) (ps : List (PlacedIn Pair)) → part_rows unnumbered pair_cells n ps ≡ map child_of (map row_of_pair ps)
parts_are n [] = refl
parts_are n (p ∷ ps) = ap (λ (more : List ChildRow). child_row None (Some p.parent) (pair_cells p.part) ∷ more) (parts_are (suc n) ps)

-- ---- the numbers of parents

small_more : (xs ys : List (List Cell)) → Small xs → Small ys → Small (xs ++ ys)
small_more [] ys a b = b
small_more (x ∷ xs) ys a b = (a.0, small_more xs ys a.1 b)

small_parts : (k : ℕ) (pairs : List Pair) → k ≤ 4294967295 → Small (map row_of_pair (map (placed_at k) pairs))
small_parts k [] few = tt
small_parts k (pair ∷ pairs) few = (few, small_parts k pairs few)

small_lists : (k : ℕ) (lists : List (List Pair)) → k + length lists ≤ 2 ^ 32 → Small (map row_of_pair (placed_from k lists))
small_lists k [] few = tt
small_lists k (pairs ∷ lists) few =
    subst Small (sym (map-append row_of_pair (map (placed_at k) pairs) (placed_from (suc k) lists)))
    (small_more (map row_of_pair (map (placed_at k) pairs)) (map row_of_pair (placed_from (suc k) lists)) (small_parts k pairs (omega arith)) (small_lists (suc k) lists (omega arith)))

small_placed : (x : List Cell) (ys : List (List Cell)) → parent_in x ≤ 4294967295 → Small ys → Small (placed_by is_before x ys)
small_placed x [] one small = (one, tt)
small_placed x (y ∷ ys) one small = elim (cases_Bool (is_before y x)) [
  | inl t ↦ rw t (small.0, small_placed x ys one small.1)
  | inr f ↦ rw f (one, small)
]

small_sorted : (xs : List (List Cell)) → Small xs → Small (sorted_by is_before xs)
small_sorted [] small = tt
small_sorted (x ∷ xs) small = small_placed x (sorted_by is_before xs) small.0 (small_sorted xs small.1)

-- ---- the table

coding_is : (kind : Kind) (rows : List (List Cell)) → has_attributes kind ≡ true → coding_in (profile_table kind rows) 0 ≡ coding.Run
coding_is kind rows kinds =
    get_or-map-range_with_len (coding_at kind) 0 (width_of kind) 0 0 coding.Plain (omega (arith, attribute_width kind kinds)) (omega arith) ∙ parents_run kind kinds

greatest_is : (kind : Kind) (rows : List (List Cell)) → has_attributes kind ≡ true → greatest_in (profile_table kind rows) 0 ≡ greatest_wide
greatest_is kind rows kinds = get_or-map-range_with_len (λ column. greatest_wide) 0 (width_of kind) 0 0 0 (omega (arith, attribute_width kind kinds)) (omega arith)

again_same : (kind : Kind) → has_attributes kind ≡ true → (before cells : List Cell) → again_of kind before cells ≡ says_again before cells
again_same kind kinds before cells = rw kinds refl

continues_same : (kind : Kind) → has_attributes kind ≡ true → (rows : List (List Cell))
    → continues_of (again_of kind) (map (drop (ids_in_front kind)) rows) ≡ continues_of says_again (map (drop 1) rows)
continues_same kind kinds rows =
    let front : ids_in_front kind ≡ 1 = rw kinds refl in
    λ i. continues_of (λ before cells. again_same kind kinds before cells i) (map (drop (front i)) rows)

pub table_has_rows : (kind : Kind) (lists : List (List Pair)) → has_attributes kind ≡ true → length lists ≤ 2 ^ 32
    → (rows : List ChildRow) × IsPairRows (attribute_table kind lists) rows × IsPermutation (part_rows unnumbered pair_cells 0 (placed lists)) rows
unfolding attribute_table coded_rows sorted_rows continues_of placed
table_has_rows kind lists kinds few =
    let rows : List (List Cell) = map row_of_pair (placed_from 0 lists) in
    let sorted : List (List Cell) = sorted_by is_before rows in
    let small : Small sorted = small_sorted rows (small_lists 0 lists (omega arith)) in
    let moves : IsPermutation (map child_of rows) (map child_of sorted) = IsPermutation-map child_of rows sorted (sorted_moves is_before rows) in (
      map child_of sorted,
      record {
        parents = map (λ row. Some (parent_in row)) sorted;
        above = rw (coding_is kind (coded_after 0 None sorted) kinds, greatest_is kind (coded_after 0 None sorted) kinds, continues_same kind kinds (coded_after 0 None sorted))
            (ids_of_rows sorted (sorted_rises is_before rows_order rows) small);
        are = children_are sorted ∙ ap (child_rows [] (map (λ row. Some (parent_in row)) sorted)) (sym (cells_stay 0 None sorted));
      },
      subst (λ (xs : List ChildRow). IsPermutation xs (map child_of sorted)) (sym (parts_are 0 (placed_from 0 lists))) moves,
    )
