-- The rows of kept tables weigh no more than those of the batch.
use Rattle.std.proofs.Common.{◌≡◌, ℕ, zero, suc, ◌+◌, ◌-◌, ◌≤◌, Bool, List, [], ◌∷◌, Option, None, Some, length, get_or, map, drop, refl, sym, ◌∙◌, ap, inl, inr, arith}
use Rattle.std.specs.Prelude.{sum_by}
use Rattle.std.specs.List.{range_with_len}
use Rattle.std.proofs.lemmas.Bool.{cases_Bool}
use Rattle.std.proofs.lemmas.List.Sums.{sum_by-cons}
use Rattle.std.proofs.lemmas.List.FromFn.{fill_by_all}
use Rattle.otap_cells.specs.declared.payload.Kind.{Kind}
use Rattle.otap_cells.specs.declared.profile.Coding.{Coding}
use Rattle.otap_cells.specs.Cells.{Cell}
use Rattle.otap_cells.specs.Columns.{coding_at}
use Rattle.otap_cells.specs.Continuing.{again_of, goes_on_after}
use Rattle.otap_cells.specs.Ids.{base_of}
use Rattle.otap_cells.specs.Tables.{Table}
use Rattle.otap_cells.specs.Weights.{cell_weight, weight_of_row, weight_of_table}
use Rattle.otap_groups.specs.Flat.{PlacedIn}
use Rattle.otap_groups.specs.Rows.{ChildRow, child_row_at, child_rows}
use Rattle.otap_groups.specs.Stored.{id_cell, stored_part, stored_parts}
use Rattle.otap_groups.specs.Weighing.{cells_weight}
use Rattle.otap_attrs.specs.Sorting.{coded_after, coded_rows, is_before, parent_in, placed_by, sorted_by, sorted_rows, stored_parent}
use Rattle.otap_kept.specs.Numbers.{new_number}
use Rattle.otap_kept.specs.Rows.{has_lesser_parent, own_cells, parts_under, placed_if, under}
use Rattle.otap_kept.specs.Tables.{kept_attributes, kept_parts, row_of_placed}

abbrev after_first : List Cell → ℕ
after_first row = 32 + sum_by cell_weight (drop 1 row)

placed_weighs : {A : Type 0} (weigh : A → ℕ) (before : A → A → Bool) (x : A) (xs : List A) → sum_by weigh (placed_by before x xs) ≡ weigh x + sum_by weigh xs
placed_weighs weigh before x [] = sum_by-cons weigh x []
placed_weighs weigh before x (y ∷ ys) = elim (cases_Bool (before y x)) [
  | inl t ↦ rw t (
      let a = sum_by-cons weigh y (placed_by before x ys) in
      let b = sum_by-cons weigh y ys in
      let more = placed_weighs weigh before x ys in
      omega (arith, a, b, more)
      )
  | inr f ↦ rw f (sum_by-cons weigh x (y ∷ ys))
]

sorted_weighs : {A : Type 0} (weigh : A → ℕ) (before : A → A → Bool) (xs : List A) → sum_by weigh (sorted_by before xs) ≡ sum_by weigh xs
sorted_weighs weigh before [] = refl
sorted_weighs weigh before (x ∷ xs) =
    let a = placed_weighs weigh before x (sorted_by before xs) in
    let b = sum_by-cons weigh x xs in
    let more = sorted_weighs weigh before xs in
    omega (arith, a, b, more)

coded_weighs : (parent : ℕ) (before : Option (List Cell)) (rows : List (List Cell)) → sum_by weight_of_row (coded_after parent before rows) ≡ sum_by after_first rows
coded_weighs parent before [] = refl
coded_weighs parent before (row ∷ rows) =
    let a = sum_by-cons weight_of_row (stored_parent parent before row ∷ drop 1 row) (coded_after (parent_in row) (Some (drop 1 row)) rows) in
    let b = sum_by-cons after_first row rows in
    let c = sum_by-cons cell_weight (stored_parent parent before row) (drop 1 row) in
    let more = coded_weighs (parent_in row) (Some (drop 1 row)) rows in
    omega (arith, a, b, c, more)

abbrev pub of_placed : PlacedIn ChildRow → ℕ
of_placed p = 32 + cells_weight p.part.cells

abbrev pub of_child : ChildRow → ℕ
of_child row = 32 + cells_weight row.cells

-- ---- tables, by the rows that are kept

placed_sum : (ps : List (PlacedIn ChildRow)) → sum_by after_first (map row_of_placed ps) ≡ sum_by of_placed ps
placed_sum [] = refl
placed_sum (p ∷ ps) =
    let a = sum_by-cons after_first (row_of_placed p) (map row_of_placed ps) in
    let b = sum_by-cons of_placed p ps in
    let more = placed_sum ps in
    omega (arith, a, b, more)

pub attributes_weigh : (kind : Kind) (ps : List (PlacedIn ChildRow)) → weight_of_table (kept_attributes kind ps) ≡ sum_by of_placed ps
unfolding kept_attributes coded_rows sorted_rows
attributes_weigh kind ps =
    coded_weighs 0 None (sorted_by is_before (map row_of_placed ps)) ∙ sorted_weighs after_first is_before (map row_of_placed ps) ∙ placed_sum ps

stored_weigh : (how : Coding) (test : List Cell → List Cell → Bool) (step parent : ℕ) (before : Option (List Cell)) (ps : List (PlacedIn ChildRow))
    → sum_by weight_of_row (stored_parts how test own_cells step parent before ps) ≡ sum_by of_placed ps
stored_weigh how test step parent before [] = refl
stored_weigh how test step parent before (p ∷ ps) =
    let above : Cell = id_cell (p.parent - base_of how (goes_on_after test before p.part.cells) parent) in
    let a = sum_by-cons weight_of_row (stored_part how test own_cells step parent before p) (stored_parts how test own_cells 1 p.parent (Some p.part.cells) ps) in
    let b = sum_by-cons of_placed p ps in
    let c = sum_by-cons cell_weight (id_cell step) (above ∷ p.part.cells) in
    let d = sum_by-cons cell_weight above p.part.cells in
    let more = stored_weigh how test 1 p.parent (Some p.part.cells) ps in
    omega (arith, a, b, c, d, more)

pub parts_weigh : (kind : Kind) (ps : List (PlacedIn ChildRow)) → weight_of_table (kept_parts kind ps) ≡ sum_by of_placed ps
unfolding kept_parts
parts_weigh kind ps = stored_weigh (coding_at kind 1) (again_of kind) 0 0 None ps

-- ---- which are some of the rows

if_weighs : (o : Option ℕ) (row : ChildRow) (rest : List (PlacedIn ChildRow)) → sum_by of_placed (placed_if o row rest) ≤ of_child row + sum_by of_placed rest
if_weighs None row rest = omega arith
if_weighs (Some n) row rest = let a = sum_by-cons of_placed (record { parent = n; part = row }) rest in omega (arith, a)

pub under_weighs : (ids : List (Option ℕ)) (rows : List ChildRow) → sum_by of_placed (under ids rows) ≤ sum_by of_child rows
under_weighs ids [] = omega arith
under_weighs ids (row ∷ rows) =
    let a = if_weighs (new_number ids row.parent) row (under ids rows) in
    let b = sum_by-cons of_child row rows in
    let more = under_weighs ids rows in
    omega (arith, a, b, more)

pub parts_under_weigh : (ids : List (Option ℕ)) (rows : List ChildRow) → sum_by of_placed (parts_under ids rows) ≤ sum_by of_child rows
unfolding parts_under
parts_under_weigh ids rows = omega (arith, sorted_weighs of_placed has_lesser_parent (under ids rows), under_weighs ids rows)

-- ---- and these are the rows of a table, without the ids in front

cells_sum : (f : List Cell → ℕ) (ids parents : List (Option ℕ)) (cells : List (List Cell)) (places : List ℕ)
    → sum_by (λ (row : ChildRow). f row.cells) (map (child_row_at ids parents cells) places) ≡ sum_by f (map (λ k. get_or cells k []) places)
cells_sum f ids parents cells [] = refl
cells_sum f ids parents cells (k ∷ places) =
    let a = sum_by-cons (λ (row : ChildRow). f row.cells) (child_row_at ids parents cells k) (map (child_row_at ids parents cells) places) in
    let b = sum_by-cons f (get_or cells k []) (map (λ k. get_or cells k []) places) in
    let more = cells_sum f ids parents cells places in
    omega (arith, a, b, more)

pub rows_sum : (ids parents : List (Option ℕ)) (cells : List (List Cell)) → sum_by of_child (child_rows ids parents cells) ≡ sum_by (λ (own : List Cell). 32 + cells_weight own) cells
unfolding child_rows
rows_sum ids parents cells =
    cells_sum (λ own. 32 + cells_weight own) ids parents cells (range_with_len 0 (length cells))
    ∙ ap (sum_by (λ (own : List Cell). 32 + cells_weight own)) (sym (fill_by_all (λ k. get_or cells k []) cells (length cells) [] refl (λ k within. refl)))

dropped : (n : ℕ) (row : List Cell) → cells_weight (drop n row) ≤ cells_weight row
dropped zero row = omega arith
dropped (suc n) [] = omega arith
dropped (suc n) (cell ∷ row) = let a = sum_by-cons cell_weight cell row in let more = dropped n row in omega (arith, a, more)

own_sum : (n : ℕ) (rows : List (List Cell)) → sum_by (λ (own : List Cell). 32 + cells_weight own) (map (drop n) rows) ≤ sum_by weight_of_row rows
own_sum n [] = omega arith
own_sum n (row ∷ rows) =
    let a = sum_by-cons (λ (own : List Cell). 32 + cells_weight own) (drop n row) (map (drop n) rows) in
    let b = sum_by-cons weight_of_row row rows in
    let c = dropped n row in
    let more = own_sum n rows in
    omega (arith, a, b, c, more)

-- KEPT ATTRIBUTES AND PARTS weigh no more than their table
pub attributes_lighter : (kind : Kind) (ids : List (Option ℕ)) (parents : List (Option ℕ)) (t : Table)
    → weight_of_table (kept_attributes kind (under ids (child_rows [] parents (map (drop 1) t.rows)))) ≤ weight_of_table t
attributes_lighter kind ids parents t =
    let rows = child_rows [] parents (map (drop 1) t.rows) in
    omega (arith, attributes_weigh kind (under ids rows), under_weighs ids rows, rows_sum [] parents (map (drop 1) t.rows), own_sum 1 t.rows)

pub parts_lighter : (kind : Kind) (ids : List (Option ℕ)) (own parents : List (Option ℕ)) (t : Table)
    → weight_of_table (kept_parts kind (parts_under ids (child_rows own parents (map (drop 2) t.rows)))) ≤ weight_of_table t
parts_lighter kind ids own parents t =
    let rows = child_rows own parents (map (drop 2) t.rows) in
    omega (arith, parts_weigh kind (parts_under ids rows), parts_under_weigh ids rows, rows_sum own parents (map (drop 2) t.rows), own_sum 2 t.rows)
