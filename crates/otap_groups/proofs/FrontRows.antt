-- The rows of a main table by their places.
use Rattle.std.proofs.Common.{◌≡◌, ℕ, zero, suc, ◌+◌, ◌-◌, ◌<◌, ◌≤◌, List, [], ◌∷◌, ◌++◌, append-nil, Option, None}
use Rattle.std.proofs.Common.{get_or, length, map, drop, refl, sym, ◌∙◌, ap, arith}
use Rattle.std.proofs.lemmas.List.{get_or-map, length-map, same_lists}
use Rattle.std.proofs.lemmas.List.FromFn.{get_or-map-range_with_len, length-map-range_with_len}
use Rattle.otap_cells.specs.Cells.{Cell}
use Rattle.otap_groups.specs.declared.level.Level.{Level}
use Rattle.otap_groups.specs.declared.level.Level.TheVariants as levels
use Rattle.otap_groups.specs.Inside.{cells_at, cells_by, part}
use Rattle.otap_groups.specs.Rows.{MainRow, main_row, main_row_at, main_rows, row_at, same_resource}
use Rattle.otap_groups.specs.Runs.{runs}

front_long : (ids resource_ids scope_ids : List (Option ℕ)) (rows : List (List Cell)) → length (main_rows ids resource_ids scope_ids rows) ≡ length rows
unfolding main_rows
front_long ids resource_ids scope_ids rows = length-map-range_with_len (main_row_at ids resource_ids scope_ids rows) 0 (length rows)

row_is : (ids resource_ids scope_ids : List (Option ℕ)) (rows : List (List Cell)) (place : ℕ) → place < length rows
    → row_at (main_rows ids resource_ids scope_ids rows) place ≡ main_row_at ids resource_ids scope_ids rows place
unfolding main_rows
row_is ids resource_ids scope_ids rows place within =
    get_or-map-range_with_len (main_row_at ids resource_ids scope_ids rows) 0 (length rows) place place (main_row None None None []) within (omega arith)

-- main rows, as a front is seen
pub seen_long : (ids resource_ids scope_ids : List (Option ℕ)) (rows : List (List Cell)) (front : List MainRow)
    → main_rows ids resource_ids scope_ids rows ≡ front → length front ≡ length rows
seen_long ids resource_ids scope_ids rows front is = ap (λ (xs : List MainRow). length xs) (sym is) ∙ front_long ids resource_ids scope_ids rows

pub seen_row : (ids resource_ids scope_ids : List (Option ℕ)) (rows : List (List Cell)) (front : List MainRow) (place : ℕ)
    → main_rows ids resource_ids scope_ids rows ≡ front → place < length front → row_at front place ≡ main_row_at ids resource_ids scope_ids rows place
seen_row ids resource_ids scope_ids rows front place is within =
    ap (λ (xs : List MainRow). row_at xs place) (sym is)
    ∙ row_is ids resource_ids scope_ids rows place (omega (arith, within, seen_long ids resource_ids scope_ids rows front is))

-- the cells beside an id
pub seen_cells : (ids resource_ids scope_ids : List (Option ℕ)) (rows : List (List Cell)) (front : List MainRow) (level : Level) (place : ℕ)
    → main_rows ids resource_ids scope_ids rows ≡ front → place < length front → cells_by level (row_at front place) ≡ cells_at level rows place
seen_cells ids resource_ids scope_ids rows front levels.Resource place is within =
    ap (λ (row : MainRow). row.resource) (seen_row ids resource_ids scope_ids rows front place is within)
seen_cells ids resource_ids scope_ids rows front levels.Scope place is within =
    ap (λ (row : MainRow). row.scope) (seen_row ids resource_ids scope_ids rows front place is within)

-- rows that are equal at each place
same_part : {A : Type 0} (f h : ℕ → A) (from count : ℕ) → ((k : ℕ) → k < from + count → f k ≡ h k) → part f from count ≡ part h from count
same_part f h from zero same = refl
same_part f h from (suc count) same = λ i. same from (omega arith) i ∷ same_part f h (from + 1) count (λ k within. same k (omega (arith, within))) i

-- all rows of a list
pub whole : (rows : List MainRow) → part (row_at rows) 0 (length rows) ≡ rows
whole rows = go rows where
  shift : {A : Type 0} (f : ℕ → A) (from count : ℕ) → part f (from + 1) count ≡ part (λ k. f (k + 1)) from count
  shift f from zero = refl
  shift f from (suc count) = ap (λ xs. f (from + 1) ∷ xs) (shift f (from + 1) count)

  step : (row : MainRow) (rows : List MainRow) (k : ℕ) → row_at (row ∷ rows) (k + 1) ≡ row_at rows k
  step row rows k = let e : k + 1 ≡ suc k = omega arith in ap (row_at (row ∷ rows)) e

  go : (rows : List MainRow) → part (row_at rows) 0 (length rows) ≡ rows
  go [] = refl
  go (row ∷ rows) = ap (λ xs. row ∷ xs) (shift (row_at (row ∷ rows)) 0 (length rows) ∙ same_part _ _ 0 (length rows) (λ k _. step row rows k) ∙ go rows)

-- what is read of a row's own cells
pub own_of : (cells : List (List Cell)) (front : List MainRow) (place : ℕ) → cells ≡ map (λ row. row.own) front → place < length front
    → get_or cells place [] ≡ (row_at front place).own
own_of cells front place is within =
    ap (λ (xs : List (List Cell)). get_or xs place []) is ∙ get_or-map (λ (row : MainRow). row.own) front place (main_row None None None []) [] within

-- what a loop over all rows has collected
pub collected : {A : Type 0} (f : MainRow → A) (front : List MainRow) (items : List A) (at to : ℕ) → to ≤ at → to ≡ length front
    → items ++ map f (part (row_at front) at (to - at)) ≡ map f (part (row_at front) 0 to) → items ≡ map f front
collected f front items at to over all so_far =
    let none : to - at ≡ 0 = omega (arith, over) in
    sym (append-nil items) ∙ ap (λ n. items ++ map f (part (row_at front) at n)) (sym none) ∙ so_far
    ∙ ap (λ n. map f (part (row_at front) 0 n)) all ∙ ap (λ xs. map f xs) (whole front)

-- what a loop over their groups has built
pub built : {A : Type 0} (make : List MainRow → A) (front : List MainRow) (groups : List A) (at to : ℕ) → to ≤ at → to ≡ length front
    → groups ++ map make (runs same_resource (part (row_at front) at (to - at))) ≡ map make (runs same_resource (part (row_at front) 0 to))
    → groups ≡ map make (runs same_resource front)
unfolding runs
built make front groups at to over all so_far =
    let none : to - at ≡ 0 = omega (arith, over) in
    sym (append-nil groups) ∙ ap (λ n. groups ++ map make (runs same_resource (part (row_at front) at n))) (sym none) ∙ so_far
    ∙ ap (λ n. map make (runs same_resource (part (row_at front) 0 n))) all ∙ ap (λ xs. map make (runs same_resource xs)) (whole front)

-- the own cells of main rows are those of their table after the front
pub own_cells : (ids resource_ids scope_ids : List (Option ℕ)) (rows : List (List Cell))
    → map (drop 9) rows ≡ map (λ row. row.own) (main_rows ids resource_ids scope_ids rows)
own_cells ids resource_ids scope_ids rows =
    let long : length (map (drop 9) rows) ≡ length (map (λ (row : MainRow). row.own) (main_rows ids resource_ids scope_ids rows)) =
    length-map rows (drop 9) ∙ sym (front_long ids resource_ids scope_ids rows)
    ∙ sym (length-map (main_rows ids resource_ids scope_ids rows) (λ (row : MainRow). row.own)) in
    same_lists _ _ long (λ k d within.
    let low : k < length rows = omega (arith, within, length-map rows (drop 9)) in
    get_or-map (drop 9) rows k [] d low
    ∙ sym (ap (λ (row : MainRow). row.own) (row_is ids resource_ids scope_ids rows k low))
    ∙ sym (get_or-map (λ (row : MainRow). row.own) (main_rows ids resource_ids scope_ids rows) k (main_row None None None []) d
    (omega (arith, low, front_long ids resource_ids scope_ids rows))))
