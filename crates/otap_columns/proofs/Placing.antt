-- The indexes of a column's values in its dictionary, cell by cell.
use Rattle.std.proofs.Common.{◌≡◌, ℕ, zero, suc, ◌+◌, ◌-◌, ◌<◌, ◌≤◌, false, List, [], ◌∷◌, ◌++◌, length, take, drop, get_or, map, fold, Option, Some, None, refl, sym, ap, ◌∙◌, subst, arith, position, bytes_eq, replicate}
use Rattle.std.proofs.lemmas.List.{length-map, map-append, take_more, take-append-drop, length-take-le}
use Rattle.std.proofs.lemmas.List.Sums.{fold-append}
use Rattle.lists.proofs.Parts.{nones_first}
use Rattle.otap_cells.specs.declared.profile.Base.{Base}
use Rattle.otap_cells.specs.Cells.{Cell, null}
use Rattle.otap_cells.specs.Tables.{cell_in, column_in}
use Rattle.otap_dicts.specs.Ladders.{LadderIn, is_plain, observed}
use Rattle.otap_dicts.specs.declared.form.Form.TheVariants as ladder
use Rattle.otap_columns.specs.declared.forms.ColumnForm.TheVariants as form
use Rattle.otap_columns.specs.Observed.{bytes_for}
use Rattle.otap_columns.specs.SeenInside.{filled_up, observed_if, places_of_cells}
use Rattle.otap_columns.specs.WrittenCells.{place_among}
use Rattle.otap_columns.proofs.ColumnsBuilt.{cell_at-map}
use Rattle.otap_columns.proofs.SeenOn.{again_changes_nothing, cells_more, null_cell, plain_stays}

-- a value that has an index
abbrev pub IsFound : List (List ℕ) → Option (List ℕ) → Type 0
IsFound values None = Unit {0}
IsFound values (Some value) = (place : ℕ) × (position (bytes_eq value) values ≡ Some place)

abbrev pub AreFound : List (List ℕ) → List (Option (List ℕ)) → Type 0
AreFound values [] = Unit {0}
AreFound values (x ∷ xs) = IsFound values x × AreFound values xs

found_more : (values : List (List ℕ)) (xs : List (Option (List ℕ))) (x : Option (List ℕ)) → AreFound values xs → IsFound values x → AreFound values (xs ++ x ∷ [])
found_more values [] x all one = (one, tt)
found_more values (y ∷ xs) x all one = (all.0, found_more values xs x all.1 one)

-- the indexes stay where those of the values do
abbrev pub Stays : List (List ℕ) → List (List ℕ) → Type 0
Stays old new = (other : List ℕ) (place : ℕ) → position (bytes_eq other) old ≡ Some place → position (bytes_eq other) new ≡ Some place

place_stays : (old new : List (List ℕ)) (x : Option (List ℕ)) → Stays old new → IsFound old x → (place_among old x ≡ place_among new x) × IsFound new x
place_stays old new None stays is = (refl, tt)
place_stays old new (Some value) stays is = let at = stays value is.0 is.1 in (is.1 ∙ sym at, (is.0, at))

places_stay : (old new : List (List ℕ)) (xs : List (Option (List ℕ))) → Stays old new → AreFound old xs → (map (place_among old) xs ≡ map (place_among new) xs) × AreFound new xs
places_stay old new [] stays all = (refl, tt)
places_stay old new (x ∷ xs) stays all =
    let one = place_stays old new x stays all.0 in
    let rest = places_stay old new xs stays all.1 in
    ((λ i. one.0 i ∷ rest.0 i), (one.1, rest.1))

-- what otap_dicts promises of indexes
pub record Laws : Type 0 where
  pub twice : (l : LadderIn) (value : List ℕ) → observed (observed l value) value ≡ observed l value
  pub plain : (l : LadderIn) (value : List ℕ) → l.form ≡ ladder.Plain → observed l value ≡ l
  pub stay : (l : LadderIn) (value other : List ℕ) (place : ℕ) → is_plain (observed l value).form ≡ false → position (bytes_eq other) l.values ≡ Some place
      → position (bytes_eq other) (observed l value).values ≡ Some place
  pub found : (l : LadderIn) (value : List ℕ) → is_plain (observed l value).form ≡ false → (place : ℕ) × (position (bytes_eq value) (observed l value).values ≡ Some place)

one_stays : Laws → (l : LadderIn) (x : Option (List ℕ)) → is_plain (observed_if l x).form ≡ false → Stays l.values (observed_if l x).values × IsFound (observed_if l x).values x
one_stays laws l None climbs = ((λ other place is. is), tt)
one_stays laws l (Some value) climbs = ((λ other place is. laws.stay l value other place climbs is), laws.found l value climbs)

-- the first rows of a column were observed; the last of them has this value, whose index is known
pub record IsObserved (holds : Base) (rows : List (List Cell)) (column row : ℕ) (start now : LadderIn) (places : List (Option ℕ)) (last : Option (List ℕ)) (place : Option ℕ) : Type 0 where
  pub so_far : now ≡ fold observed_if start (take row (map (bytes_for holds form.Wide) (column_in rows column)))
  pub again : observed_if now last ≡ now
  pub placed : place ≡ place_among now.values last
  pub here : places ≡ map (place_among now.values) (take row (map (bytes_for holds form.Wide) (column_in rows column)))
  pub found : AreFound now.values (take row (map (bytes_for holds form.Wide) (column_in rows column)))
  pub climbs : is_plain now.form ≡ false

nones_change_nothing : (n : ℕ) (l : LadderIn) → l ≡ fold observed_if l (replicate n None)
nones_change_nothing zero l = refl
nones_change_nothing (suc n) l = nones_change_nothing n l

no_places : (n : ℕ) (values : List (List ℕ)) → replicate n None ≡ map (place_among values) (replicate n None)
no_places zero values = refl
no_places (suc n) values = ap (λ (ps : List (Option ℕ)). None ∷ ps) (no_places n values)

nones_found : (n : ℕ) (values : List (List ℕ)) → AreFound values (replicate n None)
nones_found zero values = tt
nones_found (suc n) values = (tt, nones_found n values)

-- nothing was observed in the rows before the first one that was set
pub none_observed : (holds : Base) (rows : List (List Cell)) (column first : ℕ) (start : LadderIn) (places : List (Option ℕ)) → places ≡ replicate first None → ((row : ℕ) → row < first → cell_in rows column row ≡ null)
    → first ≤ length rows → is_plain start.form ≡ false → IsObserved holds rows column first start start places None None
none_observed holds rows column first start places none null_first low climbs =
    let cells = map (bytes_for holds form.Wide) (column_in rows column) in
    let long : length cells ≡ length rows = length-map (column_in rows column) (bytes_for holds form.Wide) ∙ length-map rows (λ row. get_or row column null) in
    let nones : replicate first None ≡ take first cells = nones_first first cells (λ row lt. null_cell holds rows column row (null_first row lt)) (omega (arith, long, low)) in
    record {
      so_far = nones_change_nothing first start ∙ ap (λ (cs : List (Option (List ℕ))). fold observed_if start cs) nones;
      again = refl;
      placed = refl;
      here = none ∙ no_places first start.values ∙ ap (map (place_among start.values)) nones;
      found = subst (AreFound start.values) nones (nones_found first start.values);
      climbs = climbs;
    }

take_nothing : (n : ℕ) (old : List (Option ℕ)) → old ≡ [] → take n old ≡ []
take_nothing zero old none = refl
take_nothing (suc n) [] none = refl
take_nothing (suc n) (place ∷ old) none = absurd (omega (arith, ap length none))

pub emptied : (n len : ℕ) (old : List (Option ℕ)) → old ≡ [] → len ≡ length old → take n old ++ replicate (n - len) None ≡ replicate n None
emptied n len old none is =
    let no_len : n - len ≡ n = omega (arith, is, ap length none) in
    λ i. take_nothing n old none i ++ replicate (no_len i) None

module _ (laws : Laws) (holds : Base) (rows : List (List Cell)) (column row : ℕ) (start now next : LadderIn) (places : List (Option ℕ)) (last : Option (List ℕ)) (place : Option ℕ) (x : Option (List ℕ))
    (so_far : IsObserved holds rows column row start now places last place) (low : row < length rows) (is : x ≡ bytes_for holds form.Wide (cell_in rows column row)) (on : next ≡ observed_if now x) where
  pub next_is : next ≡ fold observed_if start (take (row + 1) (map (bytes_for holds form.Wide) (column_in rows column)))
  next_is = on ∙ ap (λ (l : LadderIn). observed_if l x) so_far.so_far ∙ cells_more holds rows column row x start low is

  pub one_more_observed : (after : Option ℕ) → after ≡ place_among next.values x → is_plain next.form ≡ false
      → IsObserved holds rows column (row + 1) start next (places ++ after ∷ []) x after
  one_more_observed after after_is climbs =
      let cells = map (bytes_for holds form.Wide) (column_in rows column) in
      let long : length cells ≡ length rows = length-map (column_in rows column) (bytes_for holds form.Wide) ∙ length-map rows (λ row. get_or row column null) in
      let inside : row < length cells = omega (arith, long, low) in
      let one : take (row + 1) cells ≡ take row cells ++ x ∷ [] = take_more cells row None inside ∙ ap (λ y. take row cells ++ y ∷ []) (cell_at-map (bytes_for holds form.Wide) rows column row low ∙ sym is) in
      let stays : Stays now.values next.values × IsFound next.values x =
      subst (λ (l : LadderIn). Stays now.values l.values × IsFound l.values x) (sym on) (one_stays laws now x (sym (ap (λ (l : LadderIn). is_plain l.form) on) ∙ climbs)) in
      let kept = places_stay now.values next.values (take row cells) stays.0 so_far.found in
      record {
        so_far = next_is;
        again = ap (λ (l : LadderIn). observed_if l x) on ∙ again_changes_nothing laws.twice now x ∙ sym on;
        placed = after_is;
        here = (λ i. (so_far.here ∙ kept.0) i ++ after_is i ∷ []) ∙ sym (map-append (place_among next.values) (take row cells) (x ∷ [])) ∙ sym (ap (map (place_among next.values)) one);
        found = subst (AreFound next.values) (sym one) (found_more next.values (take row cells) x kept.1 stays.1);
        climbs = climbs;
      }

  -- once the column is plain no further cell changes it
  pub plain_from_here : next.form ≡ ladder.Plain → next ≡ fold observed_if start (map (bytes_for holds form.Wide) (column_in rows column))
  plain_from_here plain =
      let cells = map (bytes_for holds form.Wide) (column_in rows column) in
      plain_stays laws.plain next plain (drop (row + 1) cells)
      ∙ ap (λ (l : LadderIn). fold observed_if l (drop (row + 1) cells)) next_is
      ∙ sym (fold-append observed_if start (take (row + 1) cells) (drop (row + 1) cells))
      ∙ ap (λ (cs : List (Option (List ℕ))). fold observed_if start cs) (take-append-drop (row + 1) cells)

-- the rows after the last one that was set have no index
none_after : (values : List (List ℕ)) (k n : ℕ) (cells : List (Option (List ℕ))) → ((row : ℕ) → k ≤ row → get_or cells row None ≡ None) → k + n ≡ length cells
    → map (place_among values) (take k cells) ++ replicate n None ≡ map (place_among values) cells
none_after values zero n cells none all =
    let same : n ≡ length cells = omega (arith, all) in
    ap (λ (m : ℕ). replicate m None) same ∙ nulls cells (λ k. none k (omega arith))
  where
    nulls : (cells : List (Option (List ℕ))) → ((k : ℕ) → get_or cells k None ≡ None) → replicate (length cells) None ≡ map (place_among values) cells
    nulls [] none = refl
    nulls (None ∷ cells) none = ap (λ (ps : List (Option ℕ)). None ∷ ps) (nulls cells (λ k. none (suc k)))
    nulls (Some value ∷ cells) none = absurd (let wrong : Some value ≡ None = none 0 in cc)
none_after values (suc k) n [] none all = absurd (omega (arith, all))
none_after values (suc k) n (x ∷ cells) none all = ap (λ (ps : List (Option ℕ)). place_among values x ∷ ps) (none_after values k n cells (λ row le. none (suc row) (omega (arith, le))) (omega (arith, all)))

pub places_to_last : (holds : Base) (rows : List (List Cell)) (column k : ℕ) (values : List (List ℕ)) → ((row : ℕ) → k ≤ row → cell_in rows column row ≡ null) → k ≤ length rows
    → map (place_among values) (take k (map (bytes_for holds form.Wide) (column_in rows column))) ++ replicate (length rows - k) None ≡ places_of_cells holds form.Wide values (column_in rows column)
places_to_last holds rows column k values none low =
    let cells = map (bytes_for holds form.Wide) (column_in rows column) in
    let long : length cells ≡ length rows = length-map (column_in rows column) (bytes_for holds form.Wide) ∙ length-map rows (λ row. get_or row column null) in
    none_after values k (length rows - k) cells (λ row le. null_cell holds rows column row (none row le)) (omega (arith, long, low))
    ∙ twice (column_in rows column)
  where
    twice : (cells : List Cell) → map (place_among values) (map (bytes_for holds form.Wide) cells) ≡ places_of_cells holds form.Wide values cells
    twice [] = refl
    twice (cell ∷ cells) = ap (λ (ps : List (Option ℕ)). place_among values (bytes_for holds form.Wide cell) ∷ ps) (twice cells)

pub all_placed : (holds : Base) (rows : List (List Cell)) (column row : ℕ) (values : List (List ℕ)) (places : List (Option ℕ))
    → places ≡ map (place_among values) (take row (map (bytes_for holds form.Wide) (column_in rows column)))
    → row ≤ length rows → ((k : ℕ) → row ≤ k → cell_in rows column k ≡ null) → filled_up (length rows) places ≡ places_of_cells holds form.Wide values (column_in rows column)
all_placed holds rows column row values places here low none =
    let cells = map (bytes_for holds form.Wide) (column_in rows column) in
    let long : length cells ≡ length rows = length-map (column_in rows column) (bytes_for holds form.Wide) ∙ length-map rows (λ row. get_or row column null) in
    let count : length places ≡ row = ap length here ∙ length-map (take row cells) (place_among values) ∙ length-take-le row cells (omega (arith, long, low)) in
    (λ i. here i ++ replicate (length rows - count i) None) ∙ places_to_last holds rows column row values none low
