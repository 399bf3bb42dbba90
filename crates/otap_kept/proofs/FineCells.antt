-- What is kept keeps the rules that the tables keep.
use Rattle.std.proofs.Common.{◌≡◌, ℕ, zero, suc, ◌+◌, ◌≤◌, ◌<◌, Bool, true, false, cond, List, [], ◌∷◌, length, get_or, drop, Option, None, Some, map, refl, sym, ◌∙◌, ap, subst, inl, inr, arith}
use Rattle.std.specs.Prelude.{◌⊎◌, ◌==◌, Contains, filter}
use Rattle.std.specs.List.{AllByRecursion}
use Rattle.std.proofs.lemmas.Bool.{cases_Bool}
use Rattle.std.proofs.lemmas.List.{get_or_default, length-map}
use Rattle.std.proofs.lemmas.List.FromFn.{get_or-map-range_with_len, length-map-range_with_len}
use Rattle.otap_cells.specs.declared.payload.Kind.{Kind}
use Rattle.otap_cells.specs.Cells.{Cell, nat_in, null}
use Rattle.otap_cells.specs.GivenIds.{HasIds, ids_in}
use Rattle.otap_cells.specs.Tables.{Table}
use Rattle.otap_groups.specs.Children.{numbered}
use Rattle.otap_groups.specs.Disagree.{DifferBy, Disagree}
use Rattle.otap_groups.specs.Flat.{PlacedIn, part_rows}
use Rattle.otap_groups.specs.Rows.{ChildRow, MainRow, cells_are, child_row_at, child_rows, id_at, main_row, main_row_at, main_rows}
use Rattle.otap_groups.proofs.RunningIds.{running}
use Rattle.otap_attrs.specs.declared.refusal.RowRefusal.{RowRefusal}
use Rattle.otap_attrs.specs.Defects.{WrongValue}
use Rattle.otap_attrs.specs.Values.{BadValue}
use Rattle.otap_checks.specs.Measured.{HasTwoValues, HasUnevenLists, IsThere, element_count}
use Rattle.otap_checks.specs.Reading.{Disagrees, main_rows_in, part_rows_in}
use Rattle.otap_checks.specs.Shapes.{WrongParent, WrongType, is_type, type_at}
use Rattle.otap_checks.proofs.GivenColumns.{one_given}
use Rattle.otap_checks.proofs.TableIds.{disagree_too, disagrees_too}
use Rattle.otap_kept.specs.Numbers.{first_ids, new_number}
use Rattle.otap_kept.specs.Rows.{has_lesser_parent, own_cells, own_ids, parts_under, renew, renewed, renewed_from, resource_ids, scope_ids, under}
use Rattle.otap_kept.specs.Tables.{kept_main, kept_parts, past_id, stored_main}
use Rattle.otap_kept.proofs.Each.{each_is, each_sorted, each_under}
use Rattle.otap_kept.proofs.FineIds.{parents_from}
use Rattle.otap_kept.proofs.MainRows.{IsShaped}
use Rattle.otap_kept.proofs.NewNumbers.{found_at, one_number}
use Rattle.otap_kept.proofs.Origins.{ComeFrom, cell_behind, same_cell, same_cells}

-- ---- cells

module _ (f : ℕ) (t other : Table) (from : ComeFrom f t other) where
  pub value_from : (column : ℕ) → f ≤ column → (wrong : RowRefusal) → WrongValue t column wrong → WrongValue other column wrong
  value_from column far wrong w =
      let o = from w.row w.there in
      record { row = o.row; there = o.there; is = subst (λ cells. BadValue cells wrong) (same_cells f other.rows (get_or t.rows w.row []) o column far) w.is }

  pub two_from : (column : ℕ) → f ≤ column → HasTwoValues t column → HasTwoValues other column
  two_from column far w =
      let o = from w.row w.there in record {
        row = o.row;
        there = o.there;
        int = subst IsThere (same_cell f other.rows (get_or t.rows w.row []) o column far) w.int;
        double = subst IsThere (same_cell f other.rows (get_or t.rows w.row []) o (column + 1) (omega (arith, far))) w.double;
      }

  pub uneven_from : (first second : ℕ) → f ≤ first → f ≤ second → HasUnevenLists t first second → HasUnevenLists other first second
  uneven_from first second far_first far_second w =
      let o = from w.row w.there in
      let a = same_cell f other.rows (get_or t.rows w.row []) o first far_first in
      let b = same_cell f other.rows (get_or t.rows w.row []) o second far_second in
      record { row = o.row; there = o.there; other = (λ i. element_count (sym a i) == element_count (sym b i)) ∙ w.other }

  pub type_from : f ≤ 9 → WrongType t → WrongType other
  type_from far w =
      let o = from w.row w.there in
      let a = same_cell f other.rows (get_or t.rows w.row []) o 9 far in
      record { row = o.row; there = o.there; is = (λ i. is_type (nat_in (sym a i))) ∙ w.is }

-- ---- rows of one id that differ

in_filter : (test : MainRow → Bool) (rows : List MainRow) (x : MainRow) → Contains (filter test rows) x → Contains rows x
in_filter test [] x at = absurd (omega (arith, at.1))
in_filter test (row ∷ rows) x at = by (cases_Bool (test row)) (in_filter test rows x) where
  later : Contains rows x → Contains (row ∷ rows) x
  later more = (suc more.0, omega (arith, more.1), more.2)

  first : (Contains (filter test rows) x → Contains rows x) → Contains (row ∷ filter test rows) x → Contains (row ∷ rows) x
  first rest (zero, within, is) = (0, omega arith, is)
  first rest (suc k, within, is) = later (rest (k, omega arith, is))

  by : (test row ≡ true) ⊎ (test row ≡ false) → (Contains (filter test rows) x → Contains rows x) → Contains (row ∷ rows) x
  by (inl t) rest = first rest (subst (λ (b : Bool). Contains (cond b (row ∷ filter test rows) (filter test rows)) x) t at)
  by (inr f) rest = later (rest (subst (λ (b : Bool). Contains (cond b (row ∷ filter test rows) (filter test rows)) x) f at))

-- an id that has a new number isn't null
some_id : (ids : List (Option ℕ)) (o : Option ℕ) (k : ℕ) → new_number ids o ≡ Some k → (p : ℕ) × (o ≡ Some p) × (new_number ids (Some p) ≡ Some k)
some_id ids None k is = absurd (let s : None ≡ Some k = is in cc s)
some_id ids (Some p) k is = (p, refl, is)

module _ (resources scopes : List (Option ℕ)) where
  record IsRenewed (rows : List MainRow) (a : MainRow) : Type 0 where
    number : ℕ
    row : MainRow
    there : Contains rows row
    is : renew resources scopes number row ≡ a

  renewed_one : (n : ℕ) (rows : List MainRow) (a : MainRow) → Contains (renewed_from resources scopes n rows) a → IsRenewed rows a
  renewed_one n [] a at = absurd (omega (arith, at.1))
  renewed_one n (row ∷ rows) a (zero, within, at) = record { number = n; row = row; there = (0, omega arith, refl); is = at }
  renewed_one n (row ∷ rows) a (suc k, within, at) =
      let more = renewed_one (suc n) rows a (k, omega arith, at) in
      record { number = more.number; row = more.row; there = (suc more.there.0, omega (arith, more.there.1), more.there.2); is = more.is }

  abbrev OfResource : List MainRow → Type 0
  OfResource rows = DifferBy (λ row. row.resource_id) (λ row. row.resource) rows

  abbrev OfScope : List MainRow → Type 0
  OfScope rows = DifferBy (λ row. row.scope_id) (λ row. row.scope) rows

  resources_from : (n : ℕ) (rows : List MainRow) → OfResource (renewed_from resources scopes n rows) → OfResource rows
  resources_from n rows d =
      let a = renewed_one n rows d.a d.first in
      let b = renewed_one n rows d.b d.second in
      let p = some_id resources a.row.resource_id d.shared (ap (λ (row : MainRow). row.resource_id) a.is ∙ d.of_first) in
      let q = some_id resources b.row.resource_id d.shared (ap (λ (row : MainRow). row.resource_id) b.is ∙ d.of_second) in record {
        shared = p.0;
        a = a.row;
        b = b.row;
        first = a.there;
        second = b.there;
        of_first = p.1;
        of_second = q.1 ∙ ap Some (one_number resources q.0 p.0 d.shared q.2 p.2);
        differ = (λ i. cells_are ((a.is i).resource) ((b.is i).resource)) ∙ d.differ;
      }

  scopes_from : (n : ℕ) (rows : List MainRow) → OfScope (renewed_from resources scopes n rows) → OfScope rows
  scopes_from n rows d =
      let a = renewed_one n rows d.a d.first in
      let b = renewed_one n rows d.b d.second in
      let p = some_id scopes a.row.scope_id d.shared (ap (λ (row : MainRow). row.scope_id) a.is ∙ d.of_first) in
      let q = some_id scopes b.row.scope_id d.shared (ap (λ (row : MainRow). row.scope_id) b.is ∙ d.of_second) in record {
        shared = p.0;
        a = a.row;
        b = b.row;
        first = a.there;
        second = b.there;
        of_first = p.1;
        of_second = q.1 ∙ ap Some (one_number scopes q.0 p.0 d.shared q.2 p.2);
        differ = (λ i. cells_are ((a.is i).scope) ((b.is i).scope)) ∙ d.differ;
      }

filtered_differ : (id : MainRow → Option ℕ) (cells : MainRow → List Cell) (test : MainRow → Bool) (rows : List MainRow) → DifferBy id cells (filter test rows) → DifferBy id cells rows
filtered_differ id cells test rows d = record {
  shared = d.shared;
  a = d.a;
  b = d.b;
  first = in_filter test rows d.a d.first;
  second = in_filter test rows d.b d.second;
  of_first = d.of_first;
  of_second = d.of_second;
  differ = d.differ;
}

disagree_from : (test : MainRow → Bool) (rows : List MainRow) → Disagree (renewed (filter test rows)) → Disagree rows
unfolding renewed
disagree_from test rows (inl d) = inl (filtered_differ (λ row. row.resource_id) (λ row. row.resource) test rows (resources_from (first_ids (resource_ids (filter test rows))) (first_ids (scope_ids (filter test rows))) 0 (filter test rows) d))
disagree_from test rows (inr d) = inr (filtered_differ (λ row. row.scope_id) (λ row. row.scope) test rows (scopes_from (first_ids (resource_ids (filter test rows))) (first_ids (scope_ids (filter test rows))) 0 (filter test rows) d))

-- where rows that are kept disagree, so do the rows of the table
pub disagrees_from : (t other : Table) (test : MainRow → Bool) → main_rows_in t ≡ renewed (filter test (main_rows_in other)) → HasIds other 1 (ids_in other 1) → HasIds other 4 (ids_in other 4)
    → Disagrees t → Disagrees other
disagrees_from t other test again resources scopes d =
    disagrees_too other resources scopes (disagree_from test (main_rows_in other) (subst Disagree again (disagree_too t d)))

-- ---- points of a metric of another shape

running_at : (n : ℕ) (rows : List MainRow) (k m : ℕ) → get_or (running n rows) k None ≡ Some m → m ≡ n + k
running_at n [] k m is = absurd (let s : None ≡ Some m = is in cc s)
running_at n (row ∷ rows) zero m is = (let s : n ≡ m = some_same n m is in omega (arith, s)) where
  some_same : (a b : ℕ) → Some a ≡ Some b → a ≡ b
  some_same a b s = cc s
running_at n (row ∷ rows) (suc k) m is = let more = running_at (suc n) rows k m is in omega (arith, more)

-- the cells of a main row by its index
own_at : (resources scopes : List (Option ℕ)) (n o r s : ℕ) (rows : List MainRow) (d : MainRow) (k : ℕ) → AllByRecursion IsShaped rows → k < length rows
    → drop 9 (get_or (stored_main o r s (renewed_from resources scopes n rows)) k []) ≡ (get_or rows k d).own
own_at resources scopes n o r s [] d k shaped within = absurd (omega arith)
own_at resources scopes n o r s (row ∷ rows) d zero shaped within = rw (shaped.0.0, shaped.0.1) refl
own_at resources scopes n o r s (row ∷ rows) d (suc k) shaped within =
    own_at resources scopes (suc n) n (past_id r (new_number resources row.resource_id)) (past_id s (new_number scopes row.scope_id)) rows d k shaped.1 (omega arith)

-- the first cell after the front of a row
ninth : (cells : List Cell) → get_or cells 9 null ≡ get_or (drop 9 cells) 0 null
ninth cells = sym (cell_behind 9 0 9 cells (omega arith))

own_id_at : (rows : List MainRow) (d : MainRow) (k : ℕ) → k < length rows → get_or (own_ids rows) k None ≡ (get_or rows k d).id
own_id_at [] d k within = absurd (omega arith)
own_id_at (row ∷ rows) d zero within = refl
own_id_at (row ∷ rows) d (suc k) within = own_id_at rows d k (omega arith)

no_row : MainRow
no_row = main_row None None None []

-- a row of a main table by its index
record IsRowAt (t : Table) (x : MainRow) : Type 0 where
  place : ℕ
  there : place < length t.rows
  id : id_at (ids_in t 0) place ≡ x.id
  own : drop 9 (get_or t.rows place []) ≡ x.own

row_at : (t : Table) (x : MainRow) → Contains (main_rows_in t) x → IsRowAt t x
unfolding main_rows
row_at t x at =
    let f = main_row_at (ids_in t 0) (ids_in t 1) (ids_in t 4) t.rows in
    let within : at.0 < length t.rows = omega (arith, at.1, length-map-range_with_len f 0 (length t.rows)) in
    let is : f at.0 ≡ x = sym (get_or-map-range_with_len f 0 (length t.rows) at.0 at.0 x within (omega arith)) ∙ at.2 in
    record { place = at.0; there = within; id = ap (λ (row : MainRow). row.id) is; own = ap (λ (row : MainRow). row.own) is }

-- a parent that a row names is among the parents of its table
parent_at : (t : Table) (row : ChildRow) (p : ℕ) → length (ids_in t 1) ≡ length t.rows → Contains (part_rows_in t) row → row.parent ≡ Some p → Contains (ids_in t 1) (Some p)
unfolding child_rows
parent_at t row p long at is =
    let f = child_row_at (ids_in t 0) (ids_in t 1) (map (drop 2) t.rows) in
    let size = length-map t.rows (drop 2) in
    let within : at.0 < length (map (drop 2) t.rows) = omega (arith, at.1, length-map-range_with_len f 0 (length (map (drop 2) t.rows))) in
    let here : f at.0 ≡ row = sym (get_or-map-range_with_len f 0 (length (map (drop 2) t.rows)) at.0 at.0 row within (omega arith)) ∙ at.2 in
    let low : at.0 < length (ids_in t 1) = omega (arith, within, size, long) in
    (at.0, low, get_or_default (ids_in t 1) at.0 (Some p) None low ∙ ap (λ (row : ChildRow). row.parent) here ∙ is)

-- a new number of a parent which some row names
abbrev IsNamed : List (Option ℕ) → List ChildRow → ℕ → Type 0
IsNamed ids rows n = (row : ChildRow) × Contains rows row × (new_number ids row.parent ≡ Some n)

named_parts : (ids : List (Option ℕ)) (rows : List ChildRow) → AllByRecursion (λ p. IsNamed ids rows p.parent) (parts_under ids rows)
unfolding parts_under
named_parts ids rows =
    each_sorted (λ p. IsNamed ids rows p.parent) has_lesser_parent (under ids rows)
    (each_under (λ p. IsNamed ids rows p.parent) ids rows (each_is (λ row. (n : ℕ) → new_number ids row.parent ≡ Some n → IsNamed ids rows n) rows (λ row at n is. (row, at, is))))

module _ (fits : ℕ → Bool) (kind main : Kind) (t other_main : Table) (test : MainRow → Bool) (long : length (ids_in t 1) ≡ length t.rows)
    (given : HasIds t 1 (ids_in t 1)) (given_main : HasIds other_main 0 (ids_in other_main 0)) (shaped : AllByRecursion IsShaped (filter test (main_rows_in other_main))) where
  abbrev rows : List MainRow
  rows = filter test (main_rows_in other_main)

  abbrev ps : List (PlacedIn ChildRow)
  ps = parts_under (own_ids rows) (part_rows_in t)

  abbrev kept_points : Table
  kept_points = kept_parts kind ps

  abbrev kept_metrics : Table
  kept_metrics = kept_main main (renewed rows)

  -- the number of a kept row is its index; the row of that index is in the batch, with the same type
  module _ (row id p : ℕ) (within : row < length rows) (part : ChildRow) (named : Contains (part_rows_in t) part) (parent : part.parent ≡ Some p)
      (number : new_number (own_ids rows) (Some p) ≡ Some row) (other : fits (type_at kept_metrics row) ≡ false) where
    abbrev x : MainRow
    x = get_or rows row no_row

    x_id : x.id ≡ Some p
    x_id =
        let at = found_at 0 (own_ids rows) p row number in
        let same : at.j ≡ row = omega (arith, at.is) in
        sym (own_id_at rows no_row row within) ∙ ap (λ k. get_or (own_ids rows) k None) (sym same) ∙ at.at

    x_there : Contains (main_rows_in other_main) x
    x_there = in_filter test (main_rows_in other_main) x (row, within, get_or_default rows row x no_row within)

    abbrev place : IsRowAt other_main x
    place = row_at other_main x x_there

    same_type : type_at kept_metrics row ≡ type_at other_main place.place
    unfolding kept_main renewed
    same_type =
        ap nat_in (ninth (get_or (stored_main 0 0 0 (renewed_from (first_ids (resource_ids rows)) (first_ids (scope_ids rows)) 0 rows)) row [])
        ∙ ap (λ (cells : List Cell). get_or cells 0 null)
        (own_at (first_ids (resource_ids rows)) (first_ids (scope_ids rows)) 0 0 0 0 rows no_row row shaped within ∙ sym place.own)
        ∙ sym (ninth (get_or other_main.rows place.place [])))

    wrong_there : WrongParent fits t other_main
    wrong_there = record {
      parents = ids_in t 1;
      ids = ids_in other_main 0;
      are = given;
      known = given_main;
      is = record {
        row = place.place;
        there = place.there;
        other = ap fits (sym same_type) ∙ other;
        id = p;
        own = place.id ∙ x_id;
        named = parent_at t part p long named parent;
      };
    }

  -- where a point that is kept names a metric of another shape, so does a point of the batch
  pub shape_from : HasIds kept_points 1 (map (λ (row : ChildRow). row.parent) (part_rows numbered own_cells 0 ps)) → HasIds kept_metrics 0 (running 0 rows) → length kept_metrics.rows ≡ length rows
      → WrongParent fits kept_points kept_metrics → WrongParent fits t other_main
  shape_from parents_are ids_are size w =
      let named : List (Option ℕ) = map (λ (row : ChildRow). row.parent) (part_rows numbered own_cells 0 ps) in
      let ids : w.ids ≡ running 0 rows = one_given kept_metrics 0 w.ids (running 0 rows) w.known ids_are in
      let at = running_at 0 rows w.is.row w.is.id (ap (λ ids. get_or ids w.is.row None) (sym ids) ∙ w.is.own) in
      let same : w.is.id ≡ w.is.row = omega (arith, at) in
      let there : Contains named (Some w.is.id) = subst (λ ps. Contains ps (Some w.is.id)) (one_given kept_points 1 w.parents named w.are parents_are) w.is.named in
      let from : IsNamed (own_ids rows) (part_rows_in t) w.is.id = parents_from (IsNamed (own_ids rows) (part_rows_in t)) 0 ps (named_parts (own_ids rows) (part_rows_in t)) w.is.id there in
      let p = some_id (own_ids rows) from.0.parent w.is.id from.2 in
      wrong_there w.is.row w.is.id p.0 (omega (arith, w.is.there, size)) from.0 from.1 p.1 (p.2 ∙ ap Some same) w.is.other
