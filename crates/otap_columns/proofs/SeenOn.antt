-- What is kept of a column after one more table, and the form that follows.
use Rattle.std.proofs.Common.{◌≡◌, ℕ, zero, suc, ◌+◌, ◌<◌, ◌≤◌, Bool, true, false, ◌||◌, List, [], ◌∷◌, ◌++◌, length, take, get_or, map, fold, nat_lt, Option, Some, None}
use Rattle.std.proofs.Common.{refl, sym, ap, ◌∙◌, arith, append-nil, append_assoc}
use Rattle.std.specs.Prelude.{◌&&◌, not, if◌then◌else◌, Result, Ok, Err, OnOk}
use Rattle.std.specs.List.{list_any}
use Rattle.std.proofs.Math.Bool.{or-false}
use Rattle.std.proofs.lemmas.Bool.{false≢true}
use Rattle.std.proofs.lemmas.List.{length-map, take_more, get_or_past}
use Rattle.std.proofs.Math.ListN.{get_or-map}
use Rattle.std.proofs.lemmas.List.Folds.{list_any-append}
use Rattle.std.proofs.lemmas.List.Sums.{fold-append}
use Rattle.otap_cells.specs.declared.payload.Kind.{Kind}
use Rattle.otap_cells.specs.declared.profile.Base.{Base}
use Rattle.otap_cells.specs.declared.profile.Base.TheVariants as base
use Rattle.otap_cells.specs.Bases.{is_id}
use Rattle.otap_cells.specs.Cells.{Cell, null}
use Rattle.otap_cells.specs.Columns.{column_at, base_at, is_id_at}
use Rattle.otap_cells.specs.Tables.{Table, cell_in, column_in}
use Rattle.otap_dicts.specs.declared.form.Form.TheVariants as ladder
use Rattle.otap_dicts.specs.Forms.{distinct, byte_count, is_too_large, form_of}
use Rattle.otap_dicts.specs.Ladders.{LadderIn, is_dictionary, ladder_of, observed}
use Rattle.otap_dicts.proofs.Observing.{observed-push}
use Rattle.otap_dicts.specs.Limits.{narrow_limit}
use Rattle.otap_columns.specs.declared.forms.ColumnForm.{ColumnForm}
use Rattle.otap_columns.specs.declared.forms.ColumnForm.TheVariants as form
use Rattle.otap_columns.specs.Observed.{bytes_for, given, values_in_tables, has_wide_id, is_own_id, is_wide, if_seen, id_form, form_at}
use Rattle.otap_columns.specs.Seen.{SeenIn, IsSeenAfter, may_widen}
use Rattle.otap_columns.specs.SeenInside.{filled_up, observed_if, places_of_cells, SeesTable, is_absent, form_kept, id_form_kept}
use Rattle.otap_columns.proofs.ColumnsBuilt.{cell_at-map}
use Rattle.otap_columns.proofs.ValuesSeen.{seen-push}

-- ---- cell by cell

pub cells_more : (holds : Base) (rows : List (List Cell)) (column row : ℕ) (x : Option (List ℕ)) (start : LadderIn) → row < length rows → x ≡ bytes_for holds form.Wide (cell_in rows column row)
    → observed_if (fold observed_if start (take row (map (bytes_for holds form.Wide) (column_in rows column)))) x ≡ fold observed_if start (take (row + 1) (map (bytes_for holds form.Wide) (column_in rows column)))
cells_more holds rows column row x start low is =
    let cells = map (bytes_for holds form.Wide) (column_in rows column) in
    let long : length cells ≡ length rows = length-map (column_in rows column) (bytes_for holds form.Wide) ∙ length-map rows (λ row. get_or row column null) in
    let inside : row < length cells = omega (arith, long) in
    let one : take (row + 1) cells ≡ take row cells ++ x ∷ [] = take_more cells row None inside ∙ ap (λ y. take row cells ++ y ∷ []) (cell_at-map (bytes_for holds form.Wide) rows column row low ∙ sym is) in
    sym (ap (λ (cs : List (Option (List ℕ))). fold observed_if start cs) one ∙ fold-append observed_if start (take row cells) (x ∷ []))

-- a cell again changes nothing, and no cell changes a plain ladder
pub again_changes_nothing : ((l : LadderIn) (value : List ℕ) → observed (observed l value) value ≡ observed l value)
    → (l : LadderIn) (x : Option (List ℕ)) → observed_if (observed_if l x) x ≡ observed_if l x
again_changes_nothing law l None = refl
again_changes_nothing law l (Some value) = law l value

pub plain_stays : ((l : LadderIn) (value : List ℕ) → l.form ≡ ladder.Plain → observed l value ≡ l)
    → (l : LadderIn) → l.form ≡ ladder.Plain → (cells : List (Option (List ℕ))) → l ≡ fold observed_if l cells
plain_stays law l plain [] = refl
plain_stays law l plain (None ∷ cells) = plain_stays law l plain cells
plain_stays law l plain (Some value ∷ cells) = plain_stays law l plain cells ∙ sym (ap (λ (m : LadderIn). fold observed_if m cells) (law l value plain))

-- null cells change nothing, so those after the last one that was set needn't be looked at
nulls_change_nothing : (l : LadderIn) (cells : List (Option (List ℕ))) → ((k : ℕ) → get_or cells k None ≡ None) → l ≡ fold observed_if l cells
nulls_change_nothing l [] none = refl
nulls_change_nothing l (None ∷ cells) none = nulls_change_nothing l cells (λ k. none (suc k))
nulls_change_nothing l (Some value ∷ cells) none = absurd (let wrong : Some value ≡ None = none 0 in cc)

nulls_at_end : (l : LadderIn) (k : ℕ) (cells : List (Option (List ℕ))) → ((row : ℕ) → k ≤ row → get_or cells row None ≡ None) → fold observed_if l (take k cells) ≡ fold observed_if l cells
nulls_at_end l zero cells none = nulls_change_nothing l cells (λ k. none k (omega arith))
nulls_at_end l (suc k) [] none = refl
nulls_at_end l (suc k) (x ∷ cells) none = nulls_at_end (observed_if l x) k cells (λ row le. none (suc row) (omega (arith, le)))

pub null_cell : (holds : Base) (rows : List (List Cell)) (column row : ℕ) → cell_in rows column row ≡ null → get_or (map (bytes_for holds form.Wide) (column_in rows column)) row None ≡ None
null_cell holds rows column row is =
    get_or-map (bytes_for holds form.Wide) (column_in rows column) row null ∙ ap (bytes_for holds form.Wide) (get_or-map (λ cells. get_or cells column null) rows row [] ∙ is)

pub seen_to_last : (holds : Base) (rows : List (List Cell)) (column k : ℕ) (start : LadderIn) → ((row : ℕ) → k ≤ row → cell_in rows column row ≡ null)
    → fold observed_if start (take k (map (bytes_for holds form.Wide) (column_in rows column))) ≡ fold observed_if start (map (bytes_for holds form.Wide) (column_in rows column))
seen_to_last holds rows column k start none = nulls_at_end start k (map (bytes_for holds form.Wide) (column_in rows column)) (λ row le. null_cell holds rows column row (none row le))

-- no cell comes after the last row
pub null_beyond : (rows : List (List Cell)) (column row : ℕ) → length rows ≤ row → cell_in rows column row ≡ null
null_beyond rows column row all = ap (λ (cells : List Cell). get_or cells column null) (get_or_past rows row [] all)

-- all cells of a column
observes : (marked : Bool) (values : List (List ℕ)) (cells : List (Option (List ℕ))) → fold observed_if (ladder_of marked values) cells ≡ ladder_of marked (values ++ given cells)
observes marked values [] = ap (ladder_of marked) (sym (append-nil values))
observes marked values (None ∷ cells) = observes marked values cells
observes marked values (Some value ∷ cells) =
    ap (λ (l : LadderIn). fold observed_if l cells) (observed-push marked values value) ∙ observes marked (values ++ value ∷ []) cells ∙ ap (ladder_of marked) (append_assoc values (value ∷ []) (given cells))

-- ---- a table more

more_wide : (widens a b : Bool) → ((widens && a) || (widens && b)) ≡ (widens && (a || (b || false)))
more_wide true a b = ap (λ c. a || c) (sym (or-false b))
more_wide false a b = refl

pub sees : (kind : Kind) (column : ℕ) (t : Table) (old new : SeenIn) → new.ladder ≡ fold observed_if old.ladder (map (bytes_for (base_at kind column) form.Wide) (column_in t.rows column))
    → new.wide ≡ (old.wide || (may_widen (base_at kind column) && has_wide_id kind column t))
    → (is_dictionary new.ladder.form ≡ true → filled_up (length t.rows) new.places ≡ places_of_cells (base_at kind column) form.Wide new.ladder.values (column_in t.rows column)) → SeesTable kind column t old new
sees kind column t old new ladder_is wide_is placed = record {
  placed = placed;
  at = λ tables is.
      let ladders : new.ladder ≡ ladder_of (column_at kind column).dictionary (values_in_tables kind (tables ++ t ∷ []) column) =
      ladder_is ∙ ap (λ (l : LadderIn). fold observed_if l (map (bytes_for (base_at kind column) form.Wide) (column_in t.rows column))) is.ladder_is
      ∙ observes (column_at kind column).dictionary (values_in_tables kind tables column) (map (bytes_for (base_at kind column) form.Wide) (column_in t.rows column))
      ∙ ap (ladder_of (column_at kind column).dictionary) (sym (seen-push kind tables t column)) in
      let wides : new.wide ≡ (may_widen (base_at kind column) && list_any (has_wide_id kind column) (tables ++ t ∷ [])) =
      wide_is ∙ ap (λ (b : Bool). b || (may_widen (base_at kind column) && has_wide_id kind column t)) is.wide_is
      ∙ more_wide (may_widen (base_at kind column)) (list_any (has_wide_id kind column) tables) (has_wide_id kind column t)
      ∙ ap (λ b. may_widen (base_at kind column) && b) (sym (list_any-append (has_wide_id kind column) tables (t ∷ []))) in
      record { ladder_is = ladders; wide_is = wides };
}

-- ---- the form

absent_ladder : (large wide : Bool) → is_absent (if large then ladder.Plain else (if wide then ladder.Dict16 else ladder.Dict8)) ≡ false
absent_ladder true wide = refl
absent_ladder false true = refl
absent_ladder false false = refl

-- a ladder is absent exactly where no value was seen
kept_id : (own marked : Bool) (values : List (List ℕ)) (f : ColumnForm) → (if is_absent (form_of marked values) && not own then form.Absent else f) ≡ (if own then f else if_seen values f)
kept_id true marked [] f = refl
kept_id false marked [] f = refl
kept_id own false (v ∷ vs) f = by own
  where
    by : (own : Bool) → f ≡ (if own then f else f)
    by true = refl
    by false = refl
kept_id own true (v ∷ vs) f =
    rw (absent_ladder (is_too_large (length (distinct (v ∷ vs))) (byte_count (distinct (v ∷ vs)))) (nat_lt narrow_limit (length (distinct (v ∷ vs))))) (by own)
  where
    by : (own : Bool) → f ≡ (if own then f else f)
    by true = refl
    by false = refl

-- ids that are wide anyway needn't be looked at
wide_anyway : (b : Base) (any : Bool) → is_id b ≡ true → (is_wide b || (may_widen b && any)) ≡ (is_wide b || any)
wide_anyway (base.Id true) any is = refl
wide_anyway (base.Id false) any is = refl
wide_anyway other any is = absurd (false≢true is)

-- the form of a column that saw tables
seen_after : Kind → List Table → ℕ → SeenIn
seen_after kind tables column =
    record { ladder = ladder_of (column_at kind column).dictionary (values_in_tables kind tables column); wide = may_widen (base_at kind column) && list_any (has_wide_id kind column) tables; places = [] }

kept_after : (kind : Kind) (tables : List Table) (column : ℕ) → form_kept kind column (seen_after kind tables column) ≡ form_at kind tables column
unfolding seen_after ladder_of form_at
kept_after kind tables column = by (is_id_at kind column) refl
  where
    by : (id : Bool) → is_id_at kind column ≡ id → form_kept kind column (seen_after kind tables column) ≡ form_at kind tables column
    by true is =
        rw is
        (ap (id_form_kept (is_own_id kind column) (is_absent (form_of (column_at kind column).dictionary (values_in_tables kind tables column))))
        (wide_anyway (base_at kind column) (list_any (has_wide_id kind column) tables) is)
        ∙ kept_id (is_own_id kind column) (column_at kind column).dictionary (values_in_tables kind tables column) (id_form kind tables column))
    by false is = rw is refl

pub kept_is : (kind : Kind) (tables : List Table) (column : ℕ) (s : SeenIn) → IsSeenAfter kind tables column s → form_kept kind column s ≡ form_at kind tables column
unfolding seen_after
kept_is kind tables column s is = (λ i. form_kept kind column (record { ladder = is.ladder_is i; wide = is.wide_is i; places = [] })) ∙ kept_after kind tables column

pub stands : (kind : Kind) (column : ℕ) (s : SeenIn) (f : ColumnForm) → f ≡ form_kept kind column s → (tables : List Table) → IsSeenAfter kind tables column s → f ≡ form_at kind tables column
stands kind column s f told tables is = told ∙ kept_is kind tables column s is

pub sees_step : {E : Type 0} (kind : Kind) (column : ℕ) (t : Table) (old new : SeenIn) (r : Result (Unit {0}) E)
    → OnOk r (new.ladder ≡ fold observed_if old.ladder (map (bytes_for (base_at kind column) form.Wide) (column_in t.rows column)))
    → OnOk r (new.wide ≡ (old.wide || (may_widen (base_at kind column) && has_wide_id kind column t)))
    → OnOk r (is_dictionary new.ladder.form ≡ true → filled_up (length t.rows) new.places ≡ places_of_cells (base_at kind column) form.Wide new.ladder.values (column_in t.rows column))
    → OnOk r (SeesTable kind column t old new)
sees_step kind column t old new (Ok x) ladder_is wide_is placed = sees kind column t old new ladder_is wide_is placed
sees_step kind column t old new (Err e) ladder_is wide_is placed = tt
