-- The columns of a writer before and after one more table: its record is one by the policy.
use Rattle.std.proofs.Common.{◌≡◌, ℕ, ◌<◌, ◌≤◌, Bool, true, false, ◌||◌, List, [], ◌∷◌, ◌++◌, length, get_or, None, refl, sym, ap, ◌∙◌, arith, inl, inr, subst}
use Rattle.std.specs.List.{AllByRecursion}
use Rattle.std.proofs.lemmas.Bool.{cases_lt, false≢true}
use Rattle.std.proofs.lemmas.List.{get_or_past}
use Rattle.otap_cells.specs.declared.payload.Kind.{Kind}
use Rattle.otap_cells.specs.Cells.{Cell, IsCellOf}
use Rattle.otap_cells.specs.Columns.{base_at, column_at, is_id_at, width_of}
use Rattle.otap_cells.specs.Tables.{Table, cell_in, column_in}
use Rattle.otap_cells.specs.Weights.{row_weight_limit, weight_of_table}
use Rattle.otap_dicts.specs.Ladders.{LadderIn, is_dictionary as has_dictionary}
use Rattle.otap_dicts.specs.declared.form.Form.{Form}
use Rattle.otap_dicts.specs.declared.form.Form.TheVariants as ladder
use Rattle.otap_cells.specs.declared.profile.Base.{Base}
use Rattle.otap_cells.specs.Bases.{is_id}
use Rattle.otap_columns.specs.declared.forms.ColumnForm.{ColumnForm}
use Rattle.otap_columns.specs.declared.forms.ColumnForm.TheVariants as form
use Rattle.otap_columns.specs.WrittenPayloads.{IsWritableTable}
use Rattle.otap_columns.specs.Schemas.{FormsFit, fits_form, is_dictionary, is_present, item_in}
use Rattle.otap_columns.specs.Observed.{bytes_for, form_at, is_own_id, is_wide, of_ladder, dictionary_values}
use Rattle.otap_columns.specs.BuiltCells.{FitsForm}
use Rattle.otap_columns.specs.Seen.{SeenIn}
use Rattle.otap_columns.specs.SeenInside.{filled_up, form_kept, id_form_kept, is_absent, places_of_cells}
use Rattle.otap_columns.specs.WrittenCells.{FitsIndexes, place_among}
use Rattle.otap_columns.specs.FormsIn.{forms_in}
use Rattle.otap_columns.specs.WrittenRecords.{CanSendColumn}
use Rattle.otap_columns.specs.WrittenRows.{HasValues, IsKnownIn, unseen as unseen_column}
use Rattle.otap_columns.specs.BuiltRows.{CanWrite, columns_in}
use Rattle.otap_columns.specs.Writers.{AreSeen, AreWritable, is_started}
use Rattle.otap_columns.specs.WriterInside.{AreForms, SeesAll}
use Rattle.otap_columns.proofs.SeenOn.{kept_is}
use Rattle.otap_columns.proofs.ValuesSeen.{forms_fit, few_values, small_values, ids_fit}
use Rattle.otap_columns.proofs.ValuesKept.{base_holds, bytes_alike, kept_values, known_value, narrow_values, no_id, no_list, takes_one, values_are}

-- each of them can be written
pub writable_each : (kind : Kind) (tables : List Table) → AreWritable kind tables → AllByRecursion (IsWritableTable kind) tables
writable_each kind [] all = tt
writable_each kind (t ∷ tables) all = (all.0, writable_each kind tables all.1)

pub writable_more : (kind : Kind) (tables : List Table) (t : Table) → AreWritable kind tables → IsWritableTable kind t → AreWritable kind (tables ++ t ∷ [])
writable_more kind [] t all one = (one, tt)
writable_more kind (u ∷ tables) t all one = (all.0, writable_more kind tables t all.1 one)

pub started_more : (tables : List Table) (t : Table) → is_started (tables ++ t ∷ []) ≡ true
started_more [] t = refl
started_more (u ∷ tables) t = refl

pub seen_more : (kind : Kind) (tables : List Table) (t : Table) (old new : List SeenIn) → SeesAll kind t old new → AreSeen kind tables old → AreSeen kind (tables ++ t ∷ []) new
seen_more kind tables t old new sees seen = record {
  count = sees.count ∙ seen.count;
  each = λ column low. (sees.each column low).at tables (seen.each column low);
}

-- past the columns there is none
past_forms : (forms : List ColumnForm) (column : ℕ) → length forms ≤ column → forms_in forms column ≡ form.Absent
past_forms forms column past = get_or_past forms column form.Absent past

module _ (kind : Kind) (tables : List Table) (columns : List SeenIn) (forms : List ColumnForm) (seen : AreSeen kind tables columns) (told : AreForms kind columns forms) where
  pub form_is : (column : ℕ) → column < width_of kind → forms_in forms column ≡ form_at kind tables column
  form_is column low = told.each column low ∙ kept_is kind tables column _ (seen.each column low)

  pub values_is : (column : ℕ) → column < width_of kind → is_dictionary (forms_in forms column) ≡ true → columns_in columns column ≡ dictionary_values kind tables column
  values_is column low is = ap (λ (l : LadderIn). l.values) (seen.each column low).ladder_is ∙ kept_values kind tables column (ap is_dictionary (sym (form_is column low)) ∙ is)

  pub forms_are_fit : FormsFit kind (forms_in forms)
  forms_are_fit column low = ap (λ (f : ColumnForm). fits_form (column_at kind column) f) (form_is column low) ∙ forms_fit kind tables column low

  -- a dictionary is of a column that is there
  dictionary_low : (column : ℕ) → is_dictionary (forms_in forms column) ≡ true → column < width_of kind
  dictionary_low column is = elim (cases_lt column (width_of kind)) [
    | inl low ↦ low
    | inr past ↦ absurd (false≢true (ap is_dictionary (sym (past_forms forms column (omega (arith, told.count, past)))) ∙ is))
  ]

  is_one : (column : ℕ) → is_dictionary (forms_in forms column) ≡ true → is_dictionary (form_at kind tables column) ≡ true
  is_one column is = ap is_dictionary (sym (form_is column (dictionary_low column is))) ∙ is

  pub indexes_reach : (column : ℕ) → FitsIndexes (forms_in forms column) (length (columns_in columns column))
  indexes_reach column = by (forms_in forms column) refl
    where
      by : (f : ColumnForm) → forms_in forms column ≡ f → FitsIndexes f (length (columns_in columns column))
      by form.Absent is = tt
      by form.Plain is = tt
      by form.Wide is = tt
      by (form.Coded how) is = tt
      by form.Dict8 is =
          let one : is_dictionary (forms_in forms column) ≡ true = ap is_dictionary is in
          let low : column < width_of kind = dictionary_low column one in
          omega (arith, ap length (values_is column low one), narrow_values kind tables column (sym (form_is column low) ∙ is))
      by form.Dict16 is =
          let one : is_dictionary (forms_in forms column) ≡ true = ap is_dictionary is in
          let low : column < width_of kind = dictionary_low column one in
          omega (arith, ap length (values_is column low one), few_values kind tables column (is_one column one))

  pub is_single : (column : ℕ) → is_dictionary (forms_in forms column) ≡ true → item_in (base_at kind column) ≡ None
  is_single column is = no_list (base_at kind column) (takes_one kind tables column (dictionary_low column is) (is_one column is))

  -- the values of a dictionary can be written from an index on
  pub can_send : AllByRecursion (IsWritableTable kind) tables → (column from : ℕ) → is_dictionary (forms_in forms column) ≡ true → from ≤ length (dictionary_values kind tables column)
      → CanSendColumn (base_at kind column) (forms_in forms column) from (columns_in columns column)
  can_send writable column from is there =
      let low : column < width_of kind = dictionary_low column is in
      let one = is_one column is in
      subst (CanSendColumn (base_at kind column) (forms_in forms column) from) (sym (values_is column low is)) (record {
        there = there;
        few = few_values kind tables column one;
        room = small_values kind tables column one;
        holds_type = base_holds (base_at kind column) (forms_in forms column) (dictionary_values kind tables column) (no_id kind tables column one)
            (takes_one kind tables column low one) (values_are kind column tables writable);
      })

-- ---- the indexes of values

-- each column that is a dictionary has the indexes of its cells
abbrev pub ArePlaced : Kind → Table → List SeenIn → Type 0
ArePlaced kind t columns = (column : ℕ) → column < width_of kind → has_dictionary (get_or columns column unseen_column).ladder.form ≡ true
    → filled_up (length t.rows) (get_or columns column unseen_column).places ≡ places_of_cells (base_at kind column) form.Wide (get_or columns column unseen_column).ladder.values (column_in t.rows column)

pub are_placed : (kind : Kind) (t : Table) (old new : List SeenIn) → SeesAll kind t old new → ArePlaced kind t new
are_placed kind t old new sees = λ column low. (sees.each column low).placed

-- a column that is written as a dictionary is one
dictionary_placed : (kind : Kind) (column : ℕ) (s : SeenIn) → is_dictionary (form_kept kind column s) ≡ true → has_dictionary s.ladder.form ≡ true
dictionary_placed kind column s is = by (is_id_at kind column) refl
  where
    of_id : (own absent wide : Bool) → is_dictionary (id_form_kept own absent wide) ≡ true → has_dictionary s.ladder.form ≡ true
    of_id true true true one = absurd (false≢true one)
    of_id true true false one = absurd (false≢true one)
    of_id true false true one = absurd (false≢true one)
    of_id true false false one = absurd (false≢true one)
    of_id false true true one = absurd (false≢true one)
    of_id false true false one = absurd (false≢true one)
    of_id false false true one = absurd (false≢true one)
    of_id false false false one = absurd (false≢true one)

    of_form : (f : Form) → is_dictionary (of_ladder f) ≡ true → has_dictionary f ≡ true
    of_form ladder.Absent one = absurd (false≢true one)
    of_form ladder.Dict8 one = refl
    of_form ladder.Dict16 one = refl
    of_form ladder.Plain one = absurd (false≢true one)

    by : (id : Bool) → is_id_at kind column ≡ id → has_dictionary s.ladder.form ≡ true
    by true here = of_id (is_own_id kind column) (is_absent s.ladder.form) (is_wide (base_at kind column) || s.wide) (rw here at is)
    by false here = of_form s.ladder.form (rw here at is)

places_alike : (holds : Base) (f g : ColumnForm) (values : List (List ℕ)) (cells : List Cell) → is_id holds ≡ false → places_of_cells holds f values cells ≡ places_of_cells holds g values cells
places_alike holds f g values [] none = refl
places_alike holds f g values (cell ∷ cells) none = λ i. place_among values (bytes_alike holds f g cell none i) ∷ places_alike holds f g values cells none i

-- ---- the last of the tables

module _ (kind : Kind) (before : List Table) (t : Table) (columns : List SeenIn) (forms : List ColumnForm) (seen : AreSeen kind (before ++ t ∷ []) columns) (told : AreForms kind columns forms)
    (writable : IsWritableTable kind t) where
  pub can_write : weight_of_table t ≤ row_weight_limit → ArePlaced kind t columns → CanWrite (forms_in forms) columns t
  can_write light placed = record {
    placed = λ column low is.
        let below : column < width_of kind = subst (λ (k : Kind). column < width_of k) writable.kind_is low in
        let s = get_or columns column unseen_column in
        let own : has_dictionary s.ladder.form ≡ true = dictionary_placed kind column s (ap is_dictionary (sym (told.each column below)) ∙ is) in
        let none : is_id (base_at kind column) ≡ false = no_id kind (before ++ t ∷ []) column (is_one kind (before ++ t ∷ []) columns forms seen told column is) in
        placed column below own
        ∙ places_alike (base_at kind column) form.Wide (forms_in forms column) s.ladder.values (column_in t.rows column) none
        ∙ ap (λ k. places_of_cells (base_at k column) (forms_in forms column) s.ladder.values (column_in t.rows column)) (sym writable.kind_is);
    table = writable.table;
    count = seen.count ∙ ap width_of (sym writable.kind_is);
    fits = λ column low there row in_rows.
        let below : column < width_of kind = subst (λ (k : Kind). column < width_of k) writable.kind_is low in
        let is = form_is kind (before ++ t ∷ []) columns forms seen told column below in
        subst (λ (k : Kind). FitsForm-at k column row) (sym writable.kind_is) (here column row (ap is_present (sym is) ∙ there) is);
    few = indexes_reach kind (before ++ t ∷ []) columns forms seen told;
    single = λ column is. subst (λ (k : Kind). item_in (base_at k column) ≡ None) (sym writable.kind_is) (is_single kind (before ++ t ∷ []) columns forms seen told column is);
    light = light;
  }
    where
      FitsForm-at : Kind → ℕ → ℕ → Type 0
      FitsForm-at k column row = FitsForm (base_at k column) (forms_in forms column) (cell_in t.rows column row)

      here : (column row : ℕ) → is_present (form_at kind (before ++ t ∷ []) column) ≡ true → forms_in forms column ≡ form_at kind (before ++ t ∷ []) column → FitsForm-at kind column row
      here column row there is =
          subst (λ (f : ColumnForm). FitsForm (base_at kind column) f (cell_in t.rows column row)) (sym is)
          (ids_fit kind before t column row there (writable.ids column) (subst (λ (k : Kind). IsCellOf (base_at k column) (cell_in t.rows column row)) writable.kind_is (writable.table.fits column row)))

  pub has_values : HasValues kind (forms_in forms) (columns_in columns) t
  has_values = record {
    known = λ column row is in_rows.
        let low = dictionary_low kind (before ++ t ∷ []) columns forms seen told column is in
        let one = is_one kind (before ++ t ∷ []) columns forms seen told column is in
        subst (λ (vs : List (List ℕ)). IsKnownIn vs (bytes_for (base_at kind column) (forms_in forms column) (cell_in t.rows column row)))
        (sym (values_is kind (before ++ t ∷ []) columns forms seen told column low is))
        (known_value kind before t column row (forms_in forms column) (no_id kind (before ++ t ∷ []) column one) in_rows);
    few = indexes_reach kind (before ++ t ∷ []) columns forms seen told;
  }
