-- A record that the policy gives is read: no message of it has a defect, and its record batch is the table.
use Rattle.std.proofs.Common.{◌≡◌, ℕ, suc, zero, ◌<◌, ◌≤◌, Bool, true, false, ◌||◌, List, [], ◌∷◌, ◌++◌, length, get_or, Option, Some, None, refl, sym, ap, ◌∙◌, subst, arith, append_assoc, nat_lt, ◌⊎◌, inl, inr}
use Rattle.std.specs.Prelude.{sum_by, ℤ, pos, not, Ok, is_ok, slice_get, All}
use Rattle.std.specs.List.{AllByRecursion, list_any, list_all}
use Rattle.std.specs.Ordering.{int_eq}
use Rattle.std.proofs.lemmas.Bool.{cases_Bool, false≢true, le-ltb}
use Rattle.std.proofs.lemmas.Bool.Decides.{Decides-int_eq}
use Rattle.std.proofs.lemmas.List.{length-map}
use Rattle.std.proofs.lemmas.List.FromFn.{fill_by_all}
use Rattle.std.proofs.lemmas.List.Elements.{All-get_or}
use Rattle.lists.specs.EachAfter.{AllAfter}
use Rattle.lists.proofs.Growing.{all_after-push, all_after-append}
use Rattle.lists.proofs.Every.{every_weaker}
use Rattle.arrow_schema.specs.declared.spec.ArrowType.{ArrowType}
use Rattle.arrow_schema.specs.declared.spec.DictSpec.{DictSpec}
use Rattle.arrow_buffers.proofs.EachBelow.{all_below-each}
use Rattle.arrow_ipc.specs.declared.messages.IpcMessage.{IpcMessage}
use Rattle.arrow_ipc.specs.declared.messages.IpcMessage.TheVariants.{Schema, Dictionary, Rows}
use Rattle.arrow_ipc.specs.Batches.{BatchIn}
use Rattle.arrow_arrays.specs.declared.spec.ArraySpec.{ArraySpec}
use Rattle.arrow_arrays.specs.Arrays.{arrays_of, cell_of, array_place}
use Rattle.arrow_arrays.specs.Cells.{array_check, own_cell, place_of_values}
use Rattle.otap_cells.specs.declared.payload.Kind.{Kind}
use Rattle.otap_cells.specs.Cells.{Cell, null, IsCellOf}
use Rattle.otap_cells.specs.Columns.{base_at, coding_at, is_id_at, width_of}
use Rattle.otap_cells.specs.Tables.{Table, IsTable, SameTable, cell_in, coding_in, row_by, rows_by}
use Rattle.otap_cells.proofs.ByPlace.{id_within, rows-table_by}
use Rattle.otap_columns.specs.Limits.{dictionary_limit, held_most, held_of_kind}
use Rattle.otap_columns.specs.declared.forms.ColumnForm.{ColumnForm}
use Rattle.otap_columns.specs.declared.forms.ColumnForm.TheVariants as form
use Rattle.otap_columns.specs.Dictionaries.{value_weight, dictionary_weight, dictionary_over, DictionaryIn, has_id, filled, empty_dictionaries, dictionaries_in, is_too_large, values_for}
use Rattle.otap_columns.specs.Known.{place_at, column_coding, column_greatest, stored_cell}
use Rattle.otap_columns.specs.Substreams.{SubstreamIn, held_if, held_in, schema_in, substream_of, substream_in, value_by_index, is_index_below, replaced}
use Rattle.otap_columns.specs.Substreams.{field_value, value_if, column_value, column_cell, table_of_batch, field_fits, field_fits_if, indexes_fit}
use Rattle.otap_columns.specs.Records.{IsFineBatch, IsFineIn, IsFine, is_fine_for}
use Rattle.otap_columns.specs.Schemas.{Forms, FormsFit, IsFound, is_present, is_dictionary, arrow_type_in, coding_for, dict_for, schema_for}
use Rattle.otap_columns.specs.Observed.{bytes_for}
use Rattle.otap_columns.specs.BuiltCells.{FitsForm}
use Rattle.otap_columns.specs.WrittenPayloads.{LeadsTo, Stores, HoldsRows, heads}
use Rattle.otap_columns.proofs.CellsBack.{cell_back}
use Rattle.otap_columns.proofs.Growing.{dictionary-other, dictionaries_in-batch, schema_in-stays, substream_from}
use Rattle.otap_columns.proofs.HeldLess.{all_light, few_dictionaries}
use Rattle.otap_columns.proofs.HeadsTaken.{all_some, Turn, stays, gets, Turns, after_turn, few_after}
use Rattle.otap_columns.proofs.LookedUp.{all_by, none_by, values_found, id_known, each_dictionary}
use Rattle.otap_columns.proofs.SchemaFacts.{HasColumn, has_column, coded, own_cells, dict_given, dict_there, form_there}
use Rattle.otap_columns.proofs.Located.{column_found, column_absent}
use Rattle.otap_columns.proofs.Tabled.{table_kind, table_coding}

-- the type of a column in its form
abbrev pub type_at : Kind → Forms → ℕ → ArrowType
type_at kind forms column = arrow_type_in (base_at kind column) (forms column)

-- what a record brings after messages that begin with its schema
pub record Step (kind : Kind) (forms : Forms) (values : ℕ → List (List ℕ)) (start : List IpcMessage) (head : ℕ → List IpcMessage) (rows : BatchIn) (t : Table) : Type 0 where
  pub fit : FormsFit kind forms
  pub rest : List IpcMessage
  pub is : start ≡ Schema (schema_for kind forms) ∷ rest
  pub turns : Turns (type_at kind forms) (λ column. is_dictionary (forms column)) (width_of kind) start values head
  pub light : (column : ℕ) → column < width_of kind → is_dictionary (forms column) ≡ true → sum_by value_weight (all_some (values column)) ≤ held_most
  pub few : (column : ℕ) → column < width_of kind → is_dictionary (forms column) ≡ true → length (values column) ≤ dictionary_limit
  pub small : (column : ℕ) → column < width_of kind → is_dictionary (forms column) ≡ true → length (dictionary_over (type_at kind forms column) (pos column) start) ≤ dictionary_limit
  pub holds : HoldsRows kind forms values t rows
  pub kind_is : t.kind ≡ kind
  pub table : IsTable t
  pub codings : (column : ℕ) → is_id_at kind column ≡ true → coding_in t column ≡ coding_for (coding_at kind column) (forms column)
  pub absent_null : (column row : ℕ) → is_present (forms column) ≡ false → row < length t.rows → cell_in t.rows column row ≡ null
  pub cells_fit : (column row : ℕ) → is_present (forms column) ≡ true → FitsForm (base_at kind column) (forms column) (cell_in t.rows column row)

-- what is stored in a dictionary's form leads to the value, and in another form is it
leads : (f : ColumnForm) (values : List (List ℕ)) (value found : Option (List ℕ)) → is_dictionary f ≡ true → Stores f values value found → LeadsTo values value found
leads form.Dict8 values value found is h = h
leads form.Dict16 values value found is h = h
leads form.Absent values value found is h = absurd (false≢true is)
leads form.Plain values value found is h = absurd (false≢true is)
leads form.Wide values value found is h = absurd (false≢true is)
leads (form.Coded how) values value found is h = absurd (false≢true is)

plainly : (column : ℕ) (f : ColumnForm) (values : List (List ℕ)) (value found : Option (List ℕ)) → is_present f ≡ true → dict_for column f ≡ None → Stores f values value found → found ≡ value
plainly column form.Plain values value found is none h = h
plainly column form.Wide values value found is none h = h
plainly column (form.Coded how) values value found is none h = h
plainly column form.Absent values value found is none h = absurd (false≢true is)
plainly column form.Dict8 values value found is none h = absurd (cc)
plainly column form.Dict16 values value found is none h = absurd (cc)

-- rows again from their cells
rows_again : (kind : Kind) (rows : List (List Cell)) (count : ℕ) (cell : ℕ → ℕ → Cell) → length rows ≡ count → All (λ row. length row ≡ width_of kind) rows
    → ((column row : ℕ) → column < width_of kind → row < count → cell column row ≡ cell_in rows column row) → rows_by kind count cell ≡ rows
rows_again kind rows count cell size wide same =
    sym (fill_by_all (row_by kind cell) rows count [] size
    (λ row low. fill_by_all (λ column. cell column row) (get_or rows row []) (width_of kind) null (All-get_or (λ row. length row ≡ width_of kind) rows row [] (omega arith) wide)
    (λ column below. sym (same column row below low))))

module _ (kind : Kind) (forms : Forms) (values : ℕ → List (List ℕ)) (start : List IpcMessage) (head : ℕ → List IpcMessage) (rows : BatchIn) (t : Table) (s : Step kind forms values start head rows t) where
  schema_starts : schema_in start ≡ Some (schema_for kind forms)
  schema_starts = ap schema_in s.is

  -- the sub-stream after more messages
  pub stands : (ms : List IpcMessage) → substream_in (start ++ ms) ≡ Some (substream_of (start ++ ms) (schema_for kind forms))
  stands ms = substream_from (start ++ ms) (schema_for kind forms) (schema_in-stays start ms (schema_for kind forms) schema_starts)

  -- a dictionary of the schema is that of a column
  record IsOwn (type : ArrowType) (id : ℤ) : Type 0 where
    pub column : ℕ
    pub below : column < width_of kind
    pub dict : is_dictionary (forms column) ≡ true
    pub id_is : id ≡ pos column
    pub type_is : type ≡ arrow_type_in (base_at kind column) (forms column)

  owned : (place : ℕ) (a : ArraySpec) (d : DictSpec) → slice_get (arrays_of (schema_for kind forms)) place ≡ Some a → a.dict ≡ Some d → IsOwn a.kind d.id
  owned place a d at is =
      let h : HasColumn kind forms s.fit place a = has_column kind forms s.fit place a d at is in
      let told = dict_given h.column (forms h.column) d (sym h.dict ∙ is) in
      record { column = h.column; below = h.below; dict = told.0; id_is = told.1; type_is = h.type }

  each_owned : AllByRecursion (λ (d : DictionaryIn). IsOwn d.kind d.id) (empty_dictionaries (arrays_of (schema_for kind forms)))
  each_owned = each_dictionary IsOwn (arrays_of (schema_for kind forms)) owned

  -- no dictionary has too many values
  few_up : (n : ℕ) → n ≤ width_of kind → list_any is_too_large (dictionaries_in (arrays_of (schema_for kind forms)) (start ++ heads head n)) ≡ false
  unfolding dictionaries_in
  few_up n low =
      none_by is_too_large (filled (start ++ heads head n)) (empty_dictionaries (arrays_of (schema_for kind forms)))
      (every_weaker (λ (d : DictionaryIn). IsOwn d.kind d.id) (λ (d : DictionaryIn). is_too_large (filled (start ++ heads head n) d) ≡ false) each (empty_dictionaries (arrays_of (schema_for kind forms))) each_owned)
    where
      each : (d : DictionaryIn) → IsOwn d.kind d.id → nat_lt dictionary_limit (length (dictionary_over d.kind d.id (start ++ heads head n))) ≡ false
      each d o =
          let here : length (dictionary_over (arrow_type_in (base_at kind o.column) (forms o.column)) (pos o.column) (start ++ heads head n)) ≤ dictionary_limit =
          few_after (type_at kind forms) (λ column. is_dictionary (forms column)) (width_of kind) start values head s.turns dictionary_limit o.column n low o.dict
          (s.few o.column o.below o.dict) (s.small o.column o.below o.dict) in
          le-ltb dictionary_limit (length (dictionary_over d.kind d.id (start ++ heads head n))) (rw (o.type_is, o.id_is) here)

  -- the values of a column's batch are fine for each dictionary of its id
  fine_for : (column : ℕ) (batch : BatchIn) (ms : List IpcMessage) → array_check batch (place_of_values (arrow_type_in (base_at kind column) (forms column))) ≡ Ok tt
      → list_all (is_fine_for (pos column) batch) (dictionaries_in (arrays_of (schema_for kind forms)) ms) ≡ true
  unfolding dictionaries_in
  fine_for column batch ms fine =
      all_by (is_fine_for (pos column) batch) (filled ms) (empty_dictionaries (arrays_of (schema_for kind forms)))
      (every_weaker (λ (d : DictionaryIn). IsOwn d.kind d.id) (λ (d : DictionaryIn). is_fine_for (pos column) batch (filled ms d) ≡ true) each (empty_dictionaries (arrays_of (schema_for kind forms))) each_owned)
    where
      by : (d : DictionaryIn) → IsOwn d.kind d.id → (int_eq d.id (pos column) ≡ true) ⊎ (int_eq d.id (pos column) ≡ false)
          → (not (int_eq d.id (pos column)) || is_ok (array_check batch (place_of_values d.kind))) ≡ true
      by d o (inr other) = rw other refl
      by d o (inl same) =
          let ids : pos o.column ≡ pos column = sym o.id_is ∙ (Decides-int_eq d.id (pos column)).0 same in
          let columns : o.column ≡ column = cc in
          let type : d.kind ≡ arrow_type_in (base_at kind column) (forms column) = o.type_is ∙ ap (λ c. arrow_type_in (base_at kind c) (forms c)) columns in
          rw same (ap (λ (k : ArrowType). is_ok (array_check batch (place_of_values k))) type ∙ ap is_ok fine)

      each : (d : DictionaryIn) → IsOwn d.kind d.id → is_fine_for (pos column) batch (filled ms d) ≡ true
      each d o = by d o (cases_Bool (int_eq d.id (pos column)))

  up-suc : (n : ℕ) (ms : List IpcMessage) → ms ≡ head n → (start ++ heads head n) ++ ms ≡ start ++ heads head (suc n)
  up-suc n ms is = append_assoc start (heads head n) ms ∙ ap (λ ns. start ++ (heads head n ++ ns)) is

  -- a column's batch is fine
  fine_batch : (column : ℕ) (delta : Bool) (batch : BatchIn) → column < width_of kind → is_dictionary (forms column) ≡ true → Dictionary (pos column) delta batch ∷ [] ≡ head column
      → array_check batch (place_of_values (arrow_type_in (base_at kind column) (forms column))) ≡ Ok tt
      → IsFineBatch (pos column) delta batch (dictionaries_in (arrays_of (schema_for kind forms)) (start ++ heads head column))
  fine_batch column delta batch below dict is fine =
      let f : IsFound kind forms column = column_found kind forms s.fit column below (form_there (forms column) dict) in
      let d = dict_there column (forms column) dict in
      record {
        known =
            subst (λ (id : ℤ). list_any (has_id id) (dictionaries_in (arrays_of (schema_for kind forms)) (start ++ heads head column)) ≡ true) d.2
            (id_known (arrays_of (schema_for kind forms)) (start ++ heads head column) f.place f.array d.0 f.at (f.dict ∙ d.1));
        fine = fine_for column batch (start ++ heads head column) fine;
        few =
            ap (list_any is_too_large) (sym (dictionaries_in-batch (arrays_of (schema_for kind forms)) (pos column) delta batch (start ++ heads head column)))
            ∙ ap (λ ms. list_any is_too_large (dictionaries_in (arrays_of (schema_for kind forms)) ms)) (up-suc column (Dictionary (pos column) delta batch ∷ []) is)
            ∙ few_up (suc column) (omega arith);
      }

  is_fine : (ms : List IpcMessage) (m : IpcMessage) → IsFineIn kind (start ++ ms) (Some (substream_of (start ++ ms) (schema_for kind forms))) m → IsFine kind (start ++ ms) m
  is_fine ms m h = subst (λ (o : Option SubstreamIn). IsFineIn kind (start ++ ms) o m) (sym (stands ms)) h

  by_turn : (n : ℕ) (ms : List IpcMessage) → n < width_of kind → is_dictionary (forms n) ≡ true → ms ≡ head n → Turn (arrow_type_in (base_at kind n) (forms n)) n start (values n) ms
      → AllAfter (IsFine kind) (start ++ heads head n) ms
  by_turn n [] below dict is (stays same) = tt
  by_turn n (m ∷ ms) below dict is (gets delta batch same fine) = (is_fine (heads head n) (Dictionary (pos n) delta batch) (fine_batch n delta batch below dict is fine), tt)

  fine_head : (n : ℕ) → n < width_of kind → AllAfter (IsFine kind) (start ++ heads head n) (head n)
  fine_head n below = by (cases_Bool (is_dictionary (forms n)))
    where
      by : (is_dictionary (forms n) ≡ true) ⊎ (is_dictionary (forms n) ≡ false) → AllAfter (IsFine kind) (start ++ heads head n) (head n)
      by (inl dict) = by_turn n (head n) below dict refl (s.turns.own n below dict)
      by (inr not) = subst (λ (ms : List IpcMessage). AllAfter (IsFine kind) (start ++ heads head n) ms) (sym (s.turns.quiet n not)) tt

  fine_heads : (n : ℕ) → n ≤ width_of kind → AllAfter (IsFine kind) start (heads head n)
  fine_heads zero low = tt
  fine_heads (suc n) low = all_after-append (IsFine kind) start (heads head n) (head n) (fine_heads n (omega arith)) (fine_head n (omega arith))

  -- EACH MESSAGE IS FINE
  pub fine_all : AllAfter (IsFine kind) start (heads head (width_of kind) ++ Rows rows ∷ [])
  fine_all = all_after-push (IsFine kind) start (heads head (width_of kind)) (Rows rows) (fine_heads (width_of kind) (omega arith)) (is_fine (heads head (width_of kind)) (Rows rows) s.holds.fine)

  -- ---- after all of them

  abbrev pub whole : List IpcMessage
  whole = start ++ (heads head (width_of kind) ++ Rows rows ∷ [])

  abbrev pub after : SubstreamIn
  after = substream_of (start ++ (heads head (width_of kind) ++ Rows rows ∷ [])) (schema_for kind forms)

  -- each dictionary is as it should be
  pub dictionary_after : (column : ℕ) → column < width_of kind → is_dictionary (forms column) ≡ true
      → dictionary_over (arrow_type_in (base_at kind column) (forms column)) (pos column) (start ++ (heads head (width_of kind) ++ Rows rows ∷ [])) ≡ all_some (values column)
  dictionary_after column below dict =
      ap (dictionary_over (arrow_type_in (base_at kind column) (forms column)) (pos column)) (sym (append_assoc start (heads head (width_of kind)) (Rows rows ∷ [])))
      ∙ dictionary-other (arrow_type_in (base_at kind column) (forms column)) (pos column) (start ++ heads head (width_of kind)) (Rows rows) refl
      ∙ after_turn (type_at kind forms) (λ column. is_dictionary (forms column)) (width_of kind) start values head s.turns column (width_of kind) below (omega arith) dict

  values_after : (place column : ℕ) (a : ArraySpec) (d : DictSpec) → slice_get (arrays_of (schema_for kind forms)) place ≡ Some a → a.dict ≡ Some d → column < width_of kind
      → a.kind ≡ arrow_type_in (base_at kind column) (forms column) → is_dictionary (forms column) ≡ true → d.id ≡ pos column
      → values_for a.kind d.id (dictionaries_in (arrays_of (schema_for kind forms)) (start ++ (heads head (width_of kind) ++ Rows rows ∷ []))) ≡ all_some (values column)
  values_after place column a d at is below type dict id =
      values_found (arrays_of (schema_for kind forms)) (start ++ (heads head (width_of kind) ++ Rows rows ∷ [])) place a d at is
      ∙ (λ i. dictionary_over (type i) (id i) (start ++ (heads head (width_of kind) ++ Rows rows ∷ []))) ∙ dictionary_after column below dict

  -- the cell of an array is its own
  cell_is : (place row : ℕ) (a : ArraySpec) → slice_get (arrays_of (schema_for kind forms)) place ≡ Some a → row < rows.rows
      → cell_of (arrays_of (schema_for kind forms)) rows place row ≡ own_cell rows (array_place a) row
  cell_is place row a at low = own_cells kind forms s.fit rows row place a (s.holds.whole row (omega (arith, s.holds.count))) at

  -- EACH INDEX LEADS TO A VALUE
  index_fits : (place : ℕ) (a : ArraySpec) → slice_get (arrays_of (schema_for kind forms)) place ≡ Some a → field_fits after rows place a.kind a.dict ≡ true
  index_fits place a at = by a.dict refl
    where
      by : (o : Option DictSpec) → a.dict ≡ o → field_fits after rows place a.kind o ≡ true
      by None is = refl
      by (Some d) is =
          let h : HasColumn kind forms s.fit place a = has_column kind forms s.fit place a d at is in
          let told = dict_given h.column (forms h.column) d (sym h.dict ∙ is) in
          all_below-each (λ row. is_index_below (length (values_for a.kind d.id (dictionaries_in (arrays_of (schema_for kind forms)) whole))) (cell_of (arrays_of (schema_for kind forms)) rows place row)) rows.rows
          (λ row low.
          let stored = leads (forms h.column) (values h.column) (bytes_for (base_at kind h.column) (forms h.column) (cell_in t.rows h.column row)) (own_cell rows (array_place a) row) told.0
          (s.holds.cells h.column place row a h.known at (omega (arith, s.holds.count))) in
          (λ i. is_index_below (length (values_after place h.column a d at is h.below h.type told.0 told.1 i)) (cell_is place row a at low i))
          ∙ ap (λ n. is_index_below n (own_cell rows (array_place a) row)) (length-map (values h.column) (λ (value : List ℕ). Some value)) ∙ stored.below)

  pub indexes : indexes_fit after rows ≡ true
  unfolding indexes_fit
  indexes =
      all_below-each (λ place. field_fits_if after rows place (slice_get (arrays_of (schema_for kind forms)) place)) (length (arrays_of (schema_for kind forms)))
      (λ place low. by place (slice_get (arrays_of (schema_for kind forms)) place) refl)
    where
      by : (place : ℕ) (o : Option ArraySpec) → slice_get (arrays_of (schema_for kind forms)) place ≡ o → field_fits_if after rows place o ≡ true
      by place None at = refl
      by place (Some a) at = index_fits place a at

  -- EACH CELL IS THE TABLE'S
  value_is : (column row : ℕ) → column < width_of kind → row < length t.rows → (f : IsFound kind forms column) → is_present (forms column) ≡ true
      → replaced (dictionaries_in (arrays_of (schema_for kind forms)) whole) f.array.kind f.array.dict (cell_of (arrays_of (schema_for kind forms)) rows f.place row)
      ≡ bytes_for (base_at kind column) (forms column) (cell_in t.rows column row)
  value_is column row below low f here = by f.array.dict refl
    where
      in_rows : row < rows.rows
      in_rows = omega (arith, s.holds.count)

      stored : Stores (forms column) (values column) (bytes_for (base_at kind column) (forms column) (cell_in t.rows column row)) (own_cell rows (array_place f.array) row)
      stored = s.holds.cells column f.place row f.array f.known f.at low

      by : (o : Option DictSpec) → f.array.dict ≡ o → replaced (dictionaries_in (arrays_of (schema_for kind forms)) whole) f.array.kind o (cell_of (arrays_of (schema_for kind forms)) rows f.place row)
          ≡ bytes_for (base_at kind column) (forms column) (cell_in t.rows column row)
      by None is =
          cell_is f.place row f.array f.at in_rows
          ∙ plainly column (forms column) (values column) (bytes_for (base_at kind column) (forms column) (cell_in t.rows column row)) (own_cell rows (array_place f.array) row)
          here (sym f.dict ∙ is) stored
      by (Some d) is =
          let told = dict_given column (forms column) d (sym f.dict ∙ is) in
          let lead = leads (forms column) (values column) (bytes_for (base_at kind column) (forms column) (cell_in t.rows column row)) (own_cell rows (array_place f.array) row) told.0 stored in
          (λ i. value_by_index (values_after f.place column f.array d f.at is below f.type told.0 told.1 i) (cell_is f.place row f.array f.at in_rows i)) ∙ lead.is

  is_cell : (column row : ℕ) → IsCellOf (base_at kind column) (cell_in t.rows column row)
  is_cell column row = subst (λ (k : Kind). IsCellOf (base_at k column) (cell_in t.rows column row)) s.kind_is (s.table.fits column row)

  cell_again : (column row : ℕ) → column < width_of kind → row < rows.rows → column_cell kind after rows column row ≡ cell_in t.rows column row
  unfolding column_cell column_value stored_cell
  cell_again column row below in_rows = by (cases_Bool (is_present (forms column)))
    where
      low : row < length t.rows
      low = omega (arith, s.holds.count)

      null_again : (o : Option ℕ) → o ≡ None → stored_cell (base_at kind column) (value_if after rows row o) ≡ null
      null_again None is = refl
      null_again (Some place) is = absurd (cc)

      by : (is_present (forms column) ≡ true) ⊎ (is_present (forms column) ≡ false)
          → stored_cell (base_at kind column) (value_if after rows row (place_at kind (arrays_of (schema_for kind forms)) column)) ≡ cell_in t.rows column row
      by (inl here) =
          let f : IsFound kind forms column = column_found kind forms s.fit column below here in
          (λ i. stored_cell (base_at kind column) (value_if after rows row (f.found i)))
          ∙ (λ i. stored_cell (base_at kind column) (field_value after rows row f.place (f.at i)))
          ∙ ap (stored_cell (base_at kind column)) (value_is column row below low f here)
          ∙ cell_back (base_at kind column) (forms column) (cell_in t.rows column row) (is_cell column row) (s.cells_fit column row here)
      by (inr not) = null_again (place_at kind (arrays_of (schema_for kind forms)) column) (column_absent kind forms s.fit column not) ∙ sym (s.absent_null column row not low)

  -- THE TABLE AGAIN
  pub same_table : SameTable (table_of_batch kind after rows) t
  unfolding table_of_batch
  same_table = record {
    kind = table_kind kind after rows ∙ sym s.kind_is;
    rows = rows-table_by kind (column_coding kind (arrays_of (schema_for kind forms))) (column_greatest kind (arrays_of (schema_for kind forms))) rows.rows (column_cell kind after rows)
        ∙ rows_again kind t.rows rows.rows (column_cell kind after rows) (sym s.holds.count) (subst (λ (k : Kind). All (λ row. length row ≡ width_of k) t.rows) s.kind_is s.table.wide) cell_again;
    coding = λ column is.
        let id : is_id_at kind column ≡ true = subst (λ (k : Kind). is_id_at k column ≡ true) (table_kind kind after rows) is in
        table_coding kind after rows column id ∙ coded kind forms s.fit column (id_within kind column id) ∙ sym (s.codings column id);
  }

  -- WHAT IS HELD
  pub held : held_in (start ++ (heads head (width_of kind) ++ Rows rows ∷ [])) ≤ held_of_kind kind
  unfolding held_in dictionaries_in
  held =
      let few = few_dictionaries kind forms s.fit in
      let all = all_light (filled (start ++ (heads head (width_of kind) ++ Rows rows ∷ []))) held_most (empty_dictionaries (arrays_of (schema_for kind forms)))
      (every_weaker (λ (d : DictionaryIn). IsOwn d.kind d.id) (λ (d : DictionaryIn). dictionary_weight (filled (start ++ (heads head (width_of kind) ++ Rows rows ∷ [])) d) ≤ held_most) each
      (empty_dictionaries (arrays_of (schema_for kind forms))) each_owned) in
      subst (λ (o : Option SubstreamIn). held_if o ≤ held_of_kind kind) (sym (stands (heads head (width_of kind) ++ Rows rows ∷ []))) (omega (arith, few, all))
    where
      each : (d : DictionaryIn) → IsOwn d.kind d.id → dictionary_weight (filled (start ++ (heads head (width_of kind) ++ Rows rows ∷ [])) d) ≤ held_most
      each d o =
          let here : sum_by value_weight (dictionary_over (arrow_type_in (base_at kind o.column) (forms o.column)) (pos o.column) (start ++ (heads head (width_of kind) ++ Rows rows ∷ []))) ≤ held_most =
          subst (λ (vs : List (Option (List ℕ))). sum_by value_weight vs ≤ held_most) (sym (dictionary_after o.column o.below o.dict)) (s.light o.column o.below o.dict) in
          rw (o.type_is, o.id_is) here
