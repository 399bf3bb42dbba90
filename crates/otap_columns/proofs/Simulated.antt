-- The payloads that the policy gives are read, each after those before it, as their tables.
use Rattle.std.proofs.Common.{◌≡◌, ◌≢◌, ℕ, suc, zero, ◌<◌, ◌≤◌, Bool, true, false, List, [], ◌∷◌, ◌++◌, length, Option, Some, None, refl, sym, ap, ◌∙◌, subst, arith, append-nil, append_assoc, ◌⊎◌, inl, inr}
use Rattle.std.specs.Prelude.{ℤ, pos, not, if◌then◌else◌}
use Rattle.std.specs.List.{list_any, flat_map}
use Rattle.std.proofs.lemmas.Bool.{cases_Bool, true≢false}
use Rattle.std.proofs.lemmas.Grind.{flat_map-append}
use Rattle.std.proofs.lemmas.List.{length-map, map-append}
use Rattle.std.proofs.lemmas.List.Folds.{list_any-append}
use Rattle.lists.specs.EachAfter.{EachAfter, AllAfter}
use Rattle.lists.specs.Since.{last_after}
use Rattle.lists.proofs.Growing.{all_after-append}
use Rattle.lists.proofs.Latest.{last_after-push}
use Rattle.lists.specs.Payloads.{PayloadIn}
use Rattle.arrow_schema.specs.declared.spec.ArrowType.{ArrowType}
use Rattle.arrow_schema.specs.declared.spec.FieldSpec.{FieldSpec}
use Rattle.arrow_ipc.specs.declared.messages.IpcMessage.{IpcMessage}
use Rattle.arrow_ipc.specs.declared.messages.IpcMessage.TheVariants.{Schema, Rows}
use Rattle.arrow_ipc.specs.Batches.{BatchIn}
use Rattle.arrow_ipc.specs.Fronts.{front_of, left_of}
use Rattle.arrow_arrays.specs.Arrays.{arrays_of}
use Rattle.otap_cells.specs.declared.payload.Kind.{Kind}
use Rattle.otap_cells.specs.Cells.{IsCellOf}
use Rattle.otap_cells.specs.Columns.{base_at, coding_at, width_of}
use Rattle.otap_cells.specs.Payload.{number_of}
use Rattle.otap_cells.specs.Tables.{Table, cell_in}
use Rattle.otap_dicts.specs.Limits.{value_limit}
use Rattle.otap_columns.specs.Limits.{dictionary_limit, held_of_kind}
use Rattle.otap_columns.specs.Streams.{is_of, last_of, opens_after, opens, stream_of}
use Rattle.otap_columns.specs.Dictionaries.{dictionary_over}
use Rattle.otap_columns.specs.Known.{columns_fit}
use Rattle.otap_columns.specs.Substreams.{SubstreamIn, held_in, schema_in, substream_of, substream_in, last_rows, record_batches, logical, table_of_batch}
use Rattle.otap_columns.specs.Records.{is_rows, IsFine, IsFineIn, IsRead}
use Rattle.otap_columns.specs.Schemas.{Forms, is_dictionary, arrow_type_in, schema_for}
use Rattle.otap_columns.specs.Observed.{form_at, dictionary_values, new_at}
use Rattle.otap_columns.specs.WrittenPayloads.{has_some, is_wanted, batch_if, heads, batches_for, messages_for, HoldsValues, IsWritableTable, GoesOn, IsRecord, IsWritten, AreWrittenAs, IsReadAs}
use Rattle.otap_columns.proofs.Growing.{substream-none}
use Rattle.otap_columns.proofs.HeldLess.{light}
use Rattle.otap_columns.proofs.IdsRead.{ids_read}
use Rattle.otap_columns.proofs.HeadsTaken.{all_some, Turn, stays, gets, Turns}
use Rattle.otap_columns.proofs.Openings.{stream_of-own, own_type}
use Rattle.otap_columns.proofs.RecordTaken.{type_at, Step, held, stands, fine_all, dictionary_after, indexes, same_table}
use Rattle.otap_columns.proofs.Located.{schema_fits}
use Rattle.otap_columns.proofs.SchemaForms.{equal_forms}
use Rattle.otap_columns.proofs.Tabled.{logical_is}
use Rattle.otap_columns.proofs.ValuesSeen.{values_grow, forms_fit, forms_own, few_values, small_values, absent_null, ids_fit}

-- what a sub-stream is after tables: it begins with the schema of their forms, and each dictionary has their values
pub record Current (kind : Kind) (tables : List Table) (ms : List IpcMessage) : Type 0 where
  pub rest : List IpcMessage
  pub is : ms ≡ Schema (schema_for kind (form_at kind tables)) ∷ rest
  pub agree : (column : ℕ) → column < width_of kind → is_dictionary (form_at kind tables column) ≡ true
      → dictionary_over (type_at kind (form_at kind tables) column) (pos column) ms ≡ all_some (dictionary_values kind tables column)

pub record InStep (kind : Kind) (tables : List Table) (past : List PayloadIn) : Type 0 where
  pub current : past ≢ [] → Current kind tables (stream_of (pos (number_of kind)) past)

-- ---- the turns of the columns

no_values : (values : List (List ℕ)) → has_some values ≡ false → values ≡ []
no_values [] is = refl
no_values (v ∷ vs) is = absurd (true≢false is)

-- a dictionary that may be written is one that is read
is_taken : (count : ℕ) → count ≤ value_limit → count ≤ dictionary_limit
is_taken count few = omega (arith, few)

module _ (kind : Kind) (before : List Table) (t : Table) (bytes : List ℕ) where
  -- an opening
  opening_turns : (r : IsRecord kind before t true bytes)
      → Turns (type_at kind (form_at kind (before ++ t ∷ []))) (λ column. is_dictionary (form_at kind (before ++ t ∷ []) column)) (width_of kind) (Schema (schema_for kind (form_at kind (before ++ t ∷ []))) ∷ [])
      (dictionary_values kind (before ++ t ∷ [])) (batches_for kind true before (before ++ t ∷ []) r.batches)
  opening_turns r = record {
    own = λ column below dict.
        let h = r.values column below dict in
        subst (Turn (type_at kind (form_at kind (before ++ t ∷ [])) column) column (Schema (schema_for kind (form_at kind (before ++ t ∷ []))) ∷ []) (dictionary_values kind (before ++ t ∷ []) column))
        (rw dict refl) (gets false (r.batches column) h.are h.fine);
    quiet = λ column not. rw not refl;
  }

  opened_empty : (fields : List FieldSpec) (type : ArrowType) (column : ℕ) → length (dictionary_over type (pos column) (Schema fields ∷ [])) ≤ dictionary_limit
  unfolding dictionary_over
  opened_empty fields type column = omega arith

  module _ (w : IsWritableTable kind t) where
    opening_step : (r : IsRecord kind before t true bytes)
        → Step kind (form_at kind (before ++ t ∷ [])) (dictionary_values kind (before ++ t ∷ [])) (Schema (schema_for kind (form_at kind (before ++ t ∷ []))) ∷ [])
        (batches_for kind true before (before ++ t ∷ []) r.batches) r.rows t
    opening_step r = record {
      fit = forms_fit kind (before ++ t ∷ []);
      rest = [];
      is = refl;
      turns = opening_turns r;
      light = λ column below dict. light (dictionary_values kind (before ++ t ∷ []) column) (few_values kind (before ++ t ∷ []) column dict) (small_values kind (before ++ t ∷ []) column dict);
      few = λ column below dict. is_taken (length (dictionary_values kind (before ++ t ∷ []) column)) (few_values kind (before ++ t ∷ []) column dict);
      small = λ column below dict. opened_empty (schema_for kind (form_at kind (before ++ t ∷ []))) (type_at kind (form_at kind (before ++ t ∷ [])) column) column;
      holds = r.holds;
      kind_is = w.kind_is;
      table = w.table;
      codings = λ column id. w.coded column id ∙ sym (forms_own (coding_at kind column) kind (before ++ t ∷ []) column);
      absent_null = λ column row not low. absent_null kind before t column row not low;
      cells_fit = λ column row here. ids_fit kind before t column row here (w.ids column) (subst (λ (k : Kind). IsCellOf (base_at k column) (cell_in t.rows column row)) w.kind_is (w.table.fits column row));
    }

    -- a record that goes on
    module _ (ms : List IpcMessage) (c : Current kind before ms) (same : schema_for kind (form_at kind before) ≡ schema_for kind (form_at kind (before ++ t ∷ []))) where
      told : (column : ℕ) → column < width_of kind → form_at kind before column ≡ form_at kind (before ++ t ∷ []) column
      told column below = equal_forms kind (form_at kind before) (form_at kind (before ++ t ∷ [])) (forms_fit kind before) (forms_fit kind (before ++ t ∷ [])) same column below

      was_dictionary : (column : ℕ) → column < width_of kind → is_dictionary (form_at kind (before ++ t ∷ []) column) ≡ true → is_dictionary (form_at kind before column) ≡ true
      was_dictionary column below dict = ap is_dictionary (told column below) ∙ dict

      was : (column : ℕ) → column < width_of kind → is_dictionary (form_at kind (before ++ t ∷ []) column) ≡ true
          → dictionary_over (type_at kind (form_at kind (before ++ t ∷ [])) column) (pos column) ms ≡ all_some (dictionary_values kind before column)
      was column below dict =
          (λ i. dictionary_over (arrow_type_in (base_at kind column) (sym (told column below) i)) (pos column) ms) ∙ c.agree column below (was_dictionary column below dict)

      going_turns : (r : IsRecord kind before t false bytes)
          → Turns (type_at kind (form_at kind (before ++ t ∷ []))) (λ column. is_dictionary (form_at kind (before ++ t ∷ []) column)) (width_of kind) ms (dictionary_values kind (before ++ t ∷ []))
          (batches_for kind false before (before ++ t ∷ []) r.batches)
      going_turns r = record {
        own = λ column below dict. by column below dict (cases_Bool (has_some (new_at kind before (before ++ t ∷ []) column)));
        quiet = λ column not. rw not refl;
      }
        where
          by : (column : ℕ) → column < width_of kind → is_dictionary (form_at kind (before ++ t ∷ []) column) ≡ true
              → (has_some (new_at kind before (before ++ t ∷ []) column) ≡ true) ⊎ (has_some (new_at kind before (before ++ t ∷ []) column) ≡ false)
              → Turn (type_at kind (form_at kind (before ++ t ∷ [])) column) column ms (dictionary_values kind (before ++ t ∷ []) column) (batches_for kind false before (before ++ t ∷ []) r.batches column)
          by column below dict (inl some) =
              let wanted : is_wanted false kind before (before ++ t ∷ []) column ≡ true = rw (dict, some) refl in
              let h : HoldsValues (arrow_type_in (base_at kind column) (form_at kind (before ++ t ∷ []) column)) (new_at kind before (before ++ t ∷ []) column) (r.batches column) = r.values column below wanted in
              subst (Turn (type_at kind (form_at kind (before ++ t ∷ [])) column) column ms (dictionary_values kind (before ++ t ∷ []) column))
              (rw wanted refl)
              (gets true (r.batches column)
              ((λ i. was column below dict i ++ h.are i)
              ∙ sym (map-append (λ (value : List ℕ). Some value) (dictionary_values kind before column) (new_at kind before (before ++ t ∷ []) column)) ∙ ap all_some (values_grow kind before t column))
              h.fine)
          by column below dict (inr none) =
              let wanted : is_wanted false kind before (before ++ t ∷ []) column ≡ false = rw (dict, none) refl in
              let empty : new_at kind before (before ++ t ∷ []) column ≡ [] = no_values (new_at kind before (before ++ t ∷ []) column) none in
              let stay : dictionary_values kind before column ≡ dictionary_values kind (before ++ t ∷ []) column =
              sym (append-nil (dictionary_values kind before column)) ∙ ap (λ vs. dictionary_values kind before column ++ vs) (sym empty) ∙ values_grow kind before t column in
              subst (Turn (type_at kind (form_at kind (before ++ t ∷ [])) column) column ms (dictionary_values kind (before ++ t ∷ []) column))
              (rw wanted refl) (stays (was column below dict ∙ ap all_some stay))

      going_step : (r : IsRecord kind before t false bytes)
          → Step kind (form_at kind (before ++ t ∷ [])) (dictionary_values kind (before ++ t ∷ [])) ms (batches_for kind false before (before ++ t ∷ []) r.batches) r.rows t
      going_step r = record {
        fit = forms_fit kind (before ++ t ∷ []);
        rest = c.rest;
        is = c.is ∙ ap (λ fields. Schema fields ∷ c.rest) same;
        turns = going_turns r;
        light = λ column below dict. light (dictionary_values kind (before ++ t ∷ []) column) (few_values kind (before ++ t ∷ []) column dict) (small_values kind (before ++ t ∷ []) column dict);
        few = λ column below dict. is_taken (length (dictionary_values kind (before ++ t ∷ []) column)) (few_values kind (before ++ t ∷ []) column dict);
        small = λ column below dict.
            subst (λ (n : ℕ). n ≤ dictionary_limit) (sym (ap length (was column below dict) ∙ length-map (dictionary_values kind before column) (λ (value : List ℕ). Some value)))
            (is_taken (length (dictionary_values kind before column)) (few_values kind before column (was_dictionary column below dict)));
        holds = r.holds;
        kind_is = w.kind_is;
        table = w.table;
        codings = λ column id. w.coded column id ∙ sym (forms_own (coding_at kind column) kind (before ++ t ∷ []) column);
        absent_null = λ column row not low. absent_null kind before t column row not low;
        cells_fit = λ column row here. ids_fit kind before t column row here (w.ids column) (subst (λ (k : Kind). IsCellOf (base_at k column) (cell_in t.rows column row)) w.kind_is (w.table.fits column row));
      }

-- ---- one payload

-- no batch of a column is a record batch
no_rows-batch : (wanted delta : Bool) (column : ℕ) (batch : BatchIn) → list_any is_rows (batch_if wanted delta column batch) ≡ false
no_rows-batch true delta column batch = refl
no_rows-batch false delta column batch = refl

no_rows-heads : (kind : Kind) (opening : Bool) (before now : List Table) (batches : ℕ → BatchIn) (n : ℕ) → list_any is_rows (heads (batches_for kind opening before now batches) n) ≡ false
no_rows-heads kind opening before now batches zero = refl
no_rows-heads kind opening before now batches (suc n) =
    list_any-append is_rows (heads (batches_for kind opening before now batches) n) (batches_for kind opening before now batches n)
    ∙ rw (no_rows-heads kind opening before now batches n) (no_rows-batch (is_wanted opening kind before now n) (not opening) n (batches n))

pub last_rows-after : (start ms : List IpcMessage) (rows : BatchIn) → last_rows (start ++ (ms ++ Rows rows ∷ [])) ≡ Some rows
unfolding last_rows
last_rows-after start ms rows =
    ap (λ all. last_after None (flat_map record_batches all)) (sym (append_assoc start ms (Rows rows ∷ [])))
    ∙ ap (last_after None) (flat_map-append record_batches (start ++ ms) (Rows rows ∷ [])) ∙ last_after-push None (flat_map record_batches (start ++ ms)) rows

-- what one payload gives: it is read as its table, and all is in step again
pub record Goes (kind : Kind) (before : List Table) (past : List PayloadIn) (t : Table) (p : PayloadIn) : Type 0 where
  pub read_as : IsReadAs kind before past t p
  pub next : InStep kind (before ++ t ∷ []) (past ++ p ∷ [])

module _ (kind : Kind) (before : List Table) (past : List PayloadIn) (t : Table) (p : PayloadIn) (type : p.kind ≡ pos (number_of kind)) where
  is_own : is_of (pos (number_of kind)) p ≡ true
  is_own = subst (λ (k : ℤ). is_of k p ≡ true) type (own_type p)

  same_opens : opens_after (last_of (pos (number_of kind)) past) p ≡ opens past p
  unfolding opens
  same_opens = ap (λ k. opens_after (last_of k past) p) (sym type)

  pub stream_opens : opens past p ≡ true → stream_of (pos (number_of kind)) (past ++ p ∷ []) ≡ front_of p.bytes
  stream_opens is = stream_of-own (pos (number_of kind)) past p is_own ∙ rw (same_opens ∙ is) refl

  pub stream_goes : opens past p ≡ false → stream_of (pos (number_of kind)) (past ++ p ∷ []) ≡ stream_of (pos (number_of kind)) past ++ front_of p.bytes
  stream_goes is = stream_of-own (pos (number_of kind)) past p is_own ∙ rw (same_opens ∙ is) refl

  -- by its step: the messages before it, those of its record, and what the record is read after
  module _ (start : List IpcMessage) (head : ℕ → List IpcMessage) (rows : BatchIn) (first past_of : List IpcMessage)
      (plain_first : list_any is_rows first ≡ false) (plain : list_any is_rows (heads head (width_of kind)) ≡ false)
      (messages : front_of p.bytes ≡ (first ++ heads head (width_of kind)) ++ Rows rows ∷ []) (ends : left_of p.bytes ≡ [])
      (stream : stream_of (pos (number_of kind)) (past ++ p ∷ []) ≡ start ++ (heads head (width_of kind) ++ Rows rows ∷ []))
      (joins : past_of ++ first ≡ start) (fine_first : AllAfter (IsFine kind) past_of first)
      (s : Step kind (form_at kind (before ++ t ∷ [])) (dictionary_values kind (before ++ t ∷ [])) start head rows t) where
    abbrev final : SubstreamIn
    final = substream_of (start ++ (heads head (width_of kind) ++ Rows rows ∷ [])) (schema_for kind (form_at kind (before ++ t ∷ [])))

    regroup : (first ++ heads head (width_of kind)) ++ Rows rows ∷ [] ≡ first ++ (heads head (width_of kind) ++ Rows rows ∷ [])
    regroup = append_assoc first (heads head (width_of kind)) (Rows rows ∷ [])

    all_joined : past_of ++ front_of p.bytes ≡ start ++ (heads head (width_of kind) ++ Rows rows ∷ [])
    all_joined =
        ap (λ ms. past_of ++ ms) (messages ∙ regroup) ∙ sym (append_assoc past_of first (heads head (width_of kind) ++ Rows rows ∷ [])) ∙ ap (λ ms. ms ++ (heads head (width_of kind) ++ Rows rows ∷ [])) joins

    each_fine : AllAfter (IsFine kind) past_of (front_of p.bytes)
    each_fine =
        subst (λ (ms : List IpcMessage). AllAfter (IsFine kind) past_of ms) (sym (messages ∙ regroup))
        (all_after-append (IsFine kind) past_of first (heads head (width_of kind) ++ Rows rows ∷ []) fine_first
        (subst (λ (ms : List IpcMessage). AllAfter (IsFine kind) ms (heads head (width_of kind) ++ Rows rows ∷ [])) (sym joins)
        (fine_all kind (form_at kind (before ++ t ∷ [])) (dictionary_values kind (before ++ t ∷ [])) start head rows t s)))

    reads : IsRead kind past_of p.bytes
    reads = record {
      ends = ends;
      before = first ++ heads head (width_of kind);
      batch = rows;
      messages = messages;
      only = list_any-append is_rows first (heads head (width_of kind)) ∙ rw (plain_first, plain) refl;
      each = each_fine;
      after = final;
      is_after = ap substream_in all_joined ∙ stands kind (form_at kind (before ++ t ∷ [])) (dictionary_values kind (before ++ t ∷ [])) start head rows t s (heads head (width_of kind) ++ Rows rows ∷ []);
      indexes = indexes kind (form_at kind (before ++ t ∷ [])) (dictionary_values kind (before ++ t ∷ [])) start head rows t s;
    }

    gives : logical kind (stream_of (pos (number_of kind)) (past ++ p ∷ [])) ≡ Some (table_of_batch kind final rows)
    gives =
        logical_is kind (stream_of (pos (number_of kind)) (past ++ p ∷ [])) final rows
        (ap substream_in stream ∙ stands kind (form_at kind (before ++ t ∷ [])) (dictionary_values kind (before ++ t ∷ [])) start head rows t s (heads head (width_of kind) ++ Rows rows ∷ []))
        (ap last_rows stream ∙ last_rows-after start (heads head (width_of kind)) rows)

    next : InStep kind (before ++ t ∷ []) (past ++ p ∷ [])
    next = record {
      current = λ some. record {
        rest = s.rest ++ (heads head (width_of kind) ++ Rows rows ∷ []);
        is = stream ∙ ap (λ ms. ms ++ (heads head (width_of kind) ++ Rows rows ∷ [])) s.is;
        agree = λ column below dict.
            ap (dictionary_over (type_at kind (form_at kind (before ++ t ∷ [])) column) (pos column)) stream
            ∙ dictionary_after kind (form_at kind (before ++ t ∷ [])) (dictionary_values kind (before ++ t ∷ [])) start head rows t s column below dict;
      };
    }

    goes_by : (if opens past p then [] else stream_of (pos (number_of kind)) past) ≡ past_of → Goes kind before past t p
    goes_by is = record {
      read_as = record {
        read = subst (λ (ms : List IpcMessage). IsRead kind ms p.bytes) (sym is) reads;
        table = table_of_batch kind final rows;
        gives = gives;
        same = same_table kind (form_at kind (before ++ t ∷ [])) (dictionary_values kind (before ++ t ∷ [])) start head rows t s;
        ids = ids_read kind before t final rows refl (same_table kind (form_at kind (before ++ t ∷ [])) (dictionary_values kind (before ++ t ∷ [])) start head rows t s)
            (λ column id. s.codings column id ∙ forms_own (coding_at kind column) kind (before ++ t ∷ []) column);
        schema = ap schema_in (stream ∙ ap (λ ms. ms ++ (heads head (width_of kind) ++ Rows rows ∷ [])) s.is);
        held = subst (λ (ms : List IpcMessage). held_in ms ≤ held_of_kind kind) (sym stream) (held kind (form_at kind (before ++ t ∷ [])) (dictionary_values kind (before ++ t ∷ [])) start head rows t s);
      };
      next = next;
    }

  -- a schema is fine where no message comes before it
  schema_fine : (forms : Forms) → columns_fit kind (arrays_of (schema_for kind forms)) ≡ true → AllAfter (IsFine kind) [] (Schema (schema_for kind forms) ∷ [])
  schema_fine forms fit = (subst (λ (o : Option SubstreamIn). IsFineIn kind [] o (Schema (schema_for kind forms))) (sym substream-none) (refl, fit), tt)

  opened_goes : IsWritableTable kind t → IsRecord kind before t true p.bytes → opens past p ≡ true → Goes kind before past t p
  unfolding messages_for
  opened_goes w r is =
      let fields = schema_for kind (form_at kind (before ++ t ∷ [])) in
      let head = batches_for kind true before (before ++ t ∷ []) r.batches in
      goes_by (Schema fields ∷ []) head r.rows (Schema fields ∷ []) [] refl (no_rows-heads kind true before (before ++ t ∷ []) r.batches (width_of kind)) r.messages r.ends
      (stream_opens is ∙ r.messages ∙ append_assoc (Schema fields ∷ []) (heads head (width_of kind)) (Rows r.rows ∷ []))
      refl (schema_fine (form_at kind (before ++ t ∷ [])) (schema_fits kind (form_at kind (before ++ t ∷ [])) (forms_fit kind (before ++ t ∷ []))))
      (opening_step kind before t p.bytes w r) (rw is refl)

  gone_goes : IsWritableTable kind t → InStep kind before past → IsRecord kind before t false p.bytes → opens past p ≡ false → past ≢ [] → Goes kind before past t p
  unfolding messages_for
  gone_goes w i r is some =
      let head = batches_for kind false before (before ++ t ∷ []) r.batches in
      let ms = stream_of (pos (number_of kind)) past in
      let on : GoesOn kind before (before ++ t ∷ []) = r.goes_on.0 refl in
      goes_by ms head r.rows [] ms refl (no_rows-heads kind false before (before ++ t ∷ []) r.batches (width_of kind)) r.messages r.ends
      (stream_goes is ∙ ap (λ front. ms ++ front) r.messages)
      (append-nil ms) tt
      (going_step kind before t p.bytes w ms (i.current some) on.1 r) (rw is refl)

-- a payload that goes on comes after another one
goes_after : (past : List PayloadIn) (p : PayloadIn) → opens past p ≡ false → past ≢ []
unfolding opens
goes_after past p is empty = true≢false (sym (ap (λ ps. opens_after (last_of p.kind ps) p) empty) ∙ is)

-- ONE PAYLOAD MORE
pub goes : (kind : Kind) (before : List Table) (past : List PayloadIn) (t : Table) (p : PayloadIn) → InStep kind before past → IsWritten kind before past t p → Goes kind before past t p
goes kind before past t p i w = by (cases_Bool (opens past p))
  where
    by : (opens past p ≡ true) ⊎ (opens past p ≡ false) → Goes kind before past t p
    by (inl is) = opened_goes kind before past t p w.type w.writable (subst (λ (b : Bool). IsRecord kind before t b p.bytes) is w.record_is) is
    by (inr is) = gone_goes kind before past t p w.type w.writable i (subst (λ (b : Bool). IsRecord kind before t b p.bytes) is w.record_is) is (goes_after past p is)

-- ALL PAYLOADS
all_read : (kind : Kind) (before : List Table) (past : List PayloadIn) (tables : List Table) (payloads : List PayloadIn) → InStep kind before past
    → EachAfter (IsWritten kind) before past tables payloads → EachAfter (IsReadAs kind) before past tables payloads
all_read kind before past [] [] i each = tt
all_read kind before past [] (p ∷ ps) i each = absurd each
all_read kind before past (t ∷ ts) [] i each = absurd each
all_read kind before past (t ∷ ts) (p ∷ ps) i each =
    let g : Goes kind before past t p = goes kind before past t p i each.0 in
    (g.read_as, all_read kind (before ++ t ∷ []) (past ++ p ∷ []) ts ps g.next each.1)

pub far_end : (kind : Kind) (tables : List Table) (payloads : List PayloadIn) → AreWrittenAs kind tables payloads → EachAfter (IsReadAs kind) [] [] tables payloads
far_end kind tables payloads each = all_read kind [] [] tables payloads (record { current = λ some. absurd (some refl) }) each
