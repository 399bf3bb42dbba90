-- A payload that holds a table plain is read as the table.
use Rattle.std.proofs.Common.{◌≡◌, ℕ, suc, zero, ◌≤◌, Bool, true, false, List, [], ◌∷◌, ◌++◌, Option, Some, None, refl, sym, ap, ◌∙◌, subst, ◌⊎◌, inl, inr}
use Rattle.std.specs.Prelude.{if◌then◌else◌}
use Rattle.std.proofs.lemmas.Bool.{cases_Bool, true≢false}
use Rattle.std.proofs.lemmas.Option.{same_Some}
use Rattle.lists.specs.EachAfter.{AllAfter}
use Rattle.lists.specs.Payloads.{PayloadIn}
use Rattle.arrow_schema.specs.declared.spec.FieldSpec.{FieldSpec}
use Rattle.arrow_ipc.specs.declared.messages.IpcMessage.{IpcMessage}
use Rattle.arrow_ipc.specs.declared.messages.IpcMessage.TheVariants.{Schema, Dictionary, Rows}
use Rattle.arrow_ipc.specs.Batches.{BatchIn}
use Rattle.arrow_ipc.specs.Fronts.{front_of}
use Rattle.arrow_arrays.specs.Arrays.{arrays_of}
use Rattle.otap_cells.specs.declared.payload.Kind.{Kind}
use Rattle.otap_cells.specs.Columns.{coding_at, is_id_at, width_of}
use Rattle.otap_cells.specs.Tables.{Table, IsTable, SameTable, coding_in}
use Rattle.otap_columns.specs.declared.forms.ColumnForm.TheVariants as form
use Rattle.otap_columns.specs.Known.{column_coding}
use Rattle.otap_columns.specs.Limits.{held_of_kind}
use Rattle.otap_columns.specs.Plain.{HoldsPlain, plain_forms, plain_schema}
use Rattle.otap_columns.specs.PlainPayloads.{HoldsTable, IsReadAgain, stream_for}
use Rattle.otap_columns.specs.Records.{IsFine, IsFineIn, IsRead}
use Rattle.otap_columns.specs.Schemas.{coding_for, is_dictionary, is_present, schema_for}
use Rattle.otap_columns.specs.Streams.{opens}
use Rattle.otap_columns.specs.Substreams.{SubstreamIn, held_in, indexes_fit, last_rows, logical, schema_in, substream_in, substream_of, table_if, table_of_batch}
use Rattle.otap_columns.specs.WrittenPayloads.{heads, schema_if}
use Rattle.otap_columns.proofs.Growing.{substream-none, substream_from}
use Rattle.otap_columns.proofs.Located.{schema_fits}
use Rattle.otap_columns.proofs.PlainForms.{plain_cells, plain_fit, plain_if, plain_quiet}
use Rattle.otap_columns.proofs.RecordTaken.{Step, fine_all, held, indexes, same_table, stands}
use Rattle.otap_columns.proofs.Simulated.{last_rows-after, stream_goes, stream_opens}
use Rattle.otap_columns.proofs.Tabled.{coded, logical_is, same_kind}

-- no column has a dictionary batch
abbrev no_head : ℕ → List IpcMessage
no_head column = []

abbrev no_values : ℕ → List (List ℕ)
no_values column = []

no_heads : (n : ℕ) → heads no_head n ≡ []
no_heads zero = refl
no_heads (suc n) = ap (λ (ms : List IpcMessage). ms ++ []) (no_heads n)

-- each column is there, and its ids are stored as the table says
there_if : (t : Table) (column : ℕ) (id : Bool) → is_present (plain_if t column id) ≡ true
there_if t column true = refl
there_if t column false = refl

coded_as : (t : Table) (column : ℕ) → is_id_at t.kind column ≡ true → coding_in t column ≡ coding_for (coding_at t.kind column) (plain_forms t column)
coded_as t column id = ap (λ (b : Bool). coding_for (coding_at t.kind column) (plain_if t column b)) (sym id)

-- messages that have a schema begin with it
begins_with : (ms : List IpcMessage) (fields : List FieldSpec) → schema_in ms ≡ Some fields → (rest : List IpcMessage) × (ms ≡ Schema fields ∷ rest)
begins_with [] fields is = absurd (cc (is))
begins_with (Schema own ∷ ms) fields is = let same : own ≡ fields = cc (is) in (ms, ap (λ (f : List FieldSpec). Schema f ∷ ms) same)
begins_with (Dictionary id delta batch ∷ ms) fields is = absurd (cc (is))
begins_with (Rows batch ∷ ms) fields is = absurd (cc (is))

-- ---- a record batch after messages that begin with the schema

module _ (t : Table) (sound : IsTable t) (rows : BatchIn) (holds : HoldsPlain t rows) (start rest : List IpcMessage) (begins : start ≡ Schema (plain_schema t) ∷ rest) where
  no_dictionary : (column : ℕ) → is_dictionary (plain_forms t column) ≡ true → ⊥
  no_dictionary column is = true≢false (sym is ∙ plain_quiet t column)

  step : Step t.kind (plain_forms t) no_values start no_head rows t
  step = record {
    fit = plain_fit t sound;
    rest = rest;
    is = begins;
    turns = record { own = λ column below dict. absurd (no_dictionary column dict); quiet = λ column not. refl };
    light = λ column below dict. absurd (no_dictionary column dict);
    few = λ column below dict. absurd (no_dictionary column dict);
    small = λ column below dict. absurd (no_dictionary column dict);
    holds = holds;
    kind_is = refl;
    table = sound;
    codings = coded_as t;
    absent_null = λ column row gone low. absurd (true≢false (sym (there_if t column (is_id_at t.kind column)) ∙ gone));
    cells_fit = λ column row here. plain_cells t column row sound;
  }

  alone : heads no_head (width_of t.kind) ++ Rows rows ∷ [] ≡ Rows rows ∷ []
  alone = ap (λ (ms : List IpcMessage). ms ++ Rows rows ∷ []) (no_heads (width_of t.kind))

  abbrev after : SubstreamIn
  after = substream_of (start ++ Rows rows ∷ []) (plain_schema t)

  after_is : substream_in (start ++ Rows rows ∷ []) ≡ Some after
  after_is = stands t.kind (plain_forms t) no_values start no_head rows t step (Rows rows ∷ [])

  rows_fine : AllAfter (IsFine t.kind) start (Rows rows ∷ [])
  rows_fine = subst (λ (ms : List IpcMessage). AllAfter (IsFine t.kind) start ms) alone (fine_all t.kind (plain_forms t) no_values start no_head rows t step)

  rows_fit : indexes_fit after rows ≡ true
  rows_fit =
      subst (λ (ms : List IpcMessage). indexes_fit (substream_of (start ++ ms) (plain_schema t)) rows ≡ true) alone (indexes t.kind (plain_forms t) no_values start no_head rows t step)

  table_again : SameTable (table_of_batch t.kind after rows) t
  table_again =
      subst (λ (ms : List IpcMessage). SameTable (table_of_batch t.kind (substream_of (start ++ ms) (plain_schema t)) rows) t) alone
      (same_table t.kind (plain_forms t) no_values start no_head rows t step)

  little_held : held_in (start ++ Rows rows ∷ []) ≤ held_of_kind t.kind
  little_held = subst (λ (ms : List IpcMessage). held_in (start ++ ms) ≤ held_of_kind t.kind) alone (held t.kind (plain_forms t) no_values start no_head rows t step)

  -- a payload whose sub-stream then has these messages
  again : (past : List PayloadIn) (p : PayloadIn) (before : List IpcMessage) → (if opens past p then [] else stream_for t past) ≡ before → IsRead t.kind before p.bytes
      → stream_for t (past ++ p ∷ []) ≡ start ++ Rows rows ∷ [] → IsReadAgain past t p
  again past p before is read stream = record {
    read = subst (λ (ms : List IpcMessage). IsRead t.kind ms p.bytes) (sym is) read;
    table = table_of_batch t.kind after rows;
    gives = logical_is t.kind (stream_for t (past ++ p ∷ [])) after rows (ap substream_in stream ∙ after_is) (ap last_rows stream ∙ last_rows-after start [] rows);
    same = table_again;
    schema = ap schema_in (stream ∙ ap (λ (ms : List IpcMessage). ms ++ Rows rows ∷ []) begins);
    held = subst (λ (ms : List IpcMessage). held_in ms ≤ held_of_kind t.kind) (sym stream) little_held;
  }

-- the schema is fine where no message comes before it
schema_fine : (t : Table) → IsTable t → IsFine t.kind [] (Schema (plain_schema t))
schema_fine t sound =
    subst (λ (o : Option SubstreamIn). IsFineIn t.kind [] o (Schema (plain_schema t))) (sym substream-none) (refl, schema_fits t.kind (plain_forms t) (plain_fit t sound))

module _ (past : List PayloadIn) (t : Table) (p : PayloadIn) (h : HoldsTable past t p) where
  opened : opens past p ≡ true → IsReadAgain past t p
  opened is =
      let fields = plain_schema t in
      let messages : front_of p.bytes ≡ Schema fields ∷ Rows h.batch ∷ [] = h.messages ∙ ap (λ (b : Bool). schema_if b fields ++ Rows h.batch ∷ []) is in
      again t h.table h.batch h.holds (Schema fields ∷ []) [] refl past p [] (rw is refl)
      (record {
        ends = h.ends;
        before = Schema fields ∷ [];
        batch = h.batch;
        messages = messages;
        only = refl;
        each = subst (λ (ms : List IpcMessage). AllAfter (IsFine t.kind) [] ms) (sym messages)
            (schema_fine t h.table, rows_fine t h.table h.batch h.holds (Schema fields ∷ []) [] refl);
        after = after t h.table h.batch h.holds (Schema fields ∷ []) [] refl;
        is_after = ap substream_in messages ∙ after_is t h.table h.batch h.holds (Schema fields ∷ []) [] refl;
        indexes = rows_fit t h.table h.batch h.holds (Schema fields ∷ []) [] refl;
      })
      (stream_opens t.kind [] past t p h.type is ∙ messages)

  goes : opens past p ≡ false → IsReadAgain past t p
  goes is =
      let start = stream_for t past in
      let b = begins_with start (plain_schema t) (h.goes_on is) in
      let messages : front_of p.bytes ≡ Rows h.batch ∷ [] = h.messages ∙ ap (λ (o : Bool). schema_if o (plain_schema t) ++ Rows h.batch ∷ []) is in
      again t h.table h.batch h.holds start b.0 b.1 past p start (rw is refl)
      (record {
        ends = h.ends;
        before = [];
        batch = h.batch;
        messages = messages;
        only = refl;
        each = subst (λ (ms : List IpcMessage). AllAfter (IsFine t.kind) start ms) (sym messages) (rows_fine t h.table h.batch h.holds start b.0 b.1);
        after = after t h.table h.batch h.holds start b.0 b.1;
        is_after = ap (λ (ms : List IpcMessage). substream_in (start ++ ms)) messages ∙ after_is t h.table h.batch h.holds start b.0 b.1;
        indexes = rows_fit t h.table h.batch h.holds start b.0 b.1;
      })
      (stream_goes t.kind [] past t p h.type is ∙ ap (λ (ms : List IpcMessage). start ++ ms) messages)

  by : (opens past p ≡ true) ⊎ (opens past p ≡ false) → IsReadAgain past t p
  by (inl is) = opened is
  by (inr is) = goes is

  -- THE TABLE AGAIN
  pub read_again : IsReadAgain past t p
  read_again = by (cases_Bool (opens past p))

-- ---- one schema for the tables of a sub-stream

pub one_schema : (t u : Table) → t.kind ≡ u.kind → ((column : ℕ) → is_id_at t.kind column ≡ true → coding_in t column ≡ coding_in u column) → plain_schema t ≡ plain_schema u
one_schema t u kind alike = λ i. schema_for (kind i) (forms i)
  where
    by_id : (column : ℕ) (id : Bool) → is_id_at t.kind column ≡ id → plain_if t column id ≡ plain_if u column id
    by_id column true is = ap form.Coded (alike column is)
    by_id column false is = refl

    forms : plain_forms t ≡ plain_forms u
    forms = λ i column. (by_id column (is_id_at t.kind column) refl ∙ ap (λ (k : Kind). plain_if u column (is_id_at k column)) kind) i

-- what is read with the fields of one schema
record ReadWith (kind : Kind) (fields : List FieldSpec) (ms : List IpcMessage) (t : Table) : Type 0 where
  pub batch : BatchIn
  pub is : table_of_batch kind (substream_of ms fields) batch ≡ t

read_with : (kind : Kind) (fields : List FieldSpec) (ms : List IpcMessage) (t : Table) → schema_in ms ≡ Some fields → logical kind ms ≡ Some t → ReadWith kind fields ms t
unfolding logical
read_with kind fields ms t schema gives =
    by (last_rows ms) (ap (λ (o : Option SubstreamIn). table_if kind o (last_rows ms)) (sym (substream_from ms fields schema)) ∙ gives)
  where
    by : (o : Option BatchIn) → table_if kind (Some (substream_of ms fields)) o ≡ Some t → ReadWith kind fields ms t
    by None is = absurd (cc (is))
    by (Some batch) is = record { batch = batch; is = same_Some (table_of_batch kind (substream_of ms fields) batch) t is }

pub same_stream : (kind : Kind) (fields : List FieldSpec) (ms ns : List IpcMessage) (t u : Table) → schema_in ms ≡ Some fields → schema_in ns ≡ Some fields
    → logical kind ms ≡ Some t → logical kind ns ≡ Some u → plain_schema t ≡ plain_schema u
same_stream kind fields ms ns t u one two here there =
    let a : ReadWith kind fields ms t = read_with kind fields ms t one here in
    let b : ReadWith kind fields ns u = read_with kind fields ns u two there in
    let kinds : t.kind ≡ u.kind = sym (same_kind kind (substream_of ms fields) a.batch t a.is) ∙ same_kind kind (substream_of ns fields) b.batch u b.is in
    one_schema t u kinds
    (λ column id. sym (coded kind (substream_of ms fields) a.batch t a.is column (column_coding kind (arrays_of fields) column) refl id)
    ∙ coded kind (substream_of ns fields) b.batch u b.is column (column_coding kind (arrays_of fields) column) refl (subst (λ (k : Kind). is_id_at k column ≡ true) kinds id))
