-- The cells of a batch's tables are bytes where its payloads and those before them are.
use Rattle.std.proofs.Common.{◌<◌, ℕ, Bool, true, false, not, List, [], ◌∷◌, ◌++◌, get_or, Option, Some, None, All, inl, inr, ℤ}
use Rattle.std.specs.Prelude.{IfSome, find, if◌then◌else◌, option_and_then, option_map, slice_get}
use Rattle.std.specs.List.{AllByRecursion, flat_map, range_with_len}
use Rattle.std.specs.Ordering.{int_eq}
use Rattle.std.proofs.lemmas.Bool.{cases_Bool}
use Rattle.lists.specs.Since.{since}
use Rattle.lists.specs.Payloads.{PayloadIn}
use Rattle.lists.proofs.Every.{every_append, every_made}
use Rattle.lists.proofs.AllBytes.{IsBytes, IsBytes-nil}
use Rattle.otlp_model.specs.declared.request.Signal.{Signal}
use Rattle.arrow_schema.specs.Limits.{max_depth}
use Rattle.arrow_schema.specs.declared.spec.ArrowType.{ArrowType}
use Rattle.arrow_schema.specs.declared.spec.DictSpec.{DictSpec}
use Rattle.arrow_schema.specs.declared.spec.FieldSpec.{FieldSpec}
use Rattle.arrow_ipc.specs.declared.messages.IpcMessage.{IpcMessage}
use Rattle.arrow_ipc.specs.declared.messages.IpcMessage.TheVariants.{Schema, Dictionary, Rows}
use Rattle.arrow_ipc.specs.Batches.{BatchIn}
use Rattle.arrow_ipc.specs.Fronts.{front_of}
use Rattle.arrow_arrays.specs.declared.spec.ArraySpec.{ArraySpec}
use Rattle.arrow_arrays.specs.Arrays.{cell_of}
use Rattle.arrow_arrays.specs.Cells.{own_cell, place_of_values}
use Rattle.otap_cells.specs.declared.payload.Kind.{Kind}
use Rattle.otap_cells.specs.declared.profile.Base.{Base}
use Rattle.otap_cells.specs.declared.profile.Base.TheVariants as base
use Rattle.otap_cells.specs.Cells.{Cell, null, bytes_in}
use Rattle.otap_cells.specs.Columns.{base_at, width_of}
use Rattle.otap_cells.specs.Payload.{is_kind, kind_numbered}
use Rattle.otap_cells.specs.Tables.{Table, cell_in, row_by, rows_by, table_by}
use Rattle.otap_checks.specs.Deciding.{HasByteCells, HaveByteCells}
use Rattle.otap_columns.specs.Dictionaries.{DictionaryIn, values_of, dictionary_batches, batches_of, dictionary_over, filled, empty_dictionaries, dictionaries_in, is_for, values_if, values_for}
use Rattle.otap_columns.specs.Known.{place_at, stored_cell}
use Rattle.otap_columns.specs.Streams.{of_type, is_of, marked_after, stream_of}
use Rattle.otap_columns.specs.Substreams.{SubstreamIn, substream_of, substream_in, schema_in, value_by_index, replaced, field_value, value_if}
use Rattle.otap_columns.specs.Substreams.{column_value, column_cell, table_of_batch, record_batches, last_rows, table_if, logical}
use Rattle.otap_consume.specs.Defects.{table_of, tables_of}
use Rattle.otap_consume.proofs.ByteCells.{own_cell_bytes, cell_bytes}
use Rattle.otap_consume.proofs.ByteLists.{IfBytes, all_bytes, each_at, each_filter, each_since, each_last, each_flat_map, each_filter_map}
use Rattle.otap_consume.proofs.ByteMessages.{BatchBytes, MessageBytes, front_bytes}

-- ---- dictionaries

abbrev PairBytes : Bool × BatchIn → Type 0
PairBytes pair = BatchBytes pair.1

abbrev DictionaryBytes : DictionaryIn → Type 0
DictionaryBytes d = AllByRecursion IfBytes d.values

values_bytes : (kind : ArrowType) (batch : BatchIn) → BatchBytes batch → AllByRecursion IfBytes (values_of kind batch)
unfolding values_of
values_bytes kind batch fits = every_made IfBytes (own_cell batch (place_of_values kind)) (range_with_len 0 batch.rows) (own_cell_bytes batch fits (place_of_values kind))

one_if : (b delta : Bool) (batch : BatchIn) → BatchBytes batch → AllByRecursion PairBytes (if b then (delta, batch) ∷ [] else [])
one_if true delta batch fits = (fits, tt)
one_if false delta batch fits = tt

batch_of_bytes : (id : ℤ) (m : IpcMessage) → MessageBytes m → AllByRecursion PairBytes (dictionary_batches id m)
batch_of_bytes id (Schema fields) fits = tt
batch_of_bytes id (Dictionary of delta batch) fits = one_if (int_eq id of) delta batch fits
batch_of_bytes id (Rows batch) fits = tt

dictionary_bytes : (kind : ArrowType) (id : ℤ) (messages : List IpcMessage) → AllByRecursion MessageBytes messages → AllByRecursion IfBytes (dictionary_over kind id messages)
unfolding dictionary_over
dictionary_bytes kind id messages fits =
    each_flat_map PairBytes IfBytes (λ b. values_of kind b.1) (λ b own. values_bytes kind b.1 own) (since (λ b. not b.0) (batches_of id messages))
    (each_since PairBytes (λ b. not b.0) (batches_of id messages) (each_flat_map MessageBytes PairBytes (dictionary_batches id) (batch_of_bytes id) messages fits))

dictionaries_bytes : (arrays : List ArraySpec) (messages : List IpcMessage) → AllByRecursion MessageBytes messages → AllByRecursion DictionaryBytes (dictionaries_in arrays messages)
unfolding dictionaries_in
dictionaries_bytes arrays messages fits = every_made DictionaryBytes (filled messages) (empty_dictionaries arrays) (λ d. dictionary_bytes d.kind d.id messages fits)

abbrev SubstreamBytes : SubstreamIn → Type 0
SubstreamBytes s = AllByRecursion DictionaryBytes s.dictionaries

substream_bytes : (messages : List IpcMessage) → AllByRecursion MessageBytes messages → IfSome (substream_in messages) SubstreamBytes
unfolding substream_in
substream_bytes messages fits = by_schema (schema_in messages)
  where
    by_schema : (o : Option (List FieldSpec)) → IfSome (option_map (substream_of messages) o) SubstreamBytes
    by_schema None = tt
    by_schema (Some fields) = dictionaries_bytes _ messages fits

-- ---- cells

find_bytes : (test : DictionaryIn → Bool) (ds : List DictionaryIn) → AllByRecursion DictionaryBytes ds → AllByRecursion IfBytes (values_if (find test ds))
find_bytes test [] fits = tt
find_bytes test (d ∷ ds) fits = by_test (test d) (find_bytes test ds fits.1)
  where
    by_test : (b : Bool) → AllByRecursion IfBytes (values_if (find test ds)) → AllByRecursion IfBytes (values_if (if b then Some d else find test ds))
    by_test true rest = fits.0
    by_test false rest = rest

index_bytes : (values : List (Option (List ℕ))) (index : Option (List ℕ)) → AllByRecursion IfBytes values → IfBytes (value_by_index values index)
index_bytes values None fits = tt
index_bytes values (Some index) fits = each_at IfBytes values _ None tt fits

replaced_bytes : (ds : List DictionaryIn) (kind : ArrowType) (dict : Option DictSpec) (cell : Option (List ℕ)) → AllByRecursion DictionaryBytes ds → IfBytes cell
    → IfBytes (replaced ds kind dict cell)
replaced_bytes ds kind None cell fits own = own
replaced_bytes ds kind (Some dict) cell fits own = index_bytes (values_for kind dict.id ds) cell (find_bytes (is_for kind dict.id) ds fits)

module _ (s : SubstreamIn) (batch : BatchIn) (held : SubstreamBytes s) (fits : BatchBytes batch) where
  field_bytes : (row place : ℕ) (a : Option ArraySpec) → IfBytes (field_value s batch row place a)
  field_bytes row place None = tt
  field_bytes row place (Some a) = replaced_bytes s.dictionaries a.kind a.dict (cell_of s.arrays batch place row) held (cell_bytes batch fits max_depth s.arrays place row)

  value_if_bytes : (row : ℕ) (place : Option ℕ) → IfBytes (value_if s batch row place)
  value_if_bytes row None = tt
  value_if_bytes row (Some place) = field_bytes row place (slice_get s.arrays place)

  value_bytes : (kind : Kind) (column row : ℕ) → IfBytes (column_value kind s batch column row)
  unfolding column_value
  value_bytes kind column row = value_if_bytes row (place_at kind s.arrays column)

abbrev CellBytes : Cell → Type 0
CellBytes cell = IsBytes (bytes_in cell)

stored_bytes : (holds : Base) (value : Option (List ℕ)) → IfBytes value → CellBytes (stored_cell holds value)
unfolding stored_cell
stored_bytes holds None fits = IsBytes-nil
stored_bytes base.U8 (Some value) fits = IsBytes-nil
stored_bytes base.U16 (Some value) fits = IsBytes-nil
stored_bytes base.U32 (Some value) fits = IsBytes-nil
stored_bytes base.U64 (Some value) fits = IsBytes-nil
stored_bytes base.I32 (Some value) fits = IsBytes-nil
stored_bytes base.I64 (Some value) fits = IsBytes-nil
stored_bytes base.Double (Some value) fits = IsBytes-nil
stored_bytes base.Bool (Some value) fits = IsBytes-nil
stored_bytes base.Utf8 (Some value) fits = fits
stored_bytes base.Binary (Some value) fits = fits
stored_bytes base.Fixed16 (Some value) fits = fits
stored_bytes base.Fixed8 (Some value) fits = fits
stored_bytes base.Timestamp (Some value) fits = IsBytes-nil
stored_bytes base.Duration (Some value) fits = IsBytes-nil
stored_bytes base.ListU64 (Some value) fits = fits
stored_bytes base.ListF64 (Some value) fits = fits
stored_bytes (base.Id wide) (Some value) fits = IsBytes-nil

-- ---- tables

-- cells that are bytes in each row are so at each index
at_each_place : (rows : List (List Cell)) → AllByRecursion (λ row. AllByRecursion CellBytes row) rows → (column row : ℕ) → All (λ byte. byte < 256) (bytes_in (cell_in rows column row))
at_each_place rows fits column row =
    all_bytes _ (each_at CellBytes (get_or rows row []) column null IsBytes-nil (each_at (λ row. AllByRecursion CellBytes row) rows row [] tt fits))

table_bytes : (kind : Kind) (s : SubstreamIn) (batch : BatchIn) → SubstreamBytes s → BatchBytes batch → HasByteCells (table_of_batch kind s batch)
unfolding table_of_batch table_by column_cell
table_bytes kind s batch held fits =
    at_each_place (rows_by kind batch.rows (column_cell kind s batch)) (every_made (λ row. AllByRecursion CellBytes row) (row_by kind (column_cell kind s batch)) (range_with_len 0 batch.rows)
    (λ row. every_made CellBytes (λ column. column_cell kind s batch column row) (range_with_len 0 (width_of kind))
    (λ column. stored_bytes (base_at kind column) (column_value kind s batch column row) (value_bytes s batch held fits kind column row))))

batches_bytes : (m : IpcMessage) → MessageBytes m → AllByRecursion BatchBytes (record_batches m)
batches_bytes (Schema fields) fits = tt
batches_bytes (Dictionary id delta batch) fits = tt
batches_bytes (Rows batch) fits = (fits, tt)

last_bytes : (messages : List IpcMessage) → AllByRecursion MessageBytes messages → IfSome (last_rows messages) BatchBytes
unfolding last_rows
last_bytes messages fits = each_last BatchBytes None (flat_map record_batches messages) tt (each_flat_map MessageBytes BatchBytes record_batches batches_bytes messages fits)

table_if_bytes : (kind : Kind) (s : Option SubstreamIn) (batch : Option BatchIn) → IfSome s SubstreamBytes → IfSome batch BatchBytes → IfSome (table_if kind s batch) HasByteCells
table_if_bytes kind None batch held fits = tt
table_if_bytes kind (Some s) None held fits = tt
table_if_bytes kind (Some s) (Some batch) held fits = table_bytes kind s batch held fits

logical_bytes : (kind : Kind) (messages : List IpcMessage) → AllByRecursion MessageBytes messages → IfSome (logical kind messages) HasByteCells
unfolding logical
logical_bytes kind messages fits = table_if_bytes kind (substream_in messages) (last_rows messages) (substream_bytes messages fits) (last_bytes messages fits)

-- ---- payloads

abbrev pub PayloadBytes : PayloadIn → Type 0
PayloadBytes p = IsBytes p.bytes

abbrev MarkedBytes : Bool × PayloadIn → Type 0
MarkedBytes m = IsBytes m.1.bytes

marked_bytes : (last : Option PayloadIn) (ps : List PayloadIn) → AllByRecursion PayloadBytes ps → AllByRecursion MarkedBytes (marked_after last ps)
marked_bytes last [] fits = tt
marked_bytes last (p ∷ ps) fits = (fits.0, marked_bytes (Some p) ps fits.1)

stream_bytes : (type : ℤ) (ps : List PayloadIn) → AllByRecursion PayloadBytes ps → AllByRecursion MessageBytes (stream_of type ps)
unfolding stream_of
stream_bytes type ps fits =
    each_flat_map MarkedBytes MessageBytes (λ m. front_of m.1.bytes) (λ m own. front_bytes m.1.bytes own) (since (λ m. m.0) (marked_after None (of_type type ps)))
    (each_since MarkedBytes (λ m. m.0) (marked_after None (of_type type ps)) (marked_bytes None (of_type type ps) (each_filter PayloadBytes (is_of type) ps fits)))

one_table : (signal : Signal) (all : List PayloadIn) (p : PayloadIn) → AllByRecursion PayloadBytes all → IfSome (table_of signal all p) HasByteCells
one_table signal all p fits = by_kind (kind_numbered signal p.kind)
  where
    by_kind : (o : Option Kind) → IfSome (option_and_then (λ kind. logical kind (stream_of p.kind all)) o) HasByteCells
    by_kind None = tt
    by_kind (Some kind) = logical_bytes kind (stream_of p.kind all) (stream_bytes p.kind all fits)

named_bytes : (tables : List Table) → AllByRecursion HasByteCells tables → HaveByteCells tables
named_bytes [] fits kind = at_each_place [] tt
named_bytes (t ∷ tables) fits kind = elim (cases_Bool (is_kind t.kind kind)) [
  | inl hit ↦ rw hit fits.0
  | inr miss ↦ rw miss (named_bytes tables fits.1 kind)
]

-- THE TABLES of a batch
pub tables_bytes : (signal : Signal) (past payloads : List PayloadIn) → AllByRecursion PayloadBytes past → AllByRecursion PayloadBytes payloads
    → HaveByteCells (tables_of signal past payloads)
unfolding tables_of
tables_bytes signal past payloads before own =
    named_bytes _ (each_filter_map PayloadBytes HasByteCells (table_of signal (past ++ payloads)) (λ p fits. one_table signal (past ++ payloads) p (every_append PayloadBytes past payloads before own)) payloads own)
