-- What can be wrong with the payloads of a batch, after those of the accepted batches of its segment.
use Rattle.std.specs.Prelude.{◌≡◌, ◌⊎◌, ℕ, ◌<◌, ◌≤◌, ◌&&◌, not, Bool, true, false, ℤ, List, [], ◌++◌, length, bytes_eq, Option, Some, None, sum_by, option_and_then}
use Rattle.std.specs.List.{list_any, filter_map}
use Rattle.std.specs.Ordering.{int_eq}
use Rattle.otlp_model.specs.Limits.{item_limit}
use Rattle.lists.specs.EachAfter.{AllAfter}
use Rattle.lists.specs.Payloads.{PayloadIn}
use Rattle.otlp_model.specs.declared.request.Signal.{Signal}
use Rattle.otap_cells.specs.declared.payload.Kind.{Kind}
use Rattle.otap_cells.specs.Payload.{kinds_of, kind_numbered, main_of}
use Rattle.otap_cells.specs.Sets.{rows_named}
use Rattle.otap_cells.specs.Tables.{Table}
use Rattle.otap_cells.specs.Weights.{row_weight_limit, weight_of_tables}
use Rattle.otap_columns.specs.declared.refusal.ColumnRefusal.{ColumnRefusal}
use Rattle.otap_columns.specs.Records.{IsRead, Stands}
use Rattle.otap_columns.specs.Substreams.{logical, held_in}
use Rattle.otap_columns.specs.Streams.{open_id, stream_of}
use Rattle.otap_consume.specs.declared.refusal.Cause.{Cause}
use Rattle.otap_consume.specs.declared.refusal.Cause.TheVariants.{PayloadType, PayloadTwice, SchemaIdTaken, Column, TooManyItems, RowsTooHeavy, HeldTooMuch}
use Rattle.otap_consume.specs.Limits.{held_limit}
use Rattle.otap_consume.specs.declared.payload_types.TypesRefusal.TheVariants as types
use Rattle.otap_consume.specs.Payloads.{payload_type_of, messages_before}
use Rattle.otap_consume.specs.PayloadTypes.{HasPayload, IsDefectOfTypes, HasFineTypes}

-- ---- the list of payloads

-- the schema id of a payload is open for another type of the signal; what earlier payloads of its own batch open counts
abbrev pub is_open_id : List ℕ → Option (List ℕ) → Bool
is_open_id id None = false
is_open_id id (Some current) = bytes_eq current id

abbrev pub is_open_for : List PayloadIn → PayloadIn → Kind → Bool
is_open_for before p kind = not (int_eq p.kind (payload_type_of kind)) && is_open_id p.schema_id (open_id (payload_type_of kind) before)

abbrev pub is_taken : Signal → List PayloadIn → PayloadIn → Bool
is_taken signal before p = list_any (is_open_for before p) (kinds_of signal)

-- the id of one of the payloads is taken; the payload has this type
pub record HasTakenId (signal : Signal) (past payloads : List PayloadIn) (type : ℤ) : Type 0 where
  pub p : PayloadIn
  pub has : HasPayload payloads p
  pub taken : is_taken signal (past ++ has.before) p ≡ true
  pub of : p.kind ≡ type

-- what is wrong with the list, by the cause and the type that is named
abbrev pub IsDefectOfList : Signal → List PayloadIn → List PayloadIn → Cause → Option ℤ → Type 0
IsDefectOfList signal past payloads PayloadType (Some type) = IsDefectOfTypes signal payloads (types.PayloadType type)
IsDefectOfList signal past payloads PayloadTwice (Some type) = IsDefectOfTypes signal payloads (types.PayloadTwice type)
IsDefectOfList signal past payloads SchemaIdTaken (Some type) = HasTakenId signal past payloads type
IsDefectOfList signal past payloads cause payload = ⊥

-- nothing is wrong with the list
pub record HasFineList (signal : Signal) (past payloads : List PayloadIn) : Type 0 where
  pub types : HasFineTypes signal payloads
  pub ids : AllAfter (λ before p. is_taken signal before p ≡ false) past payloads

-- ---- the records, each read after the messages of its sub-stream

-- the record of one of the payloads has a defect; the type of the payload is named
pub record IsDefectOfRecord (signal : Signal) (past payloads : List PayloadIn) (refusal : ColumnRefusal) (payload : Option ℤ) : Type 0 where
  pub p : PayloadIn
  pub has : HasPayload payloads p
  pub kind : Kind
  pub known : kind_numbered signal p.kind ≡ Some kind
  pub stands : Stands kind (messages_before (past ++ has.before) p) p.bytes refusal
  pub named : payload ≡ Some p.kind

-- no record has a defect
abbrev pub IsReadAfter : Signal → List PayloadIn → PayloadIn → Type 0
IsReadAfter signal before p = (kind : Kind) → kind_numbered signal p.kind ≡ Some kind → IsRead kind (messages_before before p) p.bytes

abbrev pub HasFineRecords : Signal → List PayloadIn → List PayloadIn → Type 0
HasFineRecords signal past payloads = AllAfter (IsReadAfter signal) past payloads

-- ---- payloads that were taken, so that others can come after them

-- a payload of one of the signal's types, read after those before it
pub record IsTakenAfter (signal : Signal) (before : List PayloadIn) (p : PayloadIn) : Type 0 where
  pub kind : Kind
  pub known : kind_numbered signal p.kind ≡ Some kind
  pub read : IsRead kind (messages_before before p) p.bytes

abbrev pub AreTaken : Signal → List PayloadIn → Type 0
AreTaken signal payloads = AllAfter (IsTakenAfter signal) [] payloads

-- ---- the tables of the payloads, and what all sub-streams hold

-- the table of a payload, after all payloads
abbrev pub table_of : Signal → List PayloadIn → PayloadIn → Option Table
table_of signal all p = option_and_then (λ kind. logical kind (stream_of p.kind all)) (kind_numbered signal p.kind)

-- THE LOGICAL TABLES of a batch, one for each payload, in the order of the payloads
unfoldable pub tables_of : Signal → List PayloadIn → List PayloadIn → List Table
tables_of signal past payloads = filter_map (table_of signal (past ++ payloads)) payloads

-- THE HELD WEIGHT: that of all dictionaries of all sub-streams that are open
unfoldable pub held_after : Signal → List PayloadIn → ℕ
held_after signal payloads = sum_by (λ kind. held_in (stream_of (payload_type_of kind) payloads)) (kinds_of signal)

-- a batch is too large as a whole: its main table has too many rows, its rows weigh too much, or too much is held after it
abbrev pub IsTooLarge : Signal → List Table → ℕ → Cause → Type 0
IsTooLarge signal tables held TooManyItems = item_limit < length (rows_named (main_of signal) tables)
IsTooLarge signal tables held RowsTooHeavy = row_weight_limit < weight_of_tables tables
IsTooLarge signal tables held HeldTooMuch = held_limit < held
IsTooLarge signal tables held cause = ⊥

-- a batch is within these limits
pub record IsWithinLimits (signal : Signal) (tables : List Table) (held : ℕ) : Type 0 where
  pub items : length (rows_named (main_of signal) tables) ≤ item_limit
  pub rows : weight_of_tables tables ≤ row_weight_limit
  pub holds : held ≤ held_limit

-- ---- stage by stage

-- THE PAYLOADS ARE REFUSED, by the first stage in which something is wrong: the list, then the records, then the whole
pub data Refuses (signal : Signal) (past payloads : List PayloadIn) : Cause → Option ℤ → Type 0 where
  by_list : (cause : Cause) (payload : Option ℤ) → IsDefectOfList signal past payloads cause payload → Refuses signal past payloads cause payload
  by_record : (refusal : ColumnRefusal) (payload : Option ℤ) → HasFineList signal past payloads → IsDefectOfRecord signal past payloads refusal payload
      → Refuses signal past payloads (Column refusal) payload
  by_size : (cause : Cause) → HasFineList signal past payloads → HasFineRecords signal past payloads
      → IsTooLarge signal (tables_of signal past payloads) (held_after signal (past ++ payloads)) cause → Refuses signal past payloads cause None

-- THE PAYLOADS ARE ACCEPTED: nothing is wrong in any stage
pub record Accepts (signal : Signal) (past payloads : List PayloadIn) : Type 0 where
  pub list : HasFineList signal past payloads
  pub records : HasFineRecords signal past payloads
  pub size : IsWithinLimits signal (tables_of signal past payloads) (held_after signal (past ++ payloads))

-- the payloads are refused or accepted
abbrev pub AreJudged : Signal → List PayloadIn → List PayloadIn → Type 0
AreJudged signal past payloads = Accepts signal past payloads ⊎ ((cause : Cause) × (payload : Option ℤ) × Refuses signal past payloads cause payload)
