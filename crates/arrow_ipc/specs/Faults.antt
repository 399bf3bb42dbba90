-- Why bytes begin with no message.
use Rattle.std.specs.Prelude.{◌≡◌, ◌≢◌, ℕ, ◌+◌, ◌<◌, ◌⊎◌, false, List, [], length, Ok, Err, None, Some, IsSome, ℤ, pos, negsuc}
use Rattle.std.specs.List.{list_all}
use Rattle.flat_tables.specs.declared.fault.FlatFault.{FlatFault}
use Rattle.flat_tables.specs.Tables.{TableIn, root_at, place_of}
use Rattle.arrow_schema.specs.declared.refusal.SchemaRefusal.{SchemaRefusal}
use Rattle.arrow_schema.specs.Defects.{HasDefect}
use Rattle.arrow_ipc.specs.declared.fault.IpcFault.{IpcFault}
use Rattle.arrow_ipc.specs.declared.fault.IpcFault.TheVariants.{Cut, Flat, BadVersion, Compressed, BadBody, Unsupported, Schema, Memory}
use Rattle.arrow_ipc.specs.Batches.{lies_in, row_count, nodes_of, places_of}
use Rattle.arrow_ipc.specs.Messages.{IsFramed, version_of, header_kind, header_table_of, body_size_of, is_known, id_of, data_of, delta_of}

-- the root table of the metadata, and how many bytes come after the metadata
pub record HasTable (bytes : List ℕ) (table : TableIn) (after : ℕ) : Type 0 where
  pub metadata : List ℕ
  pub framed : IsFramed bytes metadata
  pub root : root_at metadata ≡ Ok table
  pub whole : 8 + length metadata + after ≡ length bytes

-- a header of this kind
pub record HasHeader (bytes : List ℕ) (kind : ℕ) (header : TableIn) : Type 0 where
  pub table : TableIn
  pub after : ℕ
  pub has_table : HasTable bytes table after
  pub has_kind : header_kind table ≡ Ok kind
  pub has_header : header_table_of table ≡ Ok (Some header)

-- a record batch: that of a record batch message, or the one inside a dictionary batch
abbrev pub HasBatch : List ℕ → TableIn → Type 0
HasBatch bytes batch = HasHeader bytes 3 batch ⊎ ((header : TableIn) × HasHeader bytes 2 header × (data_of header ≡ Ok (Some batch)))

-- the size that the message gives its body
abbrev pub HasBody : List ℕ → ℕ → Type 0
HasBody bytes size = (table : TableIn) × (after : ℕ) × HasTable bytes table after × (body_size_of table ≡ Ok (pos size))

-- Each fault at the start of bytes. There may be several side by side, and at the end of the bytes there is none.
pub data Stands (bytes : List ℕ) : IpcFault → Type 0 where
  -- another marker is there, or the marker, the size or the metadata runs past the bytes; or the body does
  no_frame : bytes ≢ [] → ((metadata : List ℕ) → IsFramed bytes metadata → ⊥) → Stands bytes Cut
  no_body : (table : TableIn) (after size : ℕ) → HasTable bytes table after → body_size_of table ≡ Ok (pos size) → after < size → Stands bytes Cut
  -- a part that is needed can't be read: of the table Message ..
  bad_root : (metadata : List ℕ) (e : FlatFault) → IsFramed bytes metadata → root_at metadata ≡ Err e → Stands bytes (Flat e)
  bad_version : (table : TableIn) (after : ℕ) (e : FlatFault) → HasTable bytes table after → version_of table ≡ Err e → Stands bytes (Flat e)
  bad_kind : (table : TableIn) (after : ℕ) (e : FlatFault) → HasTable bytes table after → header_kind table ≡ Err e → Stands bytes (Flat e)
  bad_header : (table : TableIn) (after : ℕ) (e : FlatFault) → HasTable bytes table after → header_table_of table ≡ Err e → Stands bytes (Flat e)
  bad_body_size : (table : TableIn) (after : ℕ) (e : FlatFault) → HasTable bytes table after → body_size_of table ≡ Err e → Stands bytes (Flat e)
  -- .. of the table DictionaryBatch ..
  bad_id : (header : TableIn) (e : FlatFault) → HasHeader bytes 2 header → id_of header ≡ Err e → Stands bytes (Flat e)
  bad_data : (header : TableIn) (e : FlatFault) → HasHeader bytes 2 header → data_of header ≡ Err e → Stands bytes (Flat e)
  bad_delta : (header : TableIn) (e : FlatFault) → HasHeader bytes 2 header → delta_of header ≡ Err e → Stands bytes (Flat e)
  -- .. or of a table RecordBatch
  bad_rows : (batch : TableIn) (e : FlatFault) → HasBatch bytes batch → row_count batch ≡ Err e → Stands bytes (Flat e)
  bad_nodes : (batch : TableIn) (e : FlatFault) → HasBatch bytes batch → nodes_of batch ≡ Err e → Stands bytes (Flat e)
  bad_places : (batch : TableIn) (e : FlatFault) → HasBatch bytes batch → places_of batch ≡ Err e → Stands bytes (Flat e)
  -- the version is neither V4 nor V5
  unknown_version : (table : TableIn) (after : ℕ) (version : ℤ) → HasTable bytes table after → version_of table ≡ Ok version
      → is_known version ≡ false → Stands bytes BadVersion
  -- a record batch has its slot for the compression
  compressed : (batch : TableIn) → HasBatch bytes batch → IsSome (place_of batch 3) → Stands bytes Compressed
  -- the size of the body or the number of rows is below zero, or a buffer doesn't lie in the body
  negative_body : (table : TableIn) (after n : ℕ) → HasTable bytes table after → body_size_of table ≡ Ok (negsuc n) → Stands bytes BadBody
  negative_rows : (batch : TableIn) (n : ℕ) → HasBatch bytes batch → row_count batch ≡ Ok (negsuc n) → Stands bytes BadBody
  outside : (batch : TableIn) (places : List (ℤ × ℤ)) (size : ℕ) → HasBatch bytes batch → HasBody bytes size → places_of batch ≡ Ok places
      → list_all (lies_in size) places ≡ false → Stands bytes BadBody
  -- the header is absent or of another kind, or a dictionary batch has no data
  no_header : (table : TableIn) (after : ℕ) → HasTable bytes table after → header_table_of table ≡ Ok None → Stands bytes Unsupported
  unknown_kind : (table : TableIn) (after kind : ℕ) → HasTable bytes table after → header_kind table ≡ Ok kind → kind ≢ 1 → kind ≢ 2 → kind ≢ 3 → Stands bytes Unsupported
  no_data : (header : TableIn) → HasHeader bytes 2 header → data_of header ≡ Ok None → Stands bytes Unsupported
  -- the schema is refused
  bad_schema : (header : TableIn) (refusal : SchemaRefusal) → HasHeader bytes 1 header → HasDefect header refusal → Stands bytes (Schema refusal)

-- what a call returns instead of a message: a fault that is there, or that memory ran out
abbrev pub Refuses : List ℕ → IpcFault → Type 0
Refuses bytes (Memory e) = Unit {0}
Refuses bytes fault = Stands bytes fault
