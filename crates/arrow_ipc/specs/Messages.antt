-- Messages (Arrow columnar format, "Encapsulated message format"; Message.fbs).
use Rattle.std.specs.Prelude.{◌≡◌, ℕ, ◌+◌, ◌==◌, ◌||◌, not, Bool, true, false, List, length, Result, Ok, Option, Some, ℤ, pos, negsuc}
use Rattle.std.specs.Int.{w16, w64}
use Rattle.flat_tables.specs.declared.fault.FlatFault.{FlatFault}
use Rattle.lists.specs.Results.{◌>>=◌}
use Rattle.flat_tables.specs.Bytes.{part_at, number_at}
use Rattle.flat_tables.specs.Tables.{TableIn, root_at, or_default, byte_slot, signed_slot, table_slot}
use Rattle.arrow_schema.specs.Reading.{schema_of}
use Rattle.arrow_ipc.specs.declared.messages.IpcMessage.{IpcMessage}
use Rattle.arrow_ipc.specs.declared.messages.IpcMessage.TheVariants.{Schema, Dictionary, Rows}
use Rattle.arrow_ipc.specs.Batches.{BatchIn, IsBatch}

-- the continuation marker, which each message begins with
abbrev pub continuation : ℕ
continuation = 0xFFFF_FFFF

-- the bytes begin with the continuation marker, the size of the metadata, and the whole metadata
pub record IsFramed (bytes metadata : List ℕ) : Type 0 where
  pub marked : number_at 4 bytes 0 ≡ Ok continuation
  pub size : number_at 4 bytes 4 ≡ Ok (length metadata)
  pub whole : part_at bytes 8 (length metadata) ≡ Ok metadata

-- table Message: the version (slot 0), the kind of the header (1), the header (2), the size of the body (3)
unfoldable pub version_of : TableIn → Result ℤ FlatFault
version_of t = or_default (pos 0) (signed_slot w16 2 t 0)

unfoldable pub header_kind : TableIn → Result ℕ FlatFault
header_kind t = or_default 0 (byte_slot t 1)

unfoldable pub header_table_of : TableIn → Result (Option TableIn) FlatFault
header_table_of t = table_slot t 2

unfoldable pub body_size_of : TableIn → Result ℤ FlatFault
body_size_of t = or_default (pos 0) (signed_slot w64 8 t 3)

-- the versions V4 and V5
abbrev pub is_known : ℤ → Bool
is_known (pos n) = n == 3 || n == 4
is_known (negsuc n) = false

-- table DictionaryBatch: the id (slot 0), the batch (1), whether the values are appended (2)
unfoldable pub id_of : TableIn → Result ℤ FlatFault
id_of t = or_default (pos 0) (signed_slot w64 8 t 0)

unfoldable pub data_of : TableIn → Result (Option TableIn) FlatFault
data_of t = table_slot t 1

unfoldable pub delta_of : TableIn → Result Bool FlatFault
delta_of t = or_default 0 (byte_slot t 2) >>= λ flag. Ok (not (flag == 0))

-- the header is a dictionary batch
pub record IsDictionary (header : TableIn) (body : List ℕ) (id : ℤ) (delta : Bool) (batch : BatchIn) : Type 0 where
  pub has_id : id_of header ≡ Ok id
  pub has_delta : delta_of header ≡ Ok delta
  pub table : TableIn
  pub has_table : data_of header ≡ Ok (Some table)
  pub is_batch : IsBatch table body batch

-- what each kind of header holds, and its number in the union MessageHeader
abbrev pub IsContent : TableIn → List ℕ → IpcMessage → Type 0
IsContent header body (Schema fields) = schema_of header ≡ Ok fields
IsContent header body (Dictionary id delta batch) = IsDictionary header body id delta batch
IsContent header body (Rows batch) = IsBatch header body batch

abbrev pub kind_number : IpcMessage → ℕ
kind_number (Schema fields) = 1
kind_number (Dictionary id delta batch) = 2
kind_number (Rows batch) = 3

-- the bytes begin with a message, which takes `size` of them
pub record IsMessage (bytes : List ℕ) (message : IpcMessage) (size : ℕ) : Type 0 where
  pub metadata : List ℕ
  pub framed : IsFramed bytes metadata
  pub table : TableIn
  pub root : root_at metadata ≡ Ok table
  pub version : ℤ
  pub has_version : version_of table ≡ Ok version
  pub known : is_known version ≡ true
  pub kind : header_kind table ≡ Ok (kind_number message)
  pub header : TableIn
  pub has_header : header_table_of table ≡ Ok (Some header)
  pub body : List ℕ
  pub body_size : body_size_of table ≡ Ok (pos (length body))
  pub has_body : part_at bytes (8 + length metadata) (length body) ≡ Ok body
  pub content : IsContent header body message
  pub ends : size ≡ 8 + length metadata + length body
