-- In which order a message is read. It decides which of several faults is returned, and no caller needs to know it.
use Rattle.std.specs.Prelude.{ℕ, ◌+◌, ◌==◌, List, length, map, if◌then◌else◌, Result, Ok, Err, Option, None, Some, is_some, ℤ, pos, negsuc}
use Rattle.std.specs.List.{list_all}
use Rattle.lists.specs.Results.{◌>>=◌}
use Rattle.flat_tables.specs.declared.fault.FlatFault.{FlatFault}
use Rattle.flat_tables.specs.Bytes.{part_at, number_at}
use Rattle.flat_tables.specs.Tables.{TableIn, root_at, place_of}
use Rattle.arrow_schema.specs.declared.spec.SchemaSpec.{SchemaSpec}
use Rattle.arrow_schema.specs.declared.refusal.SchemaRefusal.{SchemaRefusal}
use Rattle.arrow_schema.specs.declared.refusal.SchemaRefusal.TheVariants as refusal
use Rattle.arrow_schema.specs.Reading.{schema_of}
use Rattle.arrow_ipc.specs.declared.fault.IpcFault.{IpcFault}
use Rattle.arrow_ipc.specs.declared.fault.IpcFault.TheVariants.{Cut, Flat, BadVersion, Compressed, BadBody, Unsupported, Schema, Memory}
use Rattle.arrow_ipc.specs.declared.header.Header.{Header}
use Rattle.arrow_ipc.specs.declared.header.Header.TheVariants as header
use Rattle.arrow_ipc.specs.declared.header.FoundHeader.{FoundHeader}
use Rattle.arrow_ipc.specs.declared.messages.IpcMessage.{IpcMessage}
use Rattle.arrow_ipc.specs.declared.messages.IpcMessage.TheVariants as content
use Rattle.arrow_ipc.specs.Batches.{BatchIn, lies_in, buffer_of, row_count, nodes_of, places_of}
use Rattle.arrow_ipc.specs.Messages as messages

-- a part of the tables
abbrev pub flat : {A : Type 0} → Result A FlatFault → Result A IpcFault
flat (Ok x) = Ok x
flat (Err e) = Err (Flat e)

-- a part of the bytes
abbrev pub whole : {A : Type 0} → Result A FlatFault → Result A IpcFault
whole (Ok x) = Ok x
whole (Err e) = Err Cut

-- a size
abbrev pub natural : ℤ → Result ℕ IpcFault
natural (pos n) = Ok n
natural (negsuc n) = Err BadBody

-- a table that must be there
abbrev pub present : Option TableIn → Result TableIn IpcFault
present (Some t) = Ok t
present None = Err Unsupported

unfoldable pub metadata : List ℕ → Result (List ℕ) IpcFault
metadata bytes =
    whole (number_at 4 bytes 0) >>= λ mark.
    if mark == messages.continuation then (whole (number_at 4 bytes 4) >>= λ size. whole (part_at bytes 8 size)) else Err Cut

unfoldable pub check_version : TableIn → Result (Unit {0}) IpcFault
check_version table = flat (messages.version_of table) >>= λ version. if messages.is_known version then Ok tt else Err BadVersion

unfoldable pub body : List ℕ → ℕ → TableIn → Result (List ℕ) IpcFault
body bytes place table = flat (messages.body_size_of table) >>= natural >>= λ size. whole (part_at bytes place size)

abbrev pub check_buffers : List (ℤ × ℤ) → List ℕ → Result (Unit {0}) IpcFault
check_buffers places part = if list_all (lies_in (length part)) places then Ok tt else Err BadBody

unfoldable pub batch_of : TableIn → List ℕ → Result BatchIn IpcFault
batch_of table part =
    flat (row_count table) >>= natural >>= λ rows.
    flat (nodes_of table) >>= λ nodes.
    flat (places_of table) >>= λ places.
    check_buffers places part >>= λ _.
    if is_some (place_of table 3) then Err Compressed
    else Ok (record { rows = rows; nodes = nodes; buffers = map (buffer_of part) places })

unfoldable pub dictionary_of : TableIn → List ℕ → Result Header IpcFault
dictionary_of table part =
    flat (messages.id_of table) >>= λ id.
    flat (messages.delta_of table) >>= λ delta.
    flat (messages.data_of table) >>= present >>= λ batch.
    batch_of batch part >>= λ batch.
    Ok (header.Dictionary id delta batch)

abbrev pub header_by : ℕ → TableIn → List ℕ → Result Header IpcFault
header_by kind table part =
    if kind == 1 then Ok (header.Schema table)
    else (if kind == 2 then dictionary_of table part
    else (if kind == 3 then (batch_of table part >>= λ batch. Ok (header.Rows batch))
    else Err Unsupported))

unfoldable pub header_of : TableIn → List ℕ → Result Header IpcFault
header_of table part =
    flat (messages.header_kind table) >>= λ kind.
    flat (messages.header_table_of table) >>= present >>= λ inner.
    header_by kind inner part

unfoldable pub find : List ℕ → Result FoundHeader IpcFault
find bytes =
    metadata bytes >>= λ meta.
    flat (root_at meta) >>= λ table.
    check_version table >>= λ _.
    body bytes (8 + length meta) table >>= λ part.
    header_of table part >>= λ inner.
    Ok (record { header = inner; size = 8 + length meta + length part })

-- the schema is read last
abbrev pub schema_read : Result SchemaSpec SchemaRefusal → Result IpcMessage IpcFault
schema_read (Ok fields) = Ok (content.Schema fields)
schema_read (Err refusal) = Err (Schema refusal)

unfoldable pub message_of : Header → Result IpcMessage IpcFault
message_of (header.Schema table) = schema_read (schema_of table)
message_of (header.Dictionary id delta batch) = Ok (content.Dictionary id delta batch)
message_of (header.Rows batch) = Ok (content.Rows batch)

unfoldable pub message : List ℕ → Result (IpcMessage × ℕ) IpcFault
message bytes = find bytes >>= λ found. message_of found.header >>= λ m. Ok (m, found.size)

-- the fault of a schema that is refused: out of memory is a fault of its own
abbrev pub fault_of : SchemaRefusal → IpcFault
fault_of (refusal.Memory e) = Memory e
fault_of other = Schema other
