-- The sub-streams that the payloads of a segment's batches belong to.
use Rattle.std.specs.Prelude.{ℤ, pos, List, [], if◌then◌else◌}
use Rattle.lists.specs.Payloads.{PayloadIn}
use Rattle.arrow_ipc.specs.declared.messages.IpcMessage.{IpcMessage}
use Rattle.otap_cells.specs.declared.payload.Kind.{Kind}
use Rattle.otap_cells.specs.Payload.{number_of}
use Rattle.otap_columns.specs.Streams.{opens, stream_of}

-- the payload type of a kind
abbrev pub payload_type_of : Kind → ℤ
payload_type_of kind = pos (number_of kind)

-- the messages after which the record of a payload comes: none where it opens a sub-stream
abbrev pub messages_before : List PayloadIn → PayloadIn → List IpcMessage
messages_before before p = if opens before p then [] else stream_of p.kind before
