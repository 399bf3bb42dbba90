-- Sub-streams (OpenTelemetry Arrow Protocol, "Schema and Dictionary Resets": payloads of one type that have one schema id).
use Rattle.std.specs.Prelude.{ℕ, Bool, true, not, List, [], ◌∷◌, Option, Some, None, ℤ, filter, bytes_eq}
use Rattle.std.specs.List.{flat_map}
use Rattle.std.specs.Ordering.{int_eq}
use Rattle.lists.specs.Since.{since, last_after}
use Rattle.lists.specs.Payloads.{PayloadIn}
use Rattle.arrow_ipc.specs.declared.messages.IpcMessage.{IpcMessage}
use Rattle.arrow_ipc.specs.Fronts.{front_of}

abbrev pub is_of : ℤ → PayloadIn → Bool
is_of kind p = int_eq p.kind kind

-- the payloads of a type, in order
abbrev pub of_type : ℤ → List PayloadIn → List PayloadIn
of_type kind payloads = filter (is_of kind) payloads

-- the last payload of a type
abbrev pub last_of : ℤ → List PayloadIn → Option PayloadIn
last_of kind payloads = last_after None (of_type kind payloads)

-- a payload opens a sub-stream where none of its type went before, or the last one had another schema id
abbrev pub opens_after : Option PayloadIn → PayloadIn → Bool
opens_after None p = true
opens_after (Some last) p = not (bytes_eq last.schema_id p.schema_id)

unfoldable pub opens : List PayloadIn → PayloadIn → Bool
opens before p = opens_after (last_of p.kind before) p

-- the schema id of the sub-stream that is open for a type
abbrev pub schema_id_in : Option PayloadIn → Option (List ℕ)
schema_id_in None = None
schema_id_in (Some p) = Some p.schema_id

unfoldable pub open_id : ℤ → List PayloadIn → Option (List ℕ)
open_id kind payloads = schema_id_in (last_of kind payloads)

-- payloads of one type, each beside whether it opens
abbrev pub marked_after : Option PayloadIn → List PayloadIn → List (Bool × PayloadIn)
marked_after last [] = []
marked_after last (p ∷ ps) = (opens_after last p, p) ∷ marked_after (Some p) ps

-- the messages of the sub-stream that is open for a type: those of all its payloads from the latest opening on
unfoldable pub stream_of : ℤ → List PayloadIn → List IpcMessage
stream_of kind payloads = flat_map (λ m. front_of m.1.bytes) (since (λ m. m.0) (marked_after None (of_type kind payloads)))
