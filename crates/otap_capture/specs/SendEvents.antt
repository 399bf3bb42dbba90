-- What an event of a resending exporter says: a request to send, or the status of a batch. The message is ours: neither protocol has it.
use Rattle.std.specs.Prelude.{◌≡◌, ◌⊎◌, ℕ, List, [], ◌∷◌}
use Rattle.otlp_wire.specs.Fields.{fields_of}
use Rattle.otlp_messages.specs.declared.messages.Message.TheVariants as messages
use Rattle.otlp_messages.specs.Defects.{Stands, IsFine}
use Rattle.otlp_messages.specs.Rows.{only, parts_of}
use Rattle.otap_capture.specs.declared.batch.BatchRefusal.{BatchRefusal}
use Rattle.otap_capture.specs.declared.batch.BatchRefusal.TheVariants.{BadMessage}
use Rattle.otap_capture.specs.declared.event.SendEvent.{SendEvent}
use Rattle.otap_capture.specs.declared.event.SendEvent.TheVariants as events
use Rattle.otap_capture.specs.Batch.{defect_of}
use Rattle.otap_capture.specs.Statuses.{StatusContent, status_content, ReadsStatus}

-- an event, without where its bytes lie in memory
pub data EventContent : Type 0 where
  Request : List ℕ → EventContent
  Status : StatusContent → EventContent

abbrev pub event_content : SendEvent → EventContent
event_content (events.Request request) = Request request.now
event_content (events.Status status) = Status (status_content status)

-- the bytes in the fields of this number
abbrev pub parts : ℕ → List ℕ → List (List ℕ)
parts n bytes = parts_of (only n (fields_of bytes))

-- The bytes are an event, which says this: its one field is the request, or the status. Both are of one oneof, so bytes in which no
-- defect is have one of the two at most.
abbrev pub ReadsEvent : List ℕ → EventContent → Type 0
ReadsEvent bytes (Request request) = IsFine messages.SendEvent 0 bytes × (parts 1 bytes ≡ request ∷ [])
ReadsEvent bytes (Status status) = IsFine messages.SendEvent 0 bytes × ((part : List ℕ) × (parts 2 bytes ≡ part ∷ []) × ReadsStatus part status)

-- it has neither field
abbrev pub IsEmptyEvent : List ℕ → Type 0
IsEmptyEvent bytes = (parts 1 bytes ≡ []) × (parts 2 bytes ≡ [])

-- a defect is in the bytes, read as an event, or in the status inside them; or they have neither field
abbrev pub RefusesEvent : List ℕ → BatchRefusal → Type 0
RefusesEvent bytes refusal = Stands messages.SendEvent 0 bytes (defect_of refusal) ⊎ ((refusal ≡ BadMessage) × IsEmptyEvent bytes)
