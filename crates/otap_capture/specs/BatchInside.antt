-- What a batch message is read from.
use Rattle.std.specs.Prelude.{◌≡◌, ℕ, List, length}
use Rattle.std.specs.List.{AllByRecursion}
use Rattle.otlp_wire.specs.Fields.{fields_of}
use Rattle.otlp_messages.specs.declared.messages.Message.TheVariants.{BatchArrowRecords, ArrowPayload}
use Rattle.otlp_messages.specs.Defects.{IsFine}
use Rattle.otlp_messages.specs.Rows.{only, parts_of}
use Rattle.otap_capture.specs.declared.batch.Batch.TheInside.{Inside}
use Rattle.otap_capture.specs.Batch.{BatchContent, batch_content}

-- what its bytes say
abbrev pub message_content : Inside → BatchContent
message_content b = batch_content b.bytes.now

-- its bytes have no defect, and it knows its id and how many payloads there are
pub record HoldsMessage (b : Inside) : Type 0 where
  pub fine : IsFine BatchArrowRecords 0 b.bytes.now
  pub id : b.id ≡ (message_content b).id
  pub count : b.count ≡ length (message_content b).payloads

-- the payloads of the bytes have no defect
abbrev pub HasFinePayloads : List ℕ → Type 0
HasFinePayloads bytes = AllByRecursion (IsFine ArrowPayload 0) (parts_of (only 2 (fields_of bytes)))
