-- The printed names of causes: their variants from the outside in, joined by dots.
use Rattle.std.specs.Prelude.{ℕ, List, [], codes}
use Rattle.arrow_buffers.specs.declared.fault.BufferFault.{BufferFault}
use Rattle.arrow_buffers.specs.declared.fault.BufferFault.TheVariants.{Short, BadOffsets, BadNulls, BadUtf8}
use Rattle.otap_columns.specs.declared.refusal.ColumnRefusal.{ColumnRefusal}
use Rattle.otap_columns.specs.declared.refusal.ColumnRefusal.TheVariants as refusal
use Rattle.otap_consume.specs.declared.refusal.Cause.{Cause}
use Rattle.otap_consume.specs.declared.refusal.Cause.TheVariants as cause
use Rattle.otlp_messages.specs.declared.messages.Defect.TheVariants as defect
use Rattle.otlp_messages.specs.Names.{defect_text}
use Rattle.otap_gateway.specs.Openings.{fault_name}
use Rattle.otap_gateway.specs.RowCauses.{row_name}

abbrev pub buffer_name : BufferFault → List ℕ
buffer_name Short = codes "Buffers.Short"
buffer_name BadOffsets = codes "Buffers.BadOffsets"
buffer_name BadNulls = codes "Buffers.BadNulls"
buffer_name BadUtf8 = codes "Buffers.BadUtf8"

-- out of memory is never printed
abbrev pub column_name : ColumnRefusal → List ℕ
column_name refusal.Order = codes "Order"
column_name (refusal.Ipc fault) = fault_name fault
column_name refusal.Column = codes "Column"
column_name (refusal.Buffers fault) = buffer_name fault
column_name refusal.BadIndex = codes "BadIndex"
column_name refusal.DictionarySize = codes "DictionarySize"
column_name (refusal.Memory e) = []

abbrev pub cause_name : Cause → List ℕ
cause_name cause.Compressed = codes "Compressed"
cause_name cause.BadMessage = defect_text defect.BadMessage
cause_name cause.Repeated = defect_text defect.Repeated
cause_name cause.BadUtf8 = defect_text defect.BadUtf8
cause_name cause.PayloadType = codes "PayloadType"
cause_name cause.PayloadTwice = codes "PayloadTwice"
cause_name cause.SchemaIdTaken = codes "SchemaIdTaken"
cause_name (cause.Column refusal) = column_name refusal
cause_name cause.TooManyItems = codes "TooManyItems"
cause_name cause.RowsTooHeavy = codes "RowsTooHeavy"
cause_name cause.HeldTooMuch = codes "HeldTooMuch"
cause_name (cause.Row why) = row_name why
cause_name cause.TreeTooHeavy = codes "TreeTooHeavy"
cause_name cause.Broken = codes "Broken"
