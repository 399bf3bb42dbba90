-- The printed names of what is wrong with rows.
use Rattle.std.specs.Prelude.{ℕ, List, [], codes}
use Rattle.cbor_values.specs.declared.refusal.CborRefusal.{CborRefusal}
use Rattle.cbor_values.specs.declared.refusal.CborRefusal.TheVariants as cbor
use Rattle.otap_attrs.specs.declared.refusal.RowRefusal.{RowRefusal}
use Rattle.otap_attrs.specs.declared.refusal.RowRefusal.TheVariants as row
use Rattle.otap_cells.specs.declared.ids.IdFault.{IdFault}
use Rattle.otap_cells.specs.declared.ids.IdFault.TheVariants as fault

abbrev pub id_fault_name : IdFault → List ℕ
id_fault_name fault.PastType = codes "Ids.PastType"
id_fault_name fault.Duplicate = codes "Ids.Duplicate"
id_fault_name fault.NullParent = codes "Ids.NullParent"

-- out of memory is never printed
abbrev pub cbor_name : CborRefusal → List ℕ
cbor_name cbor.Cut = codes "BadCbor.Cut"
cbor_name cbor.BadHead = codes "BadCbor.BadHead"
cbor_name cbor.BadKey = codes "BadCbor.BadKey"
cbor_name cbor.BadUtf8 = codes "BadCbor.BadUtf8"
cbor_name cbor.OutOfRange = codes "BadCbor.OutOfRange"
cbor_name cbor.TooDeep = codes "BadCbor.TooDeep"
cbor_name cbor.Trailing = codes "BadCbor.Trailing"
cbor_name (cbor.Memory e) = []

abbrev pub row_name : RowRefusal → List ℕ
row_name (row.Ids fault) = id_fault_name fault
row_name row.Orphan = codes "Orphan"
row_name row.Disagree = codes "Disagree"
row_name row.BadValueType = codes "BadValueType"
row_name (row.BadCbor refusal) = cbor_name refusal
row_name row.TwoValues = codes "TwoValues"
row_name row.BadKind = codes "BadKind"
row_name (row.Memory e) = []
