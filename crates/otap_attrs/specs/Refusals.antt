-- What a refusal of a layer below is called here.
use Rattle.otap_cells.specs.declared.column_ids.IdsRefusal.{IdsRefusal}
use Rattle.otap_cells.specs.declared.column_ids.IdsRefusal.TheVariants as ids
use Rattle.cbor_values.specs.declared.refusal.CborRefusal.{CborRefusal}
use Rattle.cbor_values.specs.declared.refusal.CborRefusal.TheVariants as cbor
use Rattle.otap_attrs.specs.declared.refusal.RowRefusal.{RowRefusal}
use Rattle.otap_attrs.specs.declared.refusal.RowRefusal.TheVariants as row

-- being out of memory is a refusal of its own
abbrev pub refusal_of_ids : IdsRefusal → RowRefusal
refusal_of_ids (ids.Memory error) = row.Memory error
refusal_of_ids (ids.Ids fault) = row.Ids fault

abbrev pub refusal_of_cbor : CborRefusal → RowRefusal
refusal_of_cbor (cbor.Memory error) = row.Memory error
refusal_of_cbor inner = row.BadCbor inner
