use Rattle.std.proofs.Common.{◌+◌, ◌*◌, [], length}
use Rattle.otlp_wire.specs.Wire.{value_of}
use Rattle.otlp_wire.proofs.Readings.{part_len}
use Rattle.otlp_messages.specs.declared.messages.Message.TheVariants as messages
use Rattle.otlp_model.specs.declared.value.Value.TheVariants.{Empty}
use Rattle.otlp_codec.proofs.Passing.{PassesFields}
use Rattle.otlp_codec.specs.Values.{any_in}
use Rattle.otlp_codec.specs.Steps.{array_at, map_at, no_pair, pair_step, array_step, map_step}
use Rattle.otlp_codec.proofs.values.+value.Given as goal

abbrev pub decreases-fill_value : goal.decreases-fill_value
decreases-fill_value l = 6 * length l.bytes.now + 2

abbrev pub decreases-fill_value_by_field : goal.decreases-fill_value_by_field
decreases-fill_value_by_field l = 6 * length l.bytes.now + 1

abbrev pub decreases-take_member : goal.decreases-take_member
decreases-take_member l = 6 * part_len (value_of l.field.now.value) + 4

abbrev pub invariant-fill_value_by_field-fields : goal.invariant-fill_value_by_field-fields
invariant-fill_value_by_field-fields l = PassesFields messages.AnyValue l.levels (any_in (array_at l.levels) (map_at l.levels)) Empty l.bytes l.seen l.next-iterator l.value

abbrev pub decreases-read_array : goal.decreases-read_array
decreases-read_array l = 6 * length l.bytes.now + 1

abbrev pub decreases-take_array : goal.decreases-take_array
decreases-take_array l = 6 * part_len (value_of l.field.now.value) + 4

abbrev pub invariant-read_array-fields : goal.invariant-read_array-fields
invariant-read_array-fields l = PassesFields messages.ArrayValue l.levels (array_step l.levels) [] l.bytes l.seen l.next-iterator l.values

abbrev pub decreases-read_map : goal.decreases-read_map
decreases-read_map l = 6 * length l.bytes.now + 1

abbrev pub decreases-take_map : goal.decreases-take_map
decreases-take_map l = 6 * part_len (value_of l.field.now.value) + 4

abbrev pub invariant-read_map-fields : goal.invariant-read_map-fields
invariant-read_map-fields l = PassesFields messages.KeyValueList l.levels (map_step l.levels) [] l.bytes l.seen l.next-iterator l.pairs

abbrev pub decreases-fill_pair : goal.decreases-fill_pair
decreases-fill_pair l = 6 * length l.bytes.now + 2

abbrev pub decreases-fill_pair_by_field : goal.decreases-fill_pair_by_field
decreases-fill_pair_by_field l = 6 * length l.bytes.now + 1

abbrev pub decreases-take_pair : goal.decreases-take_pair
decreases-take_pair l = 6 * part_len (value_of l.field.now.value) + 4

abbrev pub invariant-fill_pair_by_field-fields : goal.invariant-fill_pair_by_field-fields
invariant-fill_pair_by_field-fields l = PassesFields messages.KeyValue l.levels (pair_step l.levels) no_pair l.bytes l.seen l.next-iterator l.pair
