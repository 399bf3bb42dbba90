use Rattle.std.proofs.Common.{◌≡◌, ◌+◌, ◌*◌, length, drop}
use Rattle.arrow_schema.specs.Trees.{field_count, count_of}
use Rattle.arrow_arrays.specs.Arrays.{add_fields}
use Rattle.arrow_arrays.proofs.arrays.Arrays.+walk.Given as goal

abbrev pub decreases-add_field : goal.decreases-add_field
decreases-add_field l = 2 * field_count l.field.now

abbrev pub decreases-add_fields : goal.decreases-add_fields
decreases-add_fields l = 2 * count_of l.fields.now + 1

-- with the fields that are left, the arrays are those of all fields
abbrev pub invariant-add_fields-loop-field : goal.invariant-add_fields-loop-field
invariant-add_fields-loop-field l = record {
  added : add_fields (drop l.field-index l.fields) l.above l.self ≡ add_fields l.fields l.above l.fn.self;
  count : length l.self + count_of (drop l.field-index l.fields) ≡ length l.fn.self + count_of l.fields;
}
