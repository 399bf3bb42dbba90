use Rattle.std.proofs.Common.{◌≡◌, ◌+◌, ◌*◌, ◌≤◌, All, length, take, drop, vec_len}
use Rattle.flat_tables.specs.Building.{Grows}
use Rattle.arrow_schema.specs.Limits.{max_field_size}
use Rattle.arrow_schema.specs.Trees.{field_count, count_of}
use Rattle.arrow_schema.specs.Writing.{names_of}
use Rattle.arrow_schema.proofs.FieldsStand.{AllStand}
use Rattle.arrow_schema.proofs.writing.+write.Given as goal

abbrev pub decreases-add_field : goal.decreases-add_field
decreases-add_field l = 2 * field_count l.field.now

abbrev pub decreases-add_fields : goal.decreases-add_fields
decreases-add_fields l = 2 * count_of l.fields.now + 1

-- the fields so far are written, and what is left still fits
abbrev pub invariant-add_fields-loop-field : goal.invariant-add_fields-loop-field
invariant-add_fields-loop-field l = record {
  stand : AllStand (take l.field-index l.fields) l.places.items l.builder;
  grown : Grows l.fn.builder l.builder;
  within : All (λ place. place ≤ length l.builder) l.places.items;
  size : vec_len l.places ≡ l.field-index;
  cost : length l.builder + 4 * l.field-index + names_of (drop l.field-index l.fields) + max_field_size * count_of (drop l.field-index l.fields)
      ≤ length l.fn.builder + names_of l.fields + max_field_size * count_of l.fields;
}
