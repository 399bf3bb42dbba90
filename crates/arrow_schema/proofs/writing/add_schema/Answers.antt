use Rattle.std.proofs.Common.{subst, List}
use Rattle.flat_tables.specs.Building.{StaysAt}
use Rattle.flat_tables.proofs.Standing.{grows_on}
use Rattle.arrow_schema.specs.declared.spec.FieldSpec.{FieldSpec}
use Rattle.arrow_schema.specs.Writing.{WritesFields}
use Rattle.arrow_schema.proofs.Written.{schema_stands}
use Rattle.arrow_schema.proofs.writing.add_schema.Goals as goal

pub returns-clause-schema : goal.returns-clause-schema
returns-clause-schema c =
    schema_stands c.add_fields.new.builder c.add_table.new.self c.args.spec.now c.in_ok-fields.fields c.in_ok-place.place
    (subst (λ (fields : List FieldSpec). StaysAt (WritesFields fields) c.add_fields.new.builder c.in_ok-fields.fields) c.as_slice.ensures c.in_ok-fields.ensures.fields)
    c.in_ok-place.ensures.grows c.in_ok-place.ensures.slots

pub returns-clause-grows : goal.returns-clause-grows
returns-clause-grows c = grows_on c.args.builder.now c.add_fields.new.builder c.add_table.new.self c.in_ok-fields.ensures.grows c.in_ok-place.ensures.grows
