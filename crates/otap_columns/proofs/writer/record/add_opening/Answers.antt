use Rattle.std.proofs.Common.{◌≤◌, sym, subst, arith, List}
use Rattle.std.specs.Prelude.{IsTrue}
use Rattle.arrow_schema.specs.Limits.{max_written_fields, max_written_names}
use Rattle.arrow_schema.specs.Trees.{count_of}
use Rattle.arrow_schema.specs.Writing.{names_of, widths_fit, encodings_named}
use Rattle.arrow_schema.specs.declared.spec.FieldSpec.{FieldSpec}
use Rattle.otap_columns.specs.Schemas.{schema_for}
use Rattle.otap_columns.specs.FormsIn.{forms_in}
use Rattle.otap_columns.proofs.Keeping.{schema_readable}
use Rattle.otap_columns.proofs.NamesShort.{names_short, all_named}
use Rattle.otap_columns.proofs.RecordAppended.{opening_adds}
use Rattle.otap_columns.proofs.RecordShort.{opening_ok}
use Rattle.otap_columns.proofs.writer.record.add_opening.Goals as goal

pub write_schema-requires-clause-few : goal.write_schema-requires-clause-few
write_schema-requires-clause-few c =
    let readable = schema_readable c.args.kind (forms_in c.args.forms.now) c.requires.fit in
    subst (λ (fields : List FieldSpec). count_of fields ≤ max_written_fields) (sym c.in_ok-schema.ensures)
    (c.added_is_read.ensures.few (schema_for c.args.kind (forms_in c.args.forms.now)) readable)

pub write_schema-requires-clause-names : goal.write_schema-requires-clause-names
write_schema-requires-clause-names c =
    subst (λ (fields : List FieldSpec). names_of fields ≤ max_written_names) (sym c.in_ok-schema.ensures) (omega (arith, names_short c.args.kind (forms_in c.args.forms.now)))

pub write_schema-requires-clause-widths : goal.write_schema-requires-clause-widths
write_schema-requires-clause-widths c =
    let readable = schema_readable c.args.kind (forms_in c.args.forms.now) c.requires.fit in
    subst (λ (fields : List FieldSpec). IsTrue (widths_fit fields)) (sym c.in_ok-schema.ensures)
    (c.added_is_read.ensures.widths (schema_for c.args.kind (forms_in c.args.forms.now)) readable)

pub write_schema-requires-clause-encodings : goal.write_schema-requires-clause-encodings
write_schema-requires-clause-encodings c =
    subst (λ (fields : List FieldSpec). IsTrue (encodings_named fields)) (sym c.in_ok-schema.ensures) (all_named c.args.kind (forms_in c.args.forms.now))

pub returns-clause-adds : goal.returns-clause-adds
returns-clause-adds c =
    opening_adds c.args.opening c.in_ok-schema.schema (schema_for c.args.kind (forms_in c.args.forms.now)) c.args.to.now.items c.write_schema.new.to.items c.write_schema.result
    c.if-not-opening.false (schema_readable c.args.kind (forms_in c.args.forms.now) c.requires.fit) c.in_ok-schema.ensures c.write_schema.ensures.ok

pub returns-clause-short : goal.returns-clause-short
returns-clause-short c =
    opening_ok c.args.kind (forms_in c.args.forms.now) c.in_ok-schema.schema c.args.to.now.items c.write_schema.new.to.items c.write_schema.result c.requires.fit c.in_ok-schema.ensures c.write_schema.ensures.ok
