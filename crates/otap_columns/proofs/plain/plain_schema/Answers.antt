use Rattle.std.proofs.Common.{◌≡◌, ◌≤◌, refl, arith}
use Rattle.std.specs.Prelude.{IsTrue}
use Rattle.arrow_schema.specs.Limits.{max_written_fields, max_written_names}
use Rattle.arrow_schema.specs.Readable.{IsReadable}
use Rattle.arrow_schema.specs.Trees.{count_of}
use Rattle.arrow_schema.specs.Writing.{names_of, widths_fit, encodings_named}
use Rattle.otap_columns.specs.Plain.{plain_forms, plain_schema}
use Rattle.otap_columns.proofs.Keeping.{schema_readable}
use Rattle.otap_columns.proofs.NamesShort.{names_short, all_named}
use Rattle.otap_columns.proofs.PlainForms.{plain_fit, spec_has}
use Rattle.otap_columns.proofs.plain.plain_schema.Goals as goal

pub returns-clause-says : goal.returns-clause-says
returns-clause-says g c =
    let t = g.R.Rows.table c.args.rows.now in
    spec_has (g.R.Rows.table c.args.rows.now) c.args.kind c.in_ok-forms.forms.items _ c.in_ok-forms.ensures.sound c.requires.kind c.in_ok-forms.ensures.plain c.deref.ensures.value (λ schema. schema ≡ plain_schema t) c.schema_of.result refl c.schema_of.ensures

pub returns-clause-readable : goal.returns-clause-readable
returns-clause-readable g c =
    let t = g.R.Rows.table c.args.rows.now in
    spec_has (g.R.Rows.table c.args.rows.now) c.args.kind c.in_ok-forms.forms.items _ c.in_ok-forms.ensures.sound c.requires.kind c.in_ok-forms.ensures.plain c.deref.ensures.value IsReadable c.schema_of.result (schema_readable t.kind (plain_forms t) (plain_fit t c.in_ok-forms.ensures.sound)) c.schema_of.ensures

pub returns-clause-few : goal.returns-clause-few
returns-clause-few g c =
    let t = g.R.Rows.table c.args.rows.now in
    spec_has (g.R.Rows.table c.args.rows.now) c.args.kind c.in_ok-forms.forms.items _ c.in_ok-forms.ensures.sound c.requires.kind c.in_ok-forms.ensures.plain c.deref.ensures.value (λ schema. count_of schema ≤ max_written_fields) c.schema_of.result
    (c.added_is_read.ensures.few (plain_schema t) (schema_readable t.kind (plain_forms t) (plain_fit t c.in_ok-forms.ensures.sound))) c.schema_of.ensures

pub returns-clause-names : goal.returns-clause-names
returns-clause-names g c =
    let t = g.R.Rows.table c.args.rows.now in
    spec_has (g.R.Rows.table c.args.rows.now) c.args.kind c.in_ok-forms.forms.items _ c.in_ok-forms.ensures.sound c.requires.kind c.in_ok-forms.ensures.plain c.deref.ensures.value (λ schema. names_of schema ≤ max_written_names) c.schema_of.result (omega (arith, names_short t.kind (plain_forms t))) c.schema_of.ensures

pub returns-clause-widths : goal.returns-clause-widths
returns-clause-widths g c =
    let t = g.R.Rows.table c.args.rows.now in
    spec_has (g.R.Rows.table c.args.rows.now) c.args.kind c.in_ok-forms.forms.items _ c.in_ok-forms.ensures.sound c.requires.kind c.in_ok-forms.ensures.plain c.deref.ensures.value (λ schema. IsTrue (widths_fit schema)) c.schema_of.result
    (c.added_is_read.ensures.widths (plain_schema t) (schema_readable t.kind (plain_forms t) (plain_fit t c.in_ok-forms.ensures.sound))) c.schema_of.ensures

pub returns-clause-encodings : goal.returns-clause-encodings
returns-clause-encodings g c =
    let t = g.R.Rows.table c.args.rows.now in
    spec_has (g.R.Rows.table c.args.rows.now) c.args.kind c.in_ok-forms.forms.items _ c.in_ok-forms.ensures.sound c.requires.kind c.in_ok-forms.ensures.plain c.deref.ensures.value (λ schema. IsTrue (encodings_named schema)) c.schema_of.result (all_named t.kind (plain_forms t)) c.schema_of.ensures
