use Rattle.std.specs.Prelude.{◌≡◌, ◌⊎◌, List, Result, Ok, Err}
use Rattle.std.proofs.Common.{refl, sym, ◌∙◌, inl, inr}
use Rattle.lists.proofs.Equals.{ok_is}
use Rattle.flat_tables.specs.Tables.{TableIn}
use Rattle.arrow_schema.specs.declared.spec.FieldSpec.{FieldSpec}
use Rattle.arrow_schema.specs.declared.refusal.SchemaRefusal.{SchemaRefusal}
use Rattle.arrow_schema.specs.Says.{SaysSchema}
use Rattle.arrow_schema.specs.Readable.{IsReadable}
use Rattle.arrow_schema.specs.Defects.{HasDefect}
use Rattle.arrow_schema.specs.Reading.{schema_of}
use Rattle.arrow_schema.proofs.Found.{schema_found}
use Rattle.arrow_schema.proofs.Only.{schema_again}
use Rattle.arrow_schema.proofs.Refused.{schema_refused}
use Rattle.arrow_schema.proofs.Exclusion.{no_defect}
use Rattle.arrow_schema.proofs.laws.schema_or_defect.Goals as goal

pub returns-clause-one : goal.returns-clause-one
returns-clause-one c = λ t a b says_a readable_a says_b readable_b. ok_is a b (sym (schema_again t a says_a readable_a) ∙ schema_again t b says_b readable_b)

pub returns-clause-never_both : goal.returns-clause-never_both
returns-clause-never_both c = no_defect

either : (t : TableIn) (read : Result (List FieldSpec) SchemaRefusal) → schema_of t ≡ read
    → ((schema : List FieldSpec) × SaysSchema t schema × IsReadable schema) ⊎ ((defect : SchemaRefusal) × HasDefect t defect)
either t (Ok schema) h = let found = schema_found t schema h in inl (schema, found.0, found.1)
either t (Err e) h = inr (e, schema_refused t e h)

pub returns-clause-some : goal.returns-clause-some
returns-clause-some c = λ t. either t (schema_of t) refl
