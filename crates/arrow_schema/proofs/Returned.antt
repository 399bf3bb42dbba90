-- What an exact result says of the tables.
use Rattle.std.proofs.Common.{◌≡◌, Result, Ok, List, sym, ◌∙◌}
use Rattle.flat_tables.specs.Tables.{TableIn}
use Rattle.arrow_schema.specs.declared.spec.FieldSpec.{FieldSpec}
use Rattle.arrow_schema.specs.declared.refusal.SchemaRefusal.{SchemaRefusal}
use Rattle.arrow_schema.specs.declared.refusal.SchemaRefusal.TheVariants.{Flat, Unsupported, TooManyFields, TooDeep, BadName, DictionaryTypes, Memory}
use Rattle.arrow_schema.specs.Says.{SaysSchema}
use Rattle.arrow_schema.specs.Readable.{IsReadable}
use Rattle.arrow_schema.specs.Reading.{Fails, schema_of}
use Rattle.arrow_schema.specs.Defects.{RefusalStands}
use Rattle.arrow_schema.proofs.Only.{schema_again}
use Rattle.arrow_schema.proofs.Refused.{schema_refused}

pub refusal_stands : (t : TableIn) (e : SchemaRefusal) → Fails e (schema_of t) → RefusalStands t e
refusal_stands t (Flat f) h = schema_refused t (Flat f) h
refusal_stands t Unsupported h = schema_refused t Unsupported h
refusal_stands t TooManyFields h = schema_refused t TooManyFields h
refusal_stands t TooDeep h = schema_refused t TooDeep h
refusal_stands t BadName h = schema_refused t BadName h
refusal_stands t DictionaryTypes h = schema_refused t DictionaryTypes h
refusal_stands t (Memory m) h = tt

-- where the tables say a schema within the limits, only memory can run out
fails_with : (e : SchemaRefusal) (a b : Result (List FieldSpec) SchemaRefusal) → a ≡ b → Fails e a → Fails e b
fails_with (Flat f) a b same h = sym same ∙ h
fails_with Unsupported a b same h = sym same ∙ h
fails_with TooManyFields a b same h = sym same ∙ h
fails_with TooDeep a b same h = sym same ∙ h
fails_with BadName a b same h = sym same ∙ h
fails_with DictionaryTypes a b same h = sym same ∙ h
fails_with (Memory m) a b same h = tt

pub memory_only : (t : TableIn) (schema : List FieldSpec) (e : SchemaRefusal) → SaysSchema t schema → IsReadable schema → Fails e (schema_of t) → Fails e (Ok schema)
memory_only t schema e s r h = fails_with e (schema_of t) (Ok schema) (schema_again t schema s r) h
