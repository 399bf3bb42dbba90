-- Why no schema is returned.
use Rattle.flat_tables.specs.Tables.{TableIn}
use Rattle.arrow_schema.specs.declared.refusal.SchemaRefusal.{SchemaRefusal}
use Rattle.arrow_schema.specs.declared.refusal.SchemaRefusal.TheVariants.{Flat, Unsupported, TooManyFields, TooDeep, BadName, DictionaryTypes, Memory}
use Rattle.arrow_schema.specs.Reading.{schema_of, Fails}
use Rattle.arrow_schema.proofs.Refused.{schema_refused}
use Rattle.arrow_ipc.specs.Order.{fault_of}
use Rattle.arrow_ipc.specs.Returned.{RefusesSchema}

pub refuses_schema : (table : TableIn) (refusal : SchemaRefusal) → Fails refusal (schema_of table) → RefusesSchema table (fault_of refusal)
refuses_schema table (Memory e) h = tt
refuses_schema table (Flat e) h = schema_refused table (Flat e) h
refuses_schema table Unsupported h = schema_refused table Unsupported h
refuses_schema table TooManyFields h = schema_refused table TooManyFields h
refuses_schema table TooDeep h = schema_refused table TooDeep h
refuses_schema table BadName h = schema_refused table BadName h
refuses_schema table DictionaryTypes h = schema_refused table DictionaryTypes h
