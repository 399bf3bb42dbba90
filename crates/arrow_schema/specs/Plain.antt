-- How the tables of a schema that is written read, slot by slot (Arrow's Schema.fbs): each field is nullable, no timestamp has a
-- timezone, and there is no custom metadata but the one pair that names an encoding.
use Rattle.std.specs.Prelude.{◌≡◌, ◌⊎◌, ℕ, codes, Ok, Some, None}
use Rattle.flat_tables.specs.Tables.{TableIn, VectorIn, byte_slot, table_slot, vector_slot, element_table, place_of}
use Rattle.arrow_schema.specs.Defects.{IsChild}
use Rattle.arrow_schema.specs.Slots.{kind_slot, fields_slot, children_slot, metadata_slot, key_slot}

-- whether a field is nullable, the table of its type, the timezone in a Timestamp's, and the custom metadata of a schema
abbrev pub nullable_slot : ℕ
nullable_slot = 1

abbrev pub type_table_slot : ℕ
type_table_slot = 3

abbrev pub timezone_slot : ℕ
timezone_slot = 1

abbrev pub schema_metadata_slot : ℕ
schema_metadata_slot = 2

-- the table of a field of a schema, or of a field below one
pub data IsFieldOf (schema : TableIn) : TableIn → Type 0 where
  own_field : (t : TableIn) → IsChild fields_slot schema t → IsFieldOf schema t
  child_field : (parent t : TableIn) → IsFieldOf schema parent → IsChild children_slot parent t → IsFieldOf schema t

-- the custom metadata of a field is a vector of one pair, whose key is `encoding`
pub record HasEncodingAlone (t : TableIn) : Type 0 where
  pub vector : VectorIn
  pub has : vector_slot 4 t metadata_slot ≡ Ok (Some vector)
  pub one : vector.count ≡ 1
  pub pair : TableIn
  pub at : element_table vector 0 ≡ Ok (Some pair)
  pub key : key_slot pair ≡ Ok (Some (codes "encoding"))

-- a field is nullable; a Timestamp, whose type has number 10, has no timezone; and it has no further metadata
pub record IsPlainField (t : TableIn) : Type 0 where
  pub nullable : byte_slot t nullable_slot ≡ Ok (Some 1)
  pub no_timezone : kind_slot t ≡ Ok 10 → (type : TableIn) → table_slot t type_table_slot ≡ Ok (Some type) → place_of type timezone_slot ≡ None
  pub metadata : (place_of t metadata_slot ≡ None) ⊎ HasEncodingAlone t

-- A PLAIN SCHEMA has no custom metadata, and only such fields
pub record IsPlainSchema (schema : TableIn) : Type 0 where
  pub no_metadata : place_of schema schema_metadata_slot ≡ None
  pub fields : (t : TableIn) → IsFieldOf schema t → IsPlainField t
