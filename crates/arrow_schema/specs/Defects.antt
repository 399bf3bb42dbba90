-- What can be wrong with the tables of a schema, each defect by itself. Fields that are nested too deep are not looked at: that
-- there are any is a defect.
use Rattle.std.specs.Prelude.{◌≡◌, ◌≢◌, ℕ, zero, suc, ◌+◌, ◌<◌, ◌==◌, ◌||◌, Bool, true, false, List, Result, Ok, Err, Option, None, Some, ℤ, IsUtf8}
use Rattle.flat_tables.specs.declared.fault.FlatFault.{FlatFault}
use Rattle.flat_tables.specs.Tables.{TableIn, VectorIn, vector_slot, element_table}
use Rattle.arrow_schema.specs.Limits.{max_depth, max_fields}
use Rattle.arrow_schema.specs.declared.spec.ArrowType.{ArrowType}
use Rattle.arrow_schema.specs.declared.refusal.SchemaRefusal.{SchemaRefusal}
use Rattle.arrow_schema.specs.declared.refusal.SchemaRefusal.TheVariants.{Flat, Unsupported, TooManyFields, TooDeep, BadName, DictionaryTypes, Memory}
use Rattle.arrow_schema.specs.Types.{is_number, is_int_width, is_fixed_width}
use Rattle.arrow_schema.specs.Slots.{name_slot, kind_slot, int_width, int_sign, precision, timestamp_unit, duration_unit, byte_width, dictionary_slot, dictionary_id}
use Rattle.arrow_schema.specs.Slots.{index_slot, index_width, index_sign, byte_order, fields_slot, children_slot, metadata_slot, key_slot, value_slot}
use Rattle.arrow_schema.specs.Reading.{type_of}

-- a table that an element of the vector in a slot of another refers to
pub record IsChild (slot : ℕ) (parent t : TableIn) : Type 0 where
  pub vector : VectorIn
  pub has : vector_slot 4 parent slot ≡ Ok (Some vector)
  pub place : ℕ
  pub at : element_table vector place ≡ Ok (Some t)

-- the table of a field, at its depth: the schema's own fields have depth 1, and none is deeper than the limit
pub data IsField (schema : TableIn) : ℕ → TableIn → Type 0 where
  own : (t : TableIn) → IsChild fields_slot schema t → IsField schema 1 t
  inner : (depth : ℕ) (parent t : TableIn) → depth < max_depth → IsField schema depth parent → IsChild children_slot parent t → IsField schema (suc depth) t

-- what has fields, and in which slot: the schema, at depth 0, and each field
pub data IsParent (schema : TableIn) : ℕ → ℕ → TableIn → Type 0 where
  root : IsParent schema 0 fields_slot schema
  field : (depth : ℕ) (t : TableIn) → IsField schema depth t → IsParent schema depth children_slot t

-- ---- faults of the tables, in the parts that are needed

-- the numbers of a type's table, where the type has any
pub data TypeFault (e : FlatFault) (t : TableIn) : Type 0 where
  of_width : kind_slot t ≡ Ok 2 → int_width t ≡ Err e → TypeFault e t
  of_sign : kind_slot t ≡ Ok 2 → int_sign t ≡ Err e → TypeFault e t
  of_precision : kind_slot t ≡ Ok 3 → precision t ≡ Err e → TypeFault e t
  of_timestamp : kind_slot t ≡ Ok 10 → timestamp_unit t ≡ Err e → TypeFault e t
  of_fixed : kind_slot t ≡ Ok 15 → byte_width t ≡ Err e → TypeFault e t
  of_duration : kind_slot t ≡ Ok 18 → duration_unit t ≡ Err e → TypeFault e t

pub data DictionaryFault (e : FlatFault) (t : TableIn) : Type 0 where
  of_table : dictionary_slot t ≡ Err e → DictionaryFault e t
  of_id : (d : TableIn) → dictionary_slot t ≡ Ok (Some d) → dictionary_id d ≡ Err e → DictionaryFault e t
  of_index : (d : TableIn) → dictionary_slot t ≡ Ok (Some d) → index_slot d ≡ Err e → DictionaryFault e t
  of_index_width : (d u : TableIn) → dictionary_slot t ≡ Ok (Some d) → index_slot d ≡ Ok (Some u) → index_width u ≡ Err e → DictionaryFault e t
  of_index_sign : (d u : TableIn) → dictionary_slot t ≡ Ok (Some d) → index_slot d ≡ Ok (Some u) → index_sign u ≡ Err e → DictionaryFault e t

-- the vector in a slot, and the tables that its elements refer to
pub data VectorFault (e : FlatFault) (slot : ℕ) (t : TableIn) : Type 0 where
  of_vector : vector_slot 4 t slot ≡ Err e → VectorFault e slot t
  of_element : (v : VectorIn) (place : ℕ) → vector_slot 4 t slot ≡ Ok (Some v) → element_table v place ≡ Err e → VectorFault e slot t

-- the custom metadata: its vector and its tables, and the key and the value of each pair
pub data MetadataFault (e : FlatFault) (t : TableIn) : Type 0 where
  of_pairs : VectorFault e metadata_slot t → MetadataFault e t
  of_key : (pair : TableIn) → IsChild metadata_slot t pair → key_slot pair ≡ Err e → MetadataFault e t
  of_value : (pair : TableIn) → IsChild metadata_slot t pair → value_slot pair ≡ Err e → MetadataFault e t

pub data FieldFault (e : FlatFault) (t : TableIn) : Type 0 where
  of_name : name_slot t ≡ Err e → FieldFault e t
  of_kind : kind_slot t ≡ Err e → FieldFault e t
  of_type : TypeFault e t → FieldFault e t
  of_dictionary : DictionaryFault e t → FieldFault e t
  of_metadata : MetadataFault e t → FieldFault e t

pub data HasFlatFault (e : FlatFault) (schema : TableIn) : Type 0 where
  in_order : byte_order schema ≡ Err e → HasFlatFault e schema
  in_vector : (depth slot : ℕ) (t : TableIn) → IsParent schema depth slot t → vector_slot 4 t slot ≡ Err e → HasFlatFault e schema
  -- an element that isn't too deep
  in_element : (depth slot : ℕ) (t : TableIn) (v : VectorIn) (place : ℕ) → IsParent schema depth slot t → depth < max_depth
      → vector_slot 4 t slot ≡ Ok (Some v) → element_table v place ≡ Err e → HasFlatFault e schema
  in_field : (depth : ℕ) (t : TableIn) → IsField schema depth t → FieldFault e t → HasFlatFault e schema

-- ---- what isn't supported

abbrev pub is_type_number : ℕ → Bool
is_type_number n = n == 2 || n == 3 || n == 4 || n == 5 || n == 6 || n == 10 || n == 12 || n == 13 || n == 15 || n == 18

pub data UnsupportedType (t : TableIn) : Type 0 where
  other_type : (kind : ℕ) → kind_slot t ≡ Ok kind → is_type_number kind ≡ false → UnsupportedType t
  other_width : (bits : ℤ) → kind_slot t ≡ Ok 2 → int_width t ≡ Ok bits → is_int_width bits ≡ false → UnsupportedType t
  other_precision : (n : ℤ) → kind_slot t ≡ Ok 3 → precision t ≡ Ok n → is_number 2 n ≡ false → UnsupportedType t
  other_timestamp : (n : ℤ) → kind_slot t ≡ Ok 10 → timestamp_unit t ≡ Ok n → is_number 3 n ≡ false → UnsupportedType t
  other_fixed : (n : ℤ) → kind_slot t ≡ Ok 15 → byte_width t ≡ Ok n → is_fixed_width n ≡ false → UnsupportedType t
  other_duration : (n : ℤ) → kind_slot t ≡ Ok 18 → duration_unit t ≡ Ok n → is_number 3 n ≡ false → UnsupportedType t

-- a bool, a list and a struct have no dictionary
abbrev pub takes_no_dictionary : ℕ → Bool
takes_no_dictionary n = n == 6 || n == 12 || n == 13

-- what no list has as its child: another type than an unsigned number of 64 bits or a floating-point number, or a dictionary
pub data UnsupportedElement (t : TableIn) : Type 0 where
  other_element : (kind : ℕ) → kind_slot t ≡ Ok kind → kind ≢ 2 → kind ≢ 3 → UnsupportedElement t
  narrow_element : (bits : ℤ) → kind_slot t ≡ Ok 2 → int_width t ≡ Ok bits → is_number 64 bits ≡ false → UnsupportedElement t
  signed_element : kind_slot t ≡ Ok 2 → int_sign t ≡ Ok true → UnsupportedElement t
  with_dictionary : (d : TableIn) → dictionary_slot t ≡ Ok (Some d) → UnsupportedElement t

pub data UnsupportedField (t : TableIn) : Type 0 where
  of_type : UnsupportedType t → UnsupportedField t
  of_dictionary : (kind : ℕ) (d : TableIn) → kind_slot t ≡ Ok kind → takes_no_dictionary kind ≡ true → dictionary_slot t ≡ Ok (Some d) → UnsupportedField t
  no_index : (d : TableIn) → dictionary_slot t ≡ Ok (Some d) → index_slot d ≡ Ok None → UnsupportedField t
  other_index : (d u : TableIn) (bits : ℤ) → dictionary_slot t ≡ Ok (Some d) → index_slot d ≡ Ok (Some u) → index_width u ≡ Ok bits
      → (is_number 8 bits || is_number 16 bits) ≡ false → UnsupportedField t
  signed_index : (d u : TableIn) → dictionary_slot t ≡ Ok (Some d) → index_slot d ≡ Ok (Some u) → index_sign u ≡ Ok true → UnsupportedField t
  with_children : (kind : ℕ) (v : VectorIn) → kind_slot t ≡ Ok kind → kind ≢ 12 → kind ≢ 13 → vector_slot 4 t children_slot ≡ Ok (Some v) → 0 < v.count → UnsupportedField t
  -- a list has exactly one child
  no_child : kind_slot t ≡ Ok 12 → vector_slot 4 t children_slot ≡ Ok None → UnsupportedField t
  other_count : (v : VectorIn) → kind_slot t ≡ Ok 12 → vector_slot 4 t children_slot ≡ Ok (Some v) → v.count ≢ 1 → UnsupportedField t

pub data IsUnsupported (schema : TableIn) : Type 0 where
  other_order : (n : ℤ) → byte_order schema ≡ Ok n → is_number 0 n ≡ false → IsUnsupported schema
  unsupported : (depth : ℕ) (t : TableIn) → IsField schema depth t → UnsupportedField t → IsUnsupported schema
  -- the child of a list that isn't too deep
  other_child : (depth : ℕ) (t u : TableIn) → IsField schema depth t → depth < max_depth → kind_slot t ≡ Ok 12 → IsChild children_slot t u
      → UnsupportedElement u → IsUnsupported schema

-- ---- too many and too deep

-- how many fields are in a slot of a table and below, down to a depth: each element counts, whatever it refers to
abbrev pub of_vector_in : (VectorIn → ℕ) → Result (Option VectorIn) FlatFault → ℕ
of_vector_in count (Ok (Some v)) = count v
of_vector_in count (Ok None) = 0
of_vector_in count (Err e) = 0

abbrev pub of_table_in : (TableIn → ℕ) → Result (Option TableIn) FlatFault → ℕ
of_table_in count (Ok (Some t)) = count t
of_table_in count (Ok None) = 0
of_table_in count (Err e) = 0

unfoldable pub below_elements : (TableIn → ℕ) → VectorIn → ℕ → ℕ → ℕ
below_elements count v place zero = 0
below_elements count v place (suc n) = of_table_in count (element_table v place) + below_elements count v (place + 1) n

unfoldable pub fields_below : ℕ → ℕ → TableIn → ℕ
fields_below zero slot t = 0
fields_below (suc depth) slot t = of_vector_in (λ v. v.count + below_elements (fields_below depth children_slot) v 0 v.count) (vector_slot 4 t slot)

-- the vectors of the schema and of its fields count, down to those of the deepest ones
abbrev pub HasTooManyFields : TableIn → Type 0
HasTooManyFields schema = max_fields < fields_below (max_depth + 1) fields_slot schema

pub record IsTooDeep (schema : TableIn) : Type 0 where
  pub t : TableIn
  pub deepest : IsField schema max_depth t
  pub vector : VectorIn
  pub has : vector_slot 4 t children_slot ≡ Ok (Some vector)
  pub some : 0 < vector.count

-- ---- names and dictionaries

pub data HasBadName (schema : TableIn) : Type 0 where
  no_text : (depth : ℕ) (t : TableIn) (name : List ℕ) → IsField schema depth t → name_slot t ≡ Ok name → (IsUtf8 name → ⊥) → HasBadName schema
  twice : (depth slot : ℕ) (parent : TableIn) (v : VectorIn) (i j : ℕ) (t u : TableIn) (name : List ℕ) → IsParent schema depth slot parent → depth < max_depth
      → vector_slot 4 parent slot ≡ Ok (Some v) → i < j → element_table v i ≡ Ok (Some t) → element_table v j ≡ Ok (Some u)
      → name_slot t ≡ Ok name → name_slot u ≡ Ok name → HasBadName schema

-- a field with a dictionary, and the type of its values
pub record HasUse (t : TableIn) (id : ℤ) (kind : ArrowType) : Type 0 where
  pub dictionary : TableIn
  pub at : dictionary_slot t ≡ Ok (Some dictionary)
  pub has_id : dictionary_id dictionary ≡ Ok id
  pub has_type : type_of t ≡ Ok kind

pub record HasTwoTypes (schema : TableIn) : Type 0 where
  pub id : ℤ
  pub depth : ℕ
  pub t : TableIn
  pub field : IsField schema depth t
  pub kind : ArrowType
  pub use_of : HasUse t id kind
  pub other_depth : ℕ
  pub other : TableIn
  pub other_field : IsField schema other_depth other
  pub other_kind : ArrowType
  pub other_use : HasUse other id other_kind
  pub differ : kind ≢ other_kind

-- the defects by their names
abbrev pub HasDefect : TableIn → SchemaRefusal → Type 0
HasDefect schema (Flat e) = HasFlatFault e schema
HasDefect schema Unsupported = IsUnsupported schema
HasDefect schema TooManyFields = HasTooManyFields schema
HasDefect schema TooDeep = IsTooDeep schema
HasDefect schema BadName = HasBadName schema
HasDefect schema DictionaryTypes = HasTwoTypes schema
HasDefect schema (Memory e) = ⊥

-- a refusal that is returned is a defect of the tables, unless memory ran out
abbrev pub RefusalStands : TableIn → SchemaRefusal → Type 0
RefusalStands schema (Memory e) = Unit {0}
RefusalStands schema e = HasDefect schema e
