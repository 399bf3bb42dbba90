-- What it means that tables say a field or a schema (Arrow's Schema.fbs: `Schema`, `Field`, `DictionaryEncoding`,
-- `KeyValue` and the tables of types). No limit is spoken of here.
use Rattle.std.specs.Prelude.{◌≡◌, ◌⊎◌, ℕ, ◌<◌, Bool, false, if◌then◌else◌, List, [], ◌∷◌, length, slice_index_or, Ok, Option, None, Some, pos}
use Rattle.flat_tables.specs.Tables.{TableIn, VectorIn, vector_slot, element_table}
use Rattle.arrow_schema.specs.declared.spec.ArrowType.{ArrowType}
use Rattle.arrow_schema.specs.declared.spec.ArrowType.TheVariants.{Int, Double, Fixed, Timestamp, Duration}
use Rattle.arrow_schema.specs.declared.spec.DictSpec.{DictSpec}
use Rattle.arrow_schema.specs.declared.spec.Encoding.{Encoding}
use Rattle.arrow_schema.specs.declared.spec.FieldSpec.{FieldSpec}
use Rattle.arrow_schema.specs.Types.{type_number}
use Rattle.arrow_schema.specs.Slots.{name_slot, kind_slot, int_width, int_sign, precision, timestamp_unit, duration_unit, byte_width, dictionary_slot, dictionary_id}
use Rattle.arrow_schema.specs.Slots.{index_slot, index_width, index_sign, byte_order, fields_slot, children_slot, metadata_slot, key_slot, value_slot}
use Rattle.arrow_schema.specs.Encodings.{KeyValue, encoding_of_pairs}
use Rattle.arrow_schema.specs.Trees.{name_in, kind_in, dict_in, encoding_in, children_in}

-- the numbers in the table of a field's type
abbrev pub SaysNumbers : TableIn → ArrowType → Type 0
SaysNumbers t (Int bits signed) = (int_width t ≡ Ok (pos bits)) × (int_sign t ≡ Ok signed)
SaysNumbers t Double = precision t ≡ Ok (pos 2)
SaysNumbers t Timestamp = timestamp_unit t ≡ Ok (pos 3)
SaysNumbers t Duration = duration_unit t ≡ Ok (pos 3)
SaysNumbers t (Fixed width) = byte_width t ≡ Ok (pos width)
SaysNumbers t kind = Unit {0}

-- indexes have 8 or 16 bits and no sign
pub record SaysIndex (u : TableIn) (wide : Bool) : Type 0 where
  pub width : index_width u ≡ Ok (pos (if wide then 16 else 8))
  pub sign : index_sign u ≡ Ok false

pub record SaysDict (d : TableIn) (dict : DictSpec) : Type 0 where
  pub id : dictionary_id d ≡ Ok dict.id
  pub index : TableIn
  pub at : index_slot d ≡ Ok (Some index)
  pub says : SaysIndex index dict.wide

abbrev pub SaysDictionary : TableIn → Option DictSpec → Type 0
SaysDictionary t None = dictionary_slot t ≡ Ok None
SaysDictionary t (Some dict) = (d : TableIn) × (dictionary_slot t ≡ Ok (Some d)) × SaysDict d dict

-- the tables that the elements of a vector refer to, and those of the vector in a slot; an absent vector has none
pub record HasElements (v : VectorIn) (tables : List TableIn) : Type 0 where
  pub count : v.count ≡ length tables
  pub each : (i : ℕ) (d : TableIn) → i < length tables → element_table v i ≡ Ok (Some (slice_index_or tables i d))

abbrev pub HasTables : ℕ → TableIn → List TableIn → Type 0
HasTables slot t tables =
    ((vector_slot 4 t slot ≡ Ok None) × (tables ≡ []))
    ⊎ ((v : VectorIn) × (vector_slot 4 t slot ≡ Ok (Some v)) × HasElements v tables)

-- a table KeyValue says a pair
pub record SaysPair (t : TableIn) (pair : KeyValue) : Type 0 where
  pub key : key_slot t ≡ Ok pair.key
  pub value : value_slot t ≡ Ok pair.value

abbrev pub SayPairs : List TableIn → List KeyValue → Type 0
SayPairs [] [] = Unit {0}
SayPairs (t ∷ tables) (pair ∷ pairs) = SaysPair t pair × SayPairs tables pairs
SayPairs [] (pair ∷ pairs) = ⊥
SayPairs (t ∷ tables) [] = ⊥

-- a field's custom metadata names an encoding: all of its pairs are read
pub record SaysEncoding (t : TableIn) (encoding : Encoding) : Type 0 where
  pub tables : List TableIn
  pub has : HasTables metadata_slot t tables
  pub pairs : List KeyValue
  pub say : SayPairs tables pairs
  pub names : encoding_of_pairs pairs ≡ encoding

-- a table says a field: its name, its type, its dictionary, its encoding, and its children by their tables, in order
pub data SaysField : TableIn → FieldSpec → Type 0 where
  says : (t : TableIn) (f : FieldSpec) (tables : List TableIn)
      → name_slot t ≡ Ok (name_in f)
      → kind_slot t ≡ Ok (type_number (kind_in f)) → SaysNumbers t (kind_in f)
      → SaysDictionary t (dict_in f)
      → SaysEncoding t (encoding_in f)
      → HasTables children_slot t tables → length tables ≡ length (children_in f)
      → ((i : ℕ) (u : TableIn) (g : FieldSpec) → i < length tables → SaysField (slice_index_or tables i u) (slice_index_or (children_in f) i g))
      → SaysField t f

-- tables say fields, one by one
pub record SayFields (tables : List TableIn) (fields : List FieldSpec) : Type 0 where
  pub long : length tables ≡ length fields
  pub each : (i : ℕ) (u : TableIn) (g : FieldSpec) → i < length tables → SaysField (slice_index_or tables i u) (slice_index_or fields i g)

-- a table says a schema: little-endian, and its fields by their tables, in order
pub record SaysSchema (t : TableIn) (fields : List FieldSpec) : Type 0 where
  pub order : byte_order t ≡ Ok (pos 0)
  pub tables : List TableIn
  pub has : HasTables fields_slot t tables
  pub say : SayFields tables fields
