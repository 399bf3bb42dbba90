-- What is written for a schema (Arrow's Schema.fbs; FlatBuffers Internals).
use Rattle.std.specs.Prelude.{◌≡◌, ℕ, ◌+◌, ◌-◌, ◌<◌, ◌^◌, nat_lt, ◌&&◌, Bool, true, false, if◌then◌else◌, List, [], ◌∷◌, length, codes, slice_index_or, Ok, Option, None, Some, pos}
use Rattle.std.specs.List.{list_all}
use Rattle.flat_tables.specs.Tables.{TableIn, table_at}
use Rattle.flat_tables.specs.declared.place.Slot.{Slot}
use Rattle.flat_tables.specs.declared.place.Slot.TheVariants.{Absent, U8, I16, I32, I64, At}
use Rattle.flat_tables.specs.Building.{IsText, IsPlaces, HasSlots}
use Rattle.arrow_schema.specs.declared.spec.ArrowType.{ArrowType}
use Rattle.arrow_schema.specs.declared.spec.ArrowType.TheVariants.{Int, Double, Fixed, Timestamp, Duration}
use Rattle.arrow_schema.specs.declared.spec.DictSpec.{DictSpec}
use Rattle.arrow_schema.specs.declared.spec.Encoding.{Encoding}
use Rattle.arrow_schema.specs.declared.spec.Encoding.TheVariants as encoding
use Rattle.arrow_schema.specs.declared.spec.FieldSpec.{FieldSpec, fold-FieldSpec}
use Rattle.arrow_schema.specs.declared.spec.FieldSpec.TheOpen.{FieldSpec-F}
use Rattle.arrow_schema.specs.Types.{type_number}
use Rattle.arrow_schema.specs.Trees.{sum_of, name_in, kind_in, dict_in, encoding_in, children_in}
use Rattle.arrow_schema.specs.Says.{SaysSchema}
use Rattle.arrow_schema.specs.Readable.{IsReadable}
use Rattle.arrow_schema.specs.Reading.{schema_of}

-- the bytes of the names of fields, children included
abbrev pub names_step : FieldSpec-F ℕ → ℕ
names_step f = length f.name + sum_of f.children

abbrev pub names_in : FieldSpec → ℕ
names_in = fold-FieldSpec ℕ names_step

abbrev pub names_of : List FieldSpec → ℕ
names_of [] = 0
names_of (f ∷ fields) = names_in f + names_of fields

-- the widths of fixed binaries are numbers of 32 bits with a sign
abbrev pub fits_width : ArrowType → Bool
fits_width (Fixed width) = nat_lt width (2 ^ 31)
fits_width kind = true

abbrev pub widths_step : FieldSpec-F Bool → Bool
widths_step f = fits_width f.kind && list_all (λ fits. fits) f.children

abbrev pub widths_in : FieldSpec → Bool
widths_in = fold-FieldSpec Bool widths_step

abbrev pub widths_fit : List FieldSpec → Bool
widths_fit fields = list_all widths_in fields

-- no field has an encoding that isn't named
abbrev pub is_named : Encoding → Bool
is_named encoding.Other = false
is_named named = true

abbrev pub named_step : FieldSpec-F Bool → Bool
named_step f = is_named f.encoding && list_all (λ named. named) f.children

abbrev pub named_in : FieldSpec → Bool
named_in = fold-FieldSpec Bool named_step

abbrev pub encodings_named : List FieldSpec → Bool
encodings_named fields = list_all named_in fields

-- ---- the tables that are written
-- They are described as the builder adds them: with the zero byte that follows each text, the slots that are absent, and
-- the alignment of each part in finished bytes. The offset of a part that a slot refers to is counted from the end.

-- the slots of a type's table: a Timestamp has no timezone
abbrev pub type_slots : ArrowType → List Slot
type_slots (Int bits signed) = I32 (pos bits) ∷ U8 (if signed then 1 else 0) ∷ []
type_slots Double = I16 (pos 2) ∷ []
type_slots Timestamp = I16 (pos 3) ∷ []
type_slots Duration = I16 (pos 3) ∷ []
type_slots (Fixed width) = I32 (pos width) ∷ []
type_slots kind = []

-- the slots of an index type's table
abbrev pub index_slots : Bool → List Slot
index_slots wide = I32 (pos (if wide then 16 else 8)) ∷ U8 0 ∷ []

-- a table DictionaryEncoding: its id, and the table of its index type
pub record WritesDict (dict : DictSpec) (bytes : List ℕ) (place : ℕ) : Type 0 where
  pub index : ℕ
  pub table : HasSlots (I64 dict.id ∷ At index ∷ []) bytes place
  pub index_table : HasSlots (index_slots dict.wide) bytes (length bytes - index)

-- the slot of a dictionary: absent, or the offset of its table
abbrev pub WritesDictionary : Option DictSpec → List ℕ → Slot → Type 0
WritesDictionary None bytes slot = slot ≡ Absent
WritesDictionary (Some dict) bytes slot = (place : ℕ) × (slot ≡ At place) × WritesDict dict bytes (length bytes - place)

-- the value that names an encoding
abbrev pub encoding_word : Encoding → List ℕ
encoding_word encoding.Plain = codes "plain"
encoding_word encoding.Delta = codes "delta"
encoding_word encoding.Run = codes "run"
encoding_word _ = []

-- a vector of one table KeyValue, whose key is `encoding`
pub record WritesPair (word : List ℕ) (bytes : List ℕ) (place : ℕ) : Type 0 where
  pub pair : ℕ
  pub vector : IsPlaces (pair ∷ []) bytes place
  pub key : ℕ
  pub value : ℕ
  pub table : HasSlots (At key ∷ At value ∷ []) bytes (length bytes - pair)
  pub key_text : IsText (codes "encoding") bytes (length bytes - key)
  pub value_text : IsText word bytes (length bytes - value)

-- the slot of the custom metadata: absent, or the offset of a vector of one pair
abbrev pub WritesMetadata : Encoding → List ℕ → Slot → Type 0
WritesMetadata encoding.None bytes slot = slot ≡ Absent
WritesMetadata named bytes slot = (place : ℕ) × (slot ≡ At place) × WritesPair (encoding_word named) bytes (length bytes - place)

-- a table Field, which is nullable
abbrev pub field_slots : FieldSpec → ℕ → ℕ → Slot → ℕ → Slot → List Slot
field_slots f name kind dict children metadata =
    At name ∷ U8 1 ∷ U8 (type_number (kind_in f)) ∷ At kind ∷ dict ∷ At children ∷ metadata ∷ []

-- a field is written at an offset: its table, its name, the table of its type, its dictionary, its custom metadata and its children
pub data WritesField : FieldSpec → List ℕ → ℕ → Type 0 where
  writes : (f : FieldSpec) (bytes : List ℕ) (place name kind children : ℕ) (dict metadata : Slot) (places : List ℕ)
      → HasSlots (field_slots f name kind dict children metadata) bytes place
      → IsText (name_in f) bytes (length bytes - name)
      → HasSlots (type_slots (kind_in f)) bytes (length bytes - kind)
      → WritesDictionary (dict_in f) bytes dict
      → WritesMetadata (encoding_in f) bytes metadata
      → IsPlaces places bytes (length bytes - children) → length places ≡ length (children_in f)
      → ((i p : ℕ) (g : FieldSpec) → i < length places → WritesField (slice_index_or (children_in f) i g) bytes (length bytes - slice_index_or places i p))
      → WritesField f bytes place

-- a vector of fields is written at an offset
pub record WritesFields (fields : List FieldSpec) (bytes : List ℕ) (place : ℕ) : Type 0 where
  pub places : List ℕ
  pub vector : IsPlaces places bytes place
  pub long : length places ≡ length fields
  pub each : (i p : ℕ) (g : FieldSpec) → i < length places → WritesField (slice_index_or fields i g) bytes (length bytes - slice_index_or places i p)

-- a schema is written at an offset: a table Schema, little-endian and without custom metadata, and its fields
pub record WritesSchema (fields : List FieldSpec) (bytes : List ℕ) (place : ℕ) : Type 0 where
  pub vector : ℕ
  pub table : HasSlots (Absent ∷ At vector ∷ []) bytes place
  pub written : WritesFields fields bytes (length bytes - vector)

-- The table of a schema is written so at the offset. It says the schema, and is read as it where the schema is readable.
pub record IsSchemaTable (fields : List FieldSpec) (bytes : List ℕ) (place : ℕ) : Type 0 where
  pub writes : WritesSchema fields bytes place
  pub table : TableIn
  pub read : table_at bytes place ≡ Ok table
  pub says : SaysSchema table fields
  pub reads : IsReadable fields → schema_of table ≡ Ok fields
