-- The schema that the columns of a table make, each in its form.
use Rattle.std.specs.Prelude.{◌≡◌, ℕ, ◌<◌, ◌&&◌, Bool, true, false, List, [], ◌∷◌, map, filter, slice_get, Option, None, Some, pos, codes}
use Rattle.std.specs.List.{flat_map}
use Rattle.arrow_schema.specs.declared.spec.ArrowType.{ArrowType}
use Rattle.arrow_schema.specs.declared.spec.ArrowType.TheVariants as arrow
use Rattle.arrow_schema.specs.declared.spec.DictSpec.{DictSpec}
use Rattle.arrow_schema.specs.declared.spec.Encoding.{Encoding}
use Rattle.arrow_schema.specs.declared.spec.Encoding.TheVariants as encoding
use Rattle.arrow_schema.specs.declared.spec.FieldSpec.{FieldSpec}
use Rattle.arrow_schema.specs.Branches.{Leaf, Branch, One, Under, branch_fields}
use Rattle.arrow_arrays.specs.declared.spec.ArraySpec.{ArraySpec}
use Rattle.arrow_arrays.specs.Arrays.{is_below_list, arrays_of}
use Rattle.arrow_arrays.specs.Fields.{FieldIn, field_of_array}
use Rattle.otap_cells.specs.declared.payload.Kind.{Kind}
use Rattle.otap_cells.specs.declared.profile.Base.{Base}
use Rattle.otap_cells.specs.declared.profile.Base.TheVariants as base
use Rattle.otap_cells.specs.declared.profile.Coding.{Coding}
use Rattle.otap_cells.specs.declared.profile.Coding.TheVariants as coding
use Rattle.otap_cells.specs.Bases.{is_id}
use Rattle.otap_cells.specs.Columns.{ColumnSpec, columns_of, column_at, width_of, allows}
use Rattle.otap_columns.specs.declared.forms.ColumnForm.{ColumnForm}
use Rattle.otap_columns.specs.declared.forms.ColumnForm.TheVariants as form
use Rattle.otap_cells.specs.Groups.{Member, Group, grouped}
use Rattle.otap_cells.specs.Groups as group
use Rattle.otap_columns.specs.Known.{place_at, known_column}

-- ---- forms

-- the form of each column, by its index
abbrev pub Forms : Type 0
Forms = ℕ → ColumnForm

abbrev pub is_present : ColumnForm → Bool
is_present form.Absent = false
is_present other = true

abbrev pub is_dictionary : ColumnForm → Bool
is_dictionary form.Dict8 = true
is_dictionary form.Dict16 = true
is_dictionary other = false

-- a column that the profile marks may be a dictionary; one of ids may be wide, and may then name how it is stored, in a way that
-- it allows
abbrev pub fits_form : ColumnSpec → ColumnForm → Bool
fits_form c form.Absent = true
fits_form c form.Plain = true
fits_form c form.Dict8 = c.dictionary
fits_form c form.Dict16 = c.dictionary
fits_form c form.Wide = is_id c.base
fits_form c (form.Coded how) = is_id c.base && allows c how

abbrev pub FormsFit : Kind → Forms → Type 0
FormsFit kind forms = (column : ℕ) → column < width_of kind → fits_form (column_at kind column) (forms column) ≡ true

-- ---- fields

-- the type of a column's values; a wide column of ids has numbers of 32 bits
abbrev pub id_type : ColumnForm → ArrowType
id_type form.Wide = arrow.Int 32 false
id_type (form.Coded how) = arrow.Int 32 false
id_type other = arrow.Int 16 false

abbrev pub arrow_type_in : Base → ColumnForm → ArrowType
arrow_type_in base.U8 form = arrow.Int 8 false
arrow_type_in base.U16 form = arrow.Int 16 false
arrow_type_in base.U32 form = arrow.Int 32 false
arrow_type_in base.U64 form = arrow.Int 64 false
arrow_type_in base.I32 form = arrow.Int 32 true
arrow_type_in base.I64 form = arrow.Int 64 true
arrow_type_in base.Double form = arrow.Double
arrow_type_in base.Bool form = arrow.Bool
arrow_type_in base.Utf8 form = arrow.Utf8
arrow_type_in base.Binary form = arrow.Binary
arrow_type_in base.Fixed16 form = arrow.Fixed 16
arrow_type_in base.Fixed8 form = arrow.Fixed 8
arrow_type_in base.Timestamp form = arrow.Timestamp
arrow_type_in base.Duration form = arrow.Duration
arrow_type_in base.ListU64 form = arrow.List
arrow_type_in base.ListF64 form = arrow.List
arrow_type_in (base.Id wide) form = id_type form

-- the type of the elements of a list
abbrev pub item_in : Base → Option ArrowType
item_in base.ListU64 = Some (arrow.Int 64 false)
item_in base.ListF64 = Some arrow.Double
item_in other = None

-- the id of a column's dictionary is the index of the column
abbrev pub dict_for : ℕ → ColumnForm → Option DictSpec
dict_for column form.Dict8 = Some (record { id = pos column; wide = false })
dict_for column form.Dict16 = Some (record { id = pos column; wide = true })
dict_for column other = None

-- the encoding that a field names, which only that of a coded column does
abbrev pub encoding_of : Coding → Encoding
encoding_of coding.Plain = encoding.Plain
encoding_of coding.Delta = encoding.Delta
encoding_of coding.Run = encoding.Run

abbrev pub encoding_for : ColumnForm → Encoding
encoding_for (form.Coded how) = encoding_of how
encoding_for other = encoding.None

-- HOW THE IDS OF A COLUMN ARE STORED in a form: as its field names it, else in the column's own way
abbrev pub coding_for : Coding → ColumnForm → Coding
coding_for own (form.Coded how) = how
coding_for own other = own

-- what a schema has for a column, under this name
abbrev pub leaf_in : Kind → Forms → Member → Leaf
leaf_in kind forms m = record {
  name = m.name;
  kind = arrow_type_in (column_at kind m.column).base (forms m.column);
  dict = dict_for m.column (forms m.column);
  encoding = encoding_for (forms m.column);
  item = item_in (column_at kind m.column).base;
}

-- ---- the schema

-- the columns that are there
abbrev pub members_there : Forms → List Member → List Member
members_there forms members = filter (λ m. is_present (forms m.column)) members

-- those of a struct, which is there where one of them is
abbrev pub branches_under : Kind → Forms → List ℕ → List Member → List Branch
branches_under kind forms struct [] = []
branches_under kind forms struct (m ∷ members) = Under struct (map (leaf_in kind forms) (m ∷ members)) ∷ []

abbrev pub branches_in : Kind → Forms → Group → List Branch
branches_in kind forms (group.Alone m) = map (λ own. One (leaf_in kind forms own)) (members_there forms (m ∷ []))
branches_in kind forms (group.Under struct members) = branches_under kind forms struct (members_there forms members)

unfoldable pub branches_for : Kind → Forms → List Branch
branches_for kind forms = flat_map (branches_in kind forms) (grouped (columns_of kind))

-- THE SCHEMA of a table whose columns have these forms
unfoldable pub schema_for : Kind → Forms → List FieldSpec
schema_for kind forms = branch_fields (branches_for kind forms)

-- ---- its arrays

-- what an array of it is: a struct by its name, a column, or the elements of a column's lists
pub data ArraySlot : Type 0 where
  Struct : List ℕ → ArraySlot
  Column : Member → ArraySlot
  Items : ℕ → ArraySlot

-- the elements come after the lists
abbrev pub items_after : Option ArrowType → ℕ → List ArraySlot
items_after None column = []
items_after (Some item) column = Items column ∷ []

abbrev pub slots_of_member : Kind → Member → List ArraySlot
slots_of_member kind m = Column m ∷ items_after (item_in (column_at kind m.column).base) m.column

abbrev pub slots_under : Kind → List ℕ → List Member → List ArraySlot
slots_under kind struct [] = []
slots_under kind struct (m ∷ members) = Struct struct ∷ flat_map (slots_of_member kind) (m ∷ members)

abbrev pub slots_in : Kind → Forms → Group → List ArraySlot
slots_in kind forms (group.Alone m) = flat_map (slots_of_member kind) (members_there forms (m ∷ []))
slots_in kind forms (group.Under struct members) = slots_under kind struct (members_there forms members)

-- THE ARRAYS of the schema, in their order
unfoldable pub slots_for : Kind → Forms → List ArraySlot
slots_for kind forms = flat_map (slots_in kind forms) (grouped (columns_of kind))

-- the field of each, without its children
abbrev pub item_type : Option ArrowType → ArrowType
item_type None = arrow.Double
item_type (Some kind) = kind

abbrev pub slot_field : Kind → Forms → ArraySlot → FieldIn
slot_field kind forms (Struct name) = record { name = name; kind = arrow.Struct; dict = None; encoding = encoding.None }
slot_field kind forms (Column m) = record {
  name = m.name;
  kind = arrow_type_in (column_at kind m.column).base (forms m.column);
  dict = dict_for m.column (forms m.column);
  encoding = encoding_for (forms m.column);
}
slot_field kind forms (Items column) =
    record { name = codes "item"; kind = item_type (item_in (column_at kind column).base); dict = None; encoding = encoding.None }

-- the column that each is
abbrev pub slot_column : ArraySlot → Option ℕ
slot_column (Struct name) = None
slot_column (Column m) = Some m.column
slot_column (Items column) = None

abbrev pub is_items : ArraySlot → Bool
is_items (Struct name) = false
is_items (Column m) = false
is_items (Items column) = true

-- what an array of the schema is
pub record IsArraySlot (kind : Kind) (forms : Forms) (place : ℕ) (a : ArraySpec) : Type 0 where
  pub slot : ArraySlot
  pub at : slice_get (slots_for kind forms) place ≡ Some slot
  pub field : field_of_array a ≡ slot_field kind forms slot
  pub known : known_column kind (arrays_of (schema_for kind forms)) place ≡ slot_column slot
  pub element : is_below_list a.above ≡ is_items slot

-- a column is found at its path, in its type and its form, with the encoding that its form names
pub record IsFound (kind : Kind) (forms : Forms) (column : ℕ) : Type 0 where
  pub place : ℕ
  pub found : place_at kind (arrays_of (schema_for kind forms)) column ≡ Some place
  pub array : ArraySpec
  pub at : slice_get (arrays_of (schema_for kind forms)) place ≡ Some array
  pub known : known_column kind (arrays_of (schema_for kind forms)) place ≡ Some column
  pub type : array.kind ≡ arrow_type_in (column_at kind column).base (forms column)
  pub dict : array.dict ≡ dict_for column (forms column)
  pub encoding : array.encoding ≡ encoding_for (forms column)
