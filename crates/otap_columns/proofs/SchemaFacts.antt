-- What is known of the arrays of a schema of columns, for the record batches that are read with it.
use Rattle.std.proofs.Common.{◌≡◌, ℕ, ◌<◌, true, false, Some, None, refl, sym, ap, ◌∙◌, ◌⊎◌, inl, inr}
use Rattle.std.specs.Prelude.{pos, slice_get}
use Rattle.std.proofs.lemmas.Bool.{cases_Bool, false≢true, true≢false}
use Rattle.arrow_schema.specs.declared.spec.DictSpec.{DictSpec}
use Rattle.arrow_schema.specs.declared.spec.Encoding.{Encoding}
use Rattle.arrow_ipc.specs.Batches.{BatchIn}
use Rattle.arrow_arrays.specs.declared.spec.ArraySpec.{ArraySpec}
use Rattle.arrow_arrays.specs.Arrays.{arrays_of, cell_of, array_place}
use Rattle.arrow_arrays.specs.Cells.{own_cell}
use Rattle.arrow_arrays.specs.Fields.{FieldIn, field_of_array}
use Rattle.arrow_arrays.specs.Written.{HasWholeStructs}
use Rattle.arrow_arrays.proofs.Raised.{whole_cells}
use Rattle.otap_cells.specs.declared.payload.Kind.{Kind}
use Rattle.otap_cells.specs.declared.profile.Coding.{Coding}
use Rattle.otap_cells.specs.declared.profile.Coding.TheVariants as coding
use Rattle.otap_cells.specs.Columns.{base_at, coding_at, width_of}
use Rattle.otap_columns.specs.declared.forms.ColumnForm.{ColumnForm}
use Rattle.otap_columns.specs.declared.forms.ColumnForm.TheVariants as form
use Rattle.otap_columns.specs.Known.{known_column, coding_named, coding_if, array_of_column, array_of, column_coding}
use Rattle.otap_columns.specs.Schemas.{Forms, FormsFit, IsFound, IsArraySlot, ArraySlot, Struct, Column, Items, is_present, is_dictionary, arrow_type_in, dict_for, encoding_for, coding_for, slot_field, slot_column, schema_for}
use Rattle.otap_columns.proofs.Finding.{known_column-below}
use Rattle.otap_columns.proofs.Keeping.{schema_readable}
use Rattle.otap_columns.proofs.Located.{slot_at, column_found, column_absent}

-- a dictionary's form says the id
pub dict_given : (column : ℕ) (f : ColumnForm) (d : DictSpec) → dict_for column f ≡ Some d → (is_dictionary f ≡ true) × (d.id ≡ pos column)
dict_given column form.Dict8 d is = (refl, let same : record { id = pos column; wide = false } ≡ d = cc in sym (ap (λ (x : DictSpec). x.id) same))
dict_given column form.Dict16 d is = (refl, let same : record { id = pos column; wide = true } ≡ d = cc in sym (ap (λ (x : DictSpec). x.id) same))
dict_given column form.Absent d is = absurd (cc)
dict_given column form.Plain d is = absurd (cc)
dict_given column form.Wide d is = absurd (cc)
dict_given column (form.Coded how) d is = absurd (cc)

pub dict_there : (column : ℕ) (f : ColumnForm) → is_dictionary f ≡ true → (d : DictSpec) × (dict_for column f ≡ Some d) × (d.id ≡ pos column)
dict_there column form.Dict8 is = (record { id = pos column; wide = false }, refl, refl)
dict_there column form.Dict16 is = (record { id = pos column; wide = true }, refl, refl)
dict_there column form.Absent is = absurd (false≢true is)
dict_there column form.Plain is = absurd (false≢true is)
dict_there column form.Wide is = absurd (false≢true is)
dict_there column (form.Coded how) is = absurd (false≢true is)

pub form_there : (f : ColumnForm) → is_dictionary f ≡ true → is_present f ≡ true
form_there form.Dict8 is = refl
form_there form.Dict16 is = refl
form_there form.Absent is = absurd (false≢true is)
form_there form.Plain is = refl
form_there form.Wide is = refl
form_there (form.Coded how) is = refl

-- the coding that a form names is that of its encoding, and a column that isn't there names none
named_again : (own : Coding) (f : ColumnForm) → coding_named (encoding_for f) own ≡ coding_for own f
named_again own form.Absent = refl
named_again own form.Plain = refl
named_again own form.Dict8 = refl
named_again own form.Dict16 = refl
named_again own form.Wide = refl
named_again own (form.Coded coding.Plain) = refl
named_again own (form.Coded coding.Delta) = refl
named_again own (form.Coded coding.Run) = refl

absent_own : (own : Coding) (f : ColumnForm) → is_present f ≡ false → own ≡ coding_for own f
absent_own own form.Absent not = refl
absent_own own other not = absurd (true≢false not)

module _ (kind : Kind) (forms : Forms) (fit : FormsFit kind forms) where
  -- an array that has a dictionary is that of a column in a dictionary's form
  pub record HasColumn (place : ℕ) (a : ArraySpec) : Type 0 where
    pub column : ℕ
    pub below : column < width_of kind
    pub known : known_column kind (arrays_of (schema_for kind forms)) place ≡ Some column
    pub type : a.kind ≡ arrow_type_in (base_at kind column) (forms column)
    pub dict : a.dict ≡ dict_for column (forms column)

  by_slot : (place : ℕ) (a : ArraySpec) (d : DictSpec) (slot : ArraySlot) → a.dict ≡ Some d → field_of_array a ≡ slot_field kind forms slot
      → known_column kind (arrays_of (schema_for kind forms)) place ≡ slot_column slot → HasColumn place a
  by_slot place a d (Struct name) is field known = let none : None ≡ Some d = sym (ap (λ (f : FieldIn). f.dict) field) ∙ is in absurd (cc)
  by_slot place a d (Items column) is field known = let none : None ≡ Some d = sym (ap (λ (f : FieldIn). f.dict) field) ∙ is in absurd (cc)
  by_slot place a d (Column m) is field known = record {
    column = m.column;
    below = known_column-below kind (arrays_of (schema_for kind forms)) place m.column known;
    known = known;
    type = ap (λ (f : FieldIn). f.kind) field;
    dict = ap (λ (f : FieldIn). f.dict) field;
  }

  pub has_column : (place : ℕ) (a : ArraySpec) (d : DictSpec) → slice_get (arrays_of (schema_for kind forms)) place ≡ Some a → a.dict ≡ Some d → HasColumn place a
  has_column place a d at is =
      let s : IsArraySlot kind forms place a = slot_at kind forms fit place a at in
      by_slot place a d s.slot is s.field s.known

  -- ids are stored as the form of their column says
  pub coded : (column : ℕ) → column < width_of kind → column_coding kind (arrays_of (schema_for kind forms)) column ≡ coding_for (coding_at kind column) (forms column)
  unfolding array_of
  coded column below = by (cases_Bool (is_present (forms column)))
    where
      by : (is_present (forms column) ≡ true) ⊎ (is_present (forms column) ≡ false) → column_coding kind (arrays_of (schema_for kind forms)) column ≡ coding_for (coding_at kind column) (forms column)
      by (inl here) =
          let f : IsFound kind forms column = column_found kind forms fit column below here in
          (λ i. coding_if (coding_at kind column) (array_of_column (arrays_of (schema_for kind forms)) (f.found i))) ∙ (λ i. coding_if (coding_at kind column) (f.at i))
          ∙ ap (λ (e : Encoding). coding_named e (coding_at kind column)) f.encoding ∙ named_again (coding_at kind column) (forms column)
      by (inr not) =
          (λ i. coding_if (coding_at kind column) (array_of_column (arrays_of (schema_for kind forms)) (column_absent kind forms fit column not i)))
          ∙ absent_own (coding_at kind column) (forms column) not

  -- a cell is that of its own array, where no row of a struct is null
  pub own_cells : (batch : BatchIn) (row place : ℕ) (a : ArraySpec) → HasWholeStructs (arrays_of (schema_for kind forms)) batch row
      → slice_get (arrays_of (schema_for kind forms)) place ≡ Some a → cell_of (arrays_of (schema_for kind forms)) batch place row ≡ own_cell batch (array_place a) row
  own_cells batch row place a whole at = whole_cells (schema_for kind forms) batch row (schema_readable kind forms fit) whole place a at
