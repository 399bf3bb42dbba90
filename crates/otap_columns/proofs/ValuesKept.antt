-- What the values of a column's dictionary are: bytes of cells, few of them, and none of ids or lists.
use Rattle.std.proofs.Common.{◌≡◌, ℕ, zero, suc, ◌<◌, ◌≤◌, Bool, true, false, List, [], ◌∷◌, ◌++◌, length, map, drop, fold, get_or, Option, Some, None, refl, sym, ap, ◌∙◌, arith, inl, inr, subst}
use Rattle.std.specs.Prelude.{slice_get, nat_lt, bytes_eq, if◌then◌else◌}
use Rattle.std.specs.List.{AllByRecursion, list_any, list_all, flat_map}
use Rattle.std.proofs.lemmas.Bool.{cases_Bool, and_from, and_parts, or_left, or_right, ltb-false, false≢true, true≢false}
use Rattle.std.proofs.lemmas.Slice.Eq.{bytes_eq-Decides}
use Rattle.std.proofs.lemmas.List.Folds.{list_any-append}
use Rattle.lists.proofs.Every.{every_append, every_drop}
use Rattle.otap_dicts.proofs.Once.{members-law}
use Rattle.arrow_schema.specs.declared.spec.ArrowType.{ArrowType}
use Rattle.arrow_schema.specs.Types.{takes_dictionary}
use Rattle.arrow_buffers.specs.declared.width.Width.{Width}
use Rattle.arrow_buffers.proofs.EachBelow.{all_below-at}
use Rattle.arrow_buffers.specs.Vars.{is_text}
use Rattle.arrow_buffers.specs.Columns.{HasWidth}
use Rattle.arrow_arrays.specs.Columns.{stored_width, AreTexts}
use Rattle.arrow_arrays.specs.declared.layout.Layout.{Layout}
use Rattle.arrow_arrays.specs.declared.layout.Layout.TheVariants as layout
use Rattle.arrow_arrays.specs.Layouts.{layout_of_values}
use Rattle.otap_cells.specs.declared.payload.Kind.{Kind}
use Rattle.otap_cells.specs.declared.profile.Base.{Base}
use Rattle.otap_cells.specs.declared.profile.Base.TheVariants as base
use Rattle.otap_cells.specs.Bases.{is_id}
use Rattle.otap_cells.specs.Cells.{Cell, IsCellOf, null, number, bits, flag, bytes}
use Rattle.otap_cells.specs.Columns as columns
use Rattle.otap_cells.specs.Tables.{Table, cell_in, column_in}
use Rattle.otap_dicts.specs.declared.form.Form.{Form}
use Rattle.otap_dicts.specs.declared.form.Form.TheVariants as ladder
use Rattle.otap_dicts.specs.Forms.{distinct, with_value, form_of, is_too_large, byte_count}
use Rattle.otap_dicts.specs.Ladders.{ladder_of, kept_in}
use Rattle.otap_dicts.specs.Limits.{narrow_limit}
use Rattle.otap_columns.specs.declared.forms.ColumnForm.{ColumnForm}
use Rattle.otap_columns.specs.declared.forms.ColumnForm.TheVariants as form
use Rattle.otap_columns.specs.WrittenPayloads.{IsWritableTable}
use Rattle.otap_columns.specs.Schemas.{fits_form, is_dictionary, item_in, arrow_type_in}
use Rattle.otap_columns.specs.Observed.{bytes_for, given, bytes_of_values, values_in_tables, form_at, dictionary_values, is_own_id, id_form_if, of_ladder}
use Rattle.otap_columns.specs.WrittenBatches.{IsSingle, HoldsType}
use Rattle.otap_columns.specs.BuiltCells.{plain_width}
use Rattle.otap_columns.specs.WrittenRows.{IsKnownIn}
use Rattle.otap_columns.proofs.Grouping.{kinds_grouped, may_be_dictionary}
use Rattle.otap_columns.proofs.Keeping.{marked_takes}
use Rattle.otap_columns.proofs.HeadsTaken.{all_some}
use Rattle.otap_columns.proofs.ColumnsBuilt.{plain_fits}
use Rattle.otap_columns.proofs.PartsBuilt.{text_cell}
use Rattle.otap_columns.proofs.ValuesSeen.{forms_fit, ids_have, seen-push}

-- ---- the bytes of a cell

abbrev pub IsTextFor : Base → List ℕ → Type 0
IsTextFor holds value = AreTexts (layout_of_values (arrow_type_in holds form.Wide)) (Some value ∷ [])

abbrev pub IsValueOf : Base → List ℕ → Type 0
IsValueOf holds value = HasWidth (plain_width holds form.Wide) value × IsTextFor holds value

one_text : (holds : Base) (cell : Cell) (value : List ℕ) → IsCellOf holds cell → bytes_for holds form.Wide cell ≡ Some value → IsTextFor holds value
one_text base.U8 cell value is at = tt
one_text base.U16 cell value is at = tt
one_text base.U32 cell value is at = tt
one_text base.U64 cell value is at = tt
one_text base.I32 cell value is at = tt
one_text base.I64 cell value is at = tt
one_text base.Double cell value is at = tt
one_text base.Bool cell value is at = tt
one_text base.Utf8 cell value is at = and_from (is_text (Some value)) true (ap is_text (sym at) ∙ text_cell form.Wide cell is) refl
one_text base.Binary cell value is at = tt
one_text base.Fixed16 cell value is at = tt
one_text base.Fixed8 cell value is at = tt
one_text base.Timestamp cell value is at = tt
one_text base.Duration cell value is at = tt
one_text base.ListU64 cell value is at = tt
one_text base.ListF64 cell value is at = tt
one_text (base.Id wide) cell value is at = tt

value_of : (holds : Base) (cell : Cell) (value : List ℕ) → IsCellOf holds cell → bytes_for holds form.Wide cell ≡ Some value → IsValueOf holds value
value_of holds cell value is at = (plain_fits holds form.Wide cell is value at, one_text holds cell value is at)

-- ---- those of a column, of tables, and the distinct ones

cells_given : (holds : Base) (rows : List (List Cell)) (column : ℕ) → ((row : ℕ) → row < length rows → IsCellOf holds (cell_in rows column row))
    → AllByRecursion (IsValueOf holds) (given (map (bytes_for holds form.Wide) (column_in rows column)))
cells_given holds [] column each = tt
cells_given holds (r ∷ rows) column each = by (bytes_for holds form.Wide (get_or r column null)) refl (cells_given holds rows column (λ row low. each (suc row) (omega arith)))
  where
    by : (o : Option (List ℕ)) → bytes_for holds form.Wide (get_or r column null) ≡ o
        → AllByRecursion (IsValueOf holds) (given (map (bytes_for holds form.Wide) (column_in rows column)))
        → AllByRecursion (IsValueOf holds) (given (map (bytes_for holds form.Wide) (column_in (r ∷ rows) column)))
    by None is rest = rw is rest
    by (Some value) is rest = rw is (value_of holds (get_or r column null) value (each 0 (omega arith)) is, rest)

tables_given : (kind : Kind) (column : ℕ) (tables : List Table) → AllByRecursion (IsWritableTable kind) tables
    → AllByRecursion (IsValueOf (columns.base_at kind column)) (flat_map (bytes_of_values kind column) tables)
tables_given kind column [] each = tt
tables_given kind column (t ∷ tables) each =
    every_append (IsValueOf (columns.base_at kind column)) (bytes_of_values kind column t) (flat_map (bytes_of_values kind column) tables)
    (cells_given (columns.base_at kind column) t.rows column
    (λ row low. subst (λ (k : Kind). IsCellOf (columns.base_at k column) (cell_in t.rows column row)) each.0.kind_is (each.0.table.fits column row)))
    (tables_given kind column tables each.1)

each_distinct : (P : List ℕ → Type 0) (known values : List (List ℕ)) → AllByRecursion P known → AllByRecursion P values → AllByRecursion P (fold with_value known values)
each_distinct P known [] have more = have
each_distinct P known (v ∷ vs) have more =
    elim (cases_Bool (list_any (bytes_eq v) known)) [
      | inl there ↦ each_distinct P (with_value known v) vs (rw there have) more.1
      | inr new ↦ each_distinct P (with_value known v) vs (rw new (every_append P known (v ∷ []) have (more.0, tt))) more.1
    ]

pub values_are : (kind : Kind) (column : ℕ) (tables : List Table) → AllByRecursion (IsWritableTable kind) tables
    → AllByRecursion (IsValueOf (columns.base_at kind column)) (dictionary_values kind tables column)
unfolding dictionary_values distinct values_in_tables
values_are kind column tables each =
    each_distinct (IsValueOf (columns.base_at kind column)) [] (flat_map (bytes_of_values kind column) tables) tt (tables_given kind column tables each)

-- ---- as values of a type

each_at : (P : List ℕ → Type 0) (values : List (List ℕ)) → AllByRecursion P values → (place : ℕ) (value : List ℕ) → slice_get values place ≡ Some value → P value
each_at P [] each place value at = absurd (cc)
each_at P (v ∷ vs) each zero value at = let same : v ≡ value = cc in subst P same each.0
each_at P (v ∷ vs) each (suc place) value at = each_at P vs each.1 place value at

each_texts : (values : List (List ℕ)) → AllByRecursion (λ value. list_all is_text (Some value ∷ []) ≡ true) values → list_all is_text (all_some values) ≡ true
each_texts [] each = refl
each_texts (v ∷ vs) each = and_from (is_text (Some v)) (list_all is_text (all_some vs)) (and_parts (is_text (Some v)) true each.0).0 (each_texts vs each.1)

all_texts : (l : Layout) (values : List (List ℕ)) → AllByRecursion (λ value. AreTexts l (Some value ∷ [])) values → AreTexts l (all_some values)
all_texts layout.Struct values each = tt
all_texts layout.Bits values each = tt
all_texts (layout.Fixed n) values each = tt
all_texts layout.Binary values each = tt
all_texts layout.Text values each = each_texts values each
all_texts layout.List values each = tt

type_holds : (type : ArrowType) (w : Width) (values : List (List ℕ)) → stored_width (layout_of_values type) ≡ Some w → IsSingle w
    → AllByRecursion (λ value. HasWidth w value × AreTexts (layout_of_values type) (Some value ∷ [])) values → HoldsType type w values
type_holds type w values stored single each = record {
  stored = stored;
  single = single;
  wide = λ place value at. (each_at (λ v. HasWidth w v × AreTexts (layout_of_values type) (Some v ∷ [])) values each place value at).0;
  texts = λ from. all_texts (layout_of_values type) (drop from values) (second (drop from values) (every_drop (λ v. HasWidth w v × AreTexts (layout_of_values type) (Some v ∷ [])) from values each));
}
  where
    second : (vs : List (List ℕ)) → AllByRecursion (λ v. HasWidth w v × AreTexts (layout_of_values type) (Some v ∷ [])) vs
        → AllByRecursion (λ v. AreTexts (layout_of_values type) (Some v ∷ [])) vs
    second [] h = tt
    second (v ∷ vs) h = (h.0.1, second vs h.1)

pub base_holds : (holds : Base) (f : ColumnForm) (values : List (List ℕ)) → is_id holds ≡ false → takes_dictionary (arrow_type_in holds form.Plain) ≡ true
    → AllByRecursion (IsValueOf holds) values
    → HoldsType (arrow_type_in holds f) (plain_width holds f) values
base_holds base.U8 f values id takes each = type_holds _ _ values refl (omega arith) each
base_holds base.U16 f values id takes each = type_holds _ _ values refl (omega arith) each
base_holds base.U32 f values id takes each = type_holds _ _ values refl (omega arith) each
base_holds base.U64 f values id takes each = type_holds _ _ values refl (omega arith) each
base_holds base.I32 f values id takes each = type_holds _ _ values refl (omega arith) each
base_holds base.I64 f values id takes each = type_holds _ _ values refl (omega arith) each
base_holds base.Double f values id takes each = type_holds _ _ values refl (omega arith) each
base_holds base.Bool f values id takes each = absurd (false≢true takes)
base_holds base.Utf8 f values id takes each = type_holds _ _ values refl tt each
base_holds base.Binary f values id takes each = type_holds _ _ values refl tt each
base_holds base.Fixed16 f values id takes each = type_holds _ _ values refl (omega arith) each
base_holds base.Fixed8 f values id takes each = type_holds _ _ values refl (omega arith) each
base_holds base.Timestamp f values id takes each = type_holds _ _ values refl (omega arith) each
base_holds base.Duration f values id takes each = type_holds _ _ values refl (omega arith) each
base_holds base.ListU64 f values id takes each = absurd (false≢true takes)
base_holds base.ListF64 f values id takes each = absurd (false≢true takes)
base_holds (base.Id wide) f values id takes each = absurd (true≢false id)

-- ---- which columns are dictionaries

-- a column of ids is none
pub no_id : (kind : Kind) (tables : List Table) (column : ℕ) → is_dictionary (form_at kind tables column) ≡ true → columns.is_id_at kind column ≡ false
unfolding form_at
no_id kind tables column is = by (columns.is_id_at kind column) refl
  where
    by : (id : Bool) → columns.is_id_at kind column ≡ id → columns.is_id_at kind column ≡ false
    by true here =
        let none : is_dictionary (id_form_if (is_own_id kind column) kind tables column) ≡ false = ids_have (λ f. is_dictionary f ≡ false) (is_own_id kind column) kind tables column refl refl refl in
        absurd (false≢true (sym none ∙ rw here at is))
    by false here = here

marked : (c : columns.ColumnSpec) (f : ColumnForm) → fits_form c f ≡ true → is_dictionary f ≡ true → c.dictionary ≡ true
marked c form.Absent fits is = absurd (false≢true is)
marked c form.Plain fits is = absurd (false≢true is)
marked c form.Dict8 fits is = fits
marked c form.Dict16 fits is = fits
marked c form.Wide fits is = absurd (false≢true is)
marked c (form.Coded how) fits is = absurd (false≢true is)

-- nor is one of lists
pub takes_one : (kind : Kind) (tables : List Table) (column : ℕ) → column < columns.width_of kind → is_dictionary (form_at kind tables column) ≡ true
    → takes_dictionary (arrow_type_in (columns.base_at kind column) form.Plain) ≡ true
takes_one kind tables column below is =
    marked_takes (columns.column_at kind column) (marked (columns.column_at kind column) (form_at kind tables column) (forms_fit kind tables column below) is)
    (all_below-at (λ (c : ℕ). may_be_dictionary (columns.column_at kind c)) (columns.width_of kind) column (kinds_grouped kind).dictionaries below)

pub no_list : (holds : Base) → takes_dictionary (arrow_type_in holds form.Plain) ≡ true → item_in holds ≡ None
no_list base.U8 takes = refl
no_list base.U16 takes = refl
no_list base.U32 takes = refl
no_list base.U64 takes = refl
no_list base.I32 takes = refl
no_list base.I64 takes = refl
no_list base.Double takes = refl
no_list base.Bool takes = refl
no_list base.Utf8 takes = refl
no_list base.Binary takes = refl
no_list base.Fixed16 takes = refl
no_list base.Fixed8 takes = refl
no_list base.Timestamp takes = refl
no_list base.Duration takes = refl
no_list base.ListU64 takes = absurd (false≢true takes)
no_list base.ListF64 takes = absurd (false≢true takes)
no_list (base.Id wide) takes = refl

-- ---- what a ladder keeps

kept_form : (f : Form) (values : List (List ℕ)) → is_dictionary (of_ladder f) ≡ true → kept_in f values ≡ values
kept_form ladder.Absent values is = absurd (false≢true is)
kept_form ladder.Dict8 values is = refl
kept_form ladder.Dict16 values is = refl
kept_form ladder.Plain values is = absurd (false≢true is)

pub kept_values : (kind : Kind) (tables : List Table) (column : ℕ) → is_dictionary (form_at kind tables column) ≡ true
    → (ladder_of (columns.column_at kind column).dictionary (values_in_tables kind tables column)).values ≡ dictionary_values kind tables column
unfolding ladder_of form_at dictionary_values
kept_values kind tables column is =
    let none : columns.is_id_at kind column ≡ false = no_id kind tables column is in
    kept_form (form_of (columns.column_at kind column).dictionary (values_in_tables kind tables column)) (distinct (values_in_tables kind tables column)) (rw none at is)

narrow_ladder : (large wide : Bool) → of_ladder (if large then ladder.Plain else (if wide then ladder.Dict16 else ladder.Dict8)) ≡ form.Dict8 → wide ≡ false
narrow_ladder true wide is = absurd (cc)
narrow_ladder false true is = absurd (cc)
narrow_ladder false false is = refl

narrow_form : (marked : Bool) (values : List (List ℕ)) → of_ladder (form_of marked values) ≡ form.Dict8 → length (distinct values) ≤ narrow_limit
narrow_form marked [] is = absurd (cc)
narrow_form false (v ∷ vs) is = absurd (cc)
narrow_form true (v ∷ vs) is =
    ltb-false narrow_limit (length (distinct (v ∷ vs)))
    (narrow_ladder (is_too_large (length (distinct (v ∷ vs))) (byte_count (distinct (v ∷ vs)))) (nat_lt narrow_limit (length (distinct (v ∷ vs)))) is)

-- narrow indexes reach all values
pub narrow_values : (kind : Kind) (tables : List Table) (column : ℕ) → form_at kind tables column ≡ form.Dict8 → length (dictionary_values kind tables column) ≤ narrow_limit
unfolding form_at dictionary_values
narrow_values kind tables column is =
    let none : columns.is_id_at kind column ≡ false = no_id kind tables column (ap is_dictionary is) in
    narrow_form (columns.column_at kind column).dictionary (values_in_tables kind tables column) (rw none at is)

-- ---- each value of the last table is in its dictionary

-- but for ids the form doesn't matter
pub bytes_alike : (holds : Base) (f g : ColumnForm) (cell : Cell) → is_id holds ≡ false → bytes_for holds f cell ≡ bytes_for holds g cell
bytes_alike holds f g null id = refl
bytes_alike holds f g (bits n) id = refl
bytes_alike holds f g (flag b) id = refl
bytes_alike holds f g (bytes part) id = refl
bytes_alike base.U8 f g (number n) id = refl
bytes_alike base.U16 f g (number n) id = refl
bytes_alike base.U32 f g (number n) id = refl
bytes_alike base.U64 f g (number n) id = refl
bytes_alike base.I32 f g (number n) id = refl
bytes_alike base.I64 f g (number n) id = refl
bytes_alike base.Double f g (number n) id = refl
bytes_alike base.Bool f g (number n) id = refl
bytes_alike base.Utf8 f g (number n) id = refl
bytes_alike base.Binary f g (number n) id = refl
bytes_alike base.Fixed16 f g (number n) id = refl
bytes_alike base.Fixed8 f g (number n) id = refl
bytes_alike base.Timestamp f g (number n) id = refl
bytes_alike base.Duration f g (number n) id = refl
bytes_alike base.ListU64 f g (number n) id = refl
bytes_alike base.ListF64 f g (number n) id = refl
bytes_alike (base.Id wide) f g (number n) id = absurd (true≢false id)

rows_have : (holds : Base) (rows : List (List Cell)) (column row : ℕ) (value : List ℕ) → row < length rows → bytes_for holds form.Wide (cell_in rows column row) ≡ Some value
    → list_any (bytes_eq value) (given (map (bytes_for holds form.Wide) (column_in rows column))) ≡ true
rows_have holds [] column row value low at = absurd (omega (arith, low))
rows_have holds (r ∷ rows) column zero value low at = rw at (or_left (bytes_eq value value) _ ((bytes_eq-Decides value value).1 refl))
rows_have holds (r ∷ rows) column (suc row) value low at = by (bytes_for holds form.Wide (get_or r column null)) refl (rows_have holds rows column row value (omega (arith, low)) at)
  where
    by : (o : Option (List ℕ)) → bytes_for holds form.Wide (get_or r column null) ≡ o → list_any (bytes_eq value) (given (map (bytes_for holds form.Wide) (column_in rows column))) ≡ true
        → list_any (bytes_eq value) (given (map (bytes_for holds form.Wide) (column_in (r ∷ rows) column))) ≡ true
    by None is rest = rw is rest
    by (Some first) is rest = rw is (or_right (bytes_eq value first) _ rest)

pub known_value : (kind : Kind) (before : List Table) (t : Table) (column row : ℕ) (f : ColumnForm) → columns.is_id_at kind column ≡ false → row < length t.rows
    → IsKnownIn (dictionary_values kind (before ++ t ∷ []) column) (bytes_for (columns.base_at kind column) f (cell_in t.rows column row))
unfolding dictionary_values
known_value kind before t column row f id low =
    subst (IsKnownIn (dictionary_values kind (before ++ t ∷ []) column)) (bytes_alike (columns.base_at kind column) form.Wide f (cell_in t.rows column row) id)
    (by (bytes_for (columns.base_at kind column) form.Wide (cell_in t.rows column row)) refl)
  where
    by : (o : Option (List ℕ)) → bytes_for (columns.base_at kind column) form.Wide (cell_in t.rows column row) ≡ o → IsKnownIn (dictionary_values kind (before ++ t ∷ []) column) o
    by None is = tt
    by (Some value) is = has_value value is
      where
        has_value : (value : List ℕ) → bytes_for (columns.base_at kind column) form.Wide (cell_in t.rows column row) ≡ Some value → list_any (bytes_eq value) (dictionary_values kind (before ++ t ∷ []) column) ≡ true
        has_value value is =
            members-law (values_in_tables kind (before ++ t ∷ []) column) value
            ∙ ap (list_any (bytes_eq value)) (seen-push kind before t column)
            ∙ list_any-append (bytes_eq value) (values_in_tables kind before column) (bytes_of_values kind column t)
            ∙ or_right (list_any (bytes_eq value) (values_in_tables kind before column)) _ (rows_have (columns.base_at kind column) t.rows column row value low is)
