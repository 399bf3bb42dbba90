-- How much the far end holds of what is written.
use Rattle.std.proofs.Common.{◌≡◌, ℕ, suc, ◌+◌, ◌*◌, ◌≤◌, if◌then◌else◌, Bool, true, false, List, [], ◌∷◌, ◌++◌, length, map, Option, Some, None, refl, sym, ap, ◌∙◌, arith, length-append}
use Rattle.std.specs.Prelude.{slice_get, sum_by, is_some}
use Rattle.std.specs.List.{AllByRecursion, flat_map, list_any}
use Rattle.std.proofs.lemmas.Bool.{false≢true}
use Rattle.std.proofs.lemmas.List.Sums.{sum_by-cons}
use Rattle.arrow_schema.specs.declared.spec.ArrowType.{ArrowType}
use Rattle.arrow_schema.specs.declared.spec.DictSpec.{DictSpec}
use Rattle.arrow_arrays.specs.declared.spec.ArraySpec.{ArraySpec}
use Rattle.arrow_arrays.specs.Arrays.{arrays_of}
use Rattle.arrow_arrays.specs.Fields.{FieldIn, field_of_array}
use Rattle.otap_cells.specs.declared.payload.Kind.{Kind}
use Rattle.otap_cells.specs.Columns.{columns_of, column_at}
use Rattle.otap_dicts.specs.Forms.{byte_count}
use Rattle.otap_dicts.specs.Limits.{value_limit, byte_limit}
use Rattle.otap_columns.specs.Dictionaries.{DictionaryIn, is_for, with_dictionary, with_dictionaries, empty_dictionaries, value_weight, dictionary_weight, held_weight}
use Rattle.otap_cells.specs.Groups.{Member, Group, grouped}
use Rattle.otap_cells.specs.Groups as group
use Rattle.otap_columns.specs.declared.forms.ColumnForm.{ColumnForm}
use Rattle.otap_columns.specs.declared.forms.ColumnForm.TheVariants as form
use Rattle.otap_columns.specs.Known.{known_column}
use Rattle.otap_columns.specs.Limits.{dictionary_columns, held_most, held_unit}
use Rattle.otap_columns.specs.Schemas.{Forms, FormsFit, ArraySlot, Struct, Column, Items, IsArraySlot, is_present, item_in, dict_for, fits_form, members_there, items_after, schema_for}
use Rattle.otap_columns.specs.Schemas.{slots_of_member, slots_under, slots_in, slots_for, slot_column, slot_field}
use Rattle.otap_columns.proofs.Counting.{kinds_counted, mark}
use Rattle.otap_columns.proofs.Finding.{known_column-below}
use Rattle.otap_columns.proofs.Grouping.{members_of}
use Rattle.otap_columns.proofs.HeadsTaken.{all_some}
use Rattle.otap_columns.proofs.Located.{count_is, slot_at}

-- ---- one dictionary

pub values_weigh : (values : List (List ℕ)) → sum_by value_weight (all_some values) ≡ byte_count values + held_unit * length values
values_weigh [] = refl
values_weigh (v ∷ vs) =
    sum_by-cons value_weight (Some v) (all_some vs) ∙ ap (λ n. (length v + held_unit) + n) (values_weigh vs)
    ∙ sum (length v) (byte_count vs) (length vs) ∙ ap (λ n. n + held_unit * length (v ∷ vs)) (sym (sum_by-cons length v vs))
  where
    sum : (a b n : ℕ) → (a + held_unit) + (b + held_unit * n) ≡ (a + b) + held_unit * suc n
    sum a b n = omega arith

pub light : (values : List (List ℕ)) → length values ≤ value_limit → byte_count values ≤ byte_limit → sum_by value_weight (all_some values) ≤ held_most
light values few small = omega (arith, values_weigh values)

-- all of them
pub all_light : {A : Type 0} (f : A → DictionaryIn) (most : ℕ) (xs : List A) → AllByRecursion (λ x. dictionary_weight (f x) ≤ most) xs → held_weight (map f xs) ≤ most * length xs
all_light f most [] each = omega arith
all_light f most (x ∷ xs) each = omega (arith, sum_by-cons dictionary_weight (f x) (map f xs), all_light f most xs each.1, each.0, one_more most (length xs))
  where
    one_more : (a n : ℕ) → a * suc n ≡ a + a * n
    one_more a n = grind arith

-- ---- how many there are

abbrev one_if : Bool → ℕ
one_if b = if b then 1 else 0

abbrev count : {A : Type 0} → (A → Bool) → List A → ℕ
count test [] = 0
count test (x ∷ xs) = one_if (test x) + count test xs

count-append : {A : Type 0} (test : A → Bool) (xs ys : List A) → count test (xs ++ ys) ≡ count test xs + count test ys
count-append test [] ys = omega arith
count-append test (x ∷ xs) ys = omega (arith, count-append test xs ys)

-- a list counts no more than one that passes wherever it does
count_less : {A B : Type 0} (p : A → Bool) (q : B → Bool) (xs : List A) (ys : List B) → length xs ≡ length ys
    → ((place : ℕ) (x : A) → slice_get xs place ≡ Some x → (y : B) × (slice_get ys place ≡ Some y) × (p x ≡ true → q y ≡ true)) → count p xs ≤ count q ys
count_less p q [] ys long each = omega arith
count_less p q (x ∷ xs) [] long each = absurd (omega (arith, long))
count_less {A} {B} p q (x ∷ xs) (y ∷ ys) long each =
    let rest : count p xs ≤ count q ys = count_less p q xs ys (omega (arith, long)) (λ place x at. each (suc place) x at) in
    let here = each 0 x refl in
    let same : y ≡ here.0 = cc (here.1) in
    omega (arith, rest, one (p x) (q y) (λ is. ap q same ∙ here.2 is))
  where
    one : (a b : Bool) → (a ≡ true → b ≡ true) → one_if a ≤ one_if b
    one false b h = omega arith
    one true true h = omega arith
    one true false h = absurd (false≢true (h refl))

abbrev has_dictionary : ArraySpec → Bool
has_dictionary a = is_some a.dict

-- no more than fields that have one
one_added : (ds : List DictionaryIn) (kind : ArrowType) (dict : Option DictSpec) → length (with_dictionary ds kind dict) ≤ length ds + one_if (is_some dict)
one_added ds kind None = omega arith
one_added ds kind (Some dict) = by (list_any (is_for kind dict.id) ds) refl
  where
    by : (b : Bool) → list_any (is_for kind dict.id) ds ≡ b → length (with_dictionary ds kind (Some dict)) ≤ length ds + 1
    by true is = rw is (omega arith)
    by false is = rw is (omega (arith, length-append ds (record { id = dict.id; kind = kind; values = [] } ∷ [])))

all_added : (ds : List DictionaryIn) (arrays : List ArraySpec) → length (with_dictionaries ds arrays) ≤ length ds + count has_dictionary arrays
all_added ds [] = omega arith
all_added ds (a ∷ arrays) = omega (arith, all_added (with_dictionary ds a.kind a.dict) arrays, one_added ds a.kind a.dict)

-- which are columns that may be dictionaries
module _ (kind : Kind) (forms : Forms) where
  abbrev is_marked : ArraySlot → Bool
  is_marked (Struct name) = false
  is_marked (Column m) = (column_at kind m.column).dictionary
  is_marked (Items column) = false

  abbrev marks : List Member → ℕ
  marks [] = 0
  marks (m ∷ ms) = one_if (column_at kind m.column).dictionary + marks ms

  marks-append : (ms ns : List Member) → marks (ms ++ ns) ≡ marks ms + marks ns
  marks-append [] ns = omega arith
  marks-append (m ∷ ms) ns = omega (arith, marks-append ms ns)

  member_one : (m : Member) → count is_marked (slots_of_member kind m) ≡ one_if (column_at kind m.column).dictionary
  member_one m = by (item_in (column_at kind m.column).base) refl
    where
      by : (o : Option ArrowType) → item_in (column_at kind m.column).base ≡ o
          → one_if (column_at kind m.column).dictionary + count is_marked (items_after o m.column) ≡ one_if (column_at kind m.column).dictionary
      by None is = omega arith
      by (Some item) is = omega arith

  members_count : (ms : List Member) → count is_marked (flat_map (slots_of_member kind) ms) ≡ marks ms
  members_count [] = refl
  members_count (m ∷ ms) = omega (arith, count-append is_marked (slots_of_member kind m) (flat_map (slots_of_member kind) ms), member_one m, members_count ms)

  there_less : (ms : List Member) → marks (members_there forms ms) ≤ marks ms
  there_less [] = omega arith
  there_less (m ∷ ms) = by (is_present (forms m.column)) refl (there_less ms)
    where
      by : (b : Bool) → is_present (forms m.column) ≡ b → marks (members_there forms ms) ≤ marks ms → marks (members_there forms (m ∷ ms)) ≤ marks (m ∷ ms)
      by true is rest = rw is (omega (arith, rest))
      by false is rest = rw is (omega (arith, rest))

  under_count : (struct : List ℕ) (ms : List Member) → count is_marked (slots_under kind struct ms) ≡ marks ms
  under_count struct [] = refl
  under_count struct (m ∷ ms) = omega (arith, members_count (m ∷ ms))

  group_less : (g : Group) → count is_marked (slots_in kind forms g) ≤ marks (members_of g)
  group_less (group.Alone m) = omega (arith, members_count (members_there forms (m ∷ [])), there_less (m ∷ []))
  group_less (group.Under struct ms) = omega (arith, under_count struct (members_there forms ms), there_less ms)

  groups_less : (gs : List Group) → count is_marked (flat_map (slots_in kind forms) gs) ≤ marks (flat_map members_of gs)
  groups_less [] = omega arith
  groups_less (g ∷ gs) =
      omega (
        arith,
        count-append is_marked (slots_in kind forms g) (flat_map (slots_in kind forms) gs),
        marks-append (members_of g) (flat_map members_of gs),
        group_less g,
        groups_less gs,
      )

  abbrev mark_at : ℕ → ℕ
  mark_at column = mark (column_at kind column)

  marks_are : (ms : List Member) → marks ms ≡ sum_by mark_at (map (λ (m : Member). m.column) ms)
  marks_are [] = refl
  marks_are (m ∷ ms) = omega (arith, marks_are ms, sum_by-cons mark_at m.column (map (λ (m : Member). m.column) ms))

  columns_less : count is_marked (slots_for kind forms) ≤ dictionary_columns kind
  unfolding slots_for
  columns_less =
      omega (
        arith,
        groups_less (grouped (columns_of kind)),
        marks_are (flat_map members_of (grouped (columns_of kind))),
        ap (sum_by mark_at) (kinds_counted kind).order,
        (kinds_counted kind).marked,
      )

  -- a column in a dictionary's form may be one
  form_marked : (column : ℕ) (f : ColumnForm) → fits_form (column_at kind column) f ≡ true → is_some (dict_for column f) ≡ true → (column_at kind column).dictionary ≡ true
  form_marked column form.Dict8 fits is = fits
  form_marked column form.Dict16 fits is = fits
  form_marked column form.Absent fits is = absurd (false≢true is)
  form_marked column form.Plain fits is = absurd (false≢true is)
  form_marked column form.Wide fits is = absurd (false≢true is)
  form_marked column (form.Coded how) fits is = absurd (false≢true is)

  by_slot : FormsFit kind forms → (place : ℕ) (a : ArraySpec) (slot : ArraySlot) → field_of_array a ≡ slot_field kind forms slot
      → known_column kind (arrays_of (schema_for kind forms)) place ≡ slot_column slot → has_dictionary a ≡ true → is_marked slot ≡ true
  by_slot fit place a (Struct name) field known is = absurd (false≢true (sym (ap (λ (f : FieldIn). is_some f.dict) field) ∙ is))
  by_slot fit place a (Items column) field known is = absurd (false≢true (sym (ap (λ (f : FieldIn). is_some f.dict) field) ∙ is))
  by_slot fit place a (Column m) field known is =
      form_marked m.column (forms m.column) (fit m.column (known_column-below kind (arrays_of (schema_for kind forms)) place m.column known))
      (sym (ap (λ (f : FieldIn). is_some f.dict) field) ∙ is)

  -- THE DICTIONARIES OF A SCHEMA are no more than the columns of its kind that may be dictionaries
  pub few_dictionaries : FormsFit kind forms → length (empty_dictionaries (arrays_of (schema_for kind forms))) ≤ dictionary_columns kind
  unfolding empty_dictionaries
  few_dictionaries fit =
      omega (
        arith,
        all_added [] (arrays_of (schema_for kind forms)),
        columns_less,
        count_less has_dictionary is_marked (arrays_of (schema_for kind forms)) (slots_for kind forms) (count_is kind forms fit)
            (λ place a at. let s : IsArraySlot kind forms place a = slot_at kind forms fit place a at in (s.slot, s.at, by_slot fit place a s.slot s.field s.known)),
      )
