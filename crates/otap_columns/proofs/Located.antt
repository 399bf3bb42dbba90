-- The indexes of the columns of a table in the schema that they make.
use Rattle.std.proofs.Common.{◌≡◌, ℕ, zero, suc, ◌+◌, ◌<◌, Bool, true, false, List, [], ◌∷◌, ◌++◌, map, length, slice_get, get_or, Option, None, Some, refl, sym, ap, ◌∙◌, subst, inl, inr, arith}
use Rattle.std.specs.Prelude.{◌&&◌, ◌||◌, not, option_map}
use Rattle.std.specs.List.{list_any, flat_map, range_with_len, position_from}
use Rattle.std.proofs.lemmas.Bool.{cases_Bool, and_from, and_parts, eqb-true, true≢false}
use Rattle.std.proofs.lemmas.Iterator.Adapters.{position_from-zero}
use Rattle.std.proofs.lemmas.List.{length-map, map-append}
use Rattle.std.proofs.lemmas.List.Folds.{list_any-append}
use Rattle.std.proofs.lemmas.List.FromFn.{length-map-range_with_len, get_or-map-range_with_len}
use Rattle.std.proofs.lemmas.Option.{slice_get-map, slice_get_within, get_or_from_slice_get}
use Rattle.std.proofs.Math.Bool.{or-true}
use Rattle.lists.proofs.Every.{map_over}
use Rattle.arrow_schema.specs.declared.spec.ArrowType.{ArrowType}
use Rattle.arrow_schema.specs.declared.spec.ArrowType.TheVariants as arrow
use Rattle.arrow_buffers.proofs.EachBelow.{all_below-at, all_below-each}
use Rattle.arrow_arrays.specs.declared.spec.Above.{Above}
use Rattle.arrow_arrays.specs.declared.spec.Above.TheVariants as parent
use Rattle.arrow_arrays.specs.declared.spec.ArraySpec.{ArraySpec}
use Rattle.arrow_arrays.specs.Arrays.{is_below_list, arrays_of, path_below, path_to, path_within, path_of}
use Rattle.arrow_arrays.specs.Fields.{FieldIn, field_of_array}
use Rattle.arrow_arrays.proofs.Walked.{fields_law}
use Rattle.arrow_arrays.proofs.PathsWalked.{paths_law}
use Rattle.otap_cells.specs.declared.payload.Kind.{Kind}
use Rattle.otap_cells.specs.declared.profile.Base.{Base}
use Rattle.otap_cells.specs.declared.profile.Base.TheVariants as base
use Rattle.otap_cells.specs.declared.profile.Coding.{Coding}
use Rattle.otap_cells.specs.declared.profile.Coding.TheVariants as coding
use Rattle.otap_cells.specs.Bases.{is_id}
use Rattle.otap_cells.specs.Columns.{ColumnSpec, columns_of, column_at, base_at, width_of, allows}
use Rattle.otap_dicts.proofs.Places.{found_from}
use Rattle.otap_columns.specs.declared.forms.ColumnForm.{ColumnForm}
use Rattle.otap_columns.specs.declared.forms.ColumnForm.TheVariants as form
use Rattle.otap_columns.specs.Known.{is_allowed, is_column, known_column, known_columns, place_in, place_at, elements_at, stores, fits_encoding, fits_as, fits_column, fits_at, columns_fit}
use Rattle.otap_cells.specs.Groups.{Member, Group, grouped}
use Rattle.otap_cells.specs.Groups as group
use Rattle.otap_columns.specs.Schemas.{Forms, is_present, fits_form, FormsFit, id_type, arrow_type_in, item_in, dict_for, encoding_of, encoding_for, members_there, schema_for, ArraySlot, Struct, Column, Items, items_after, slots_of_member}
use Rattle.otap_columns.specs.Schemas.{slots_under, slots_in, slots_for, item_type, slot_field, slot_column, IsArraySlot, IsFound}
use Rattle.otap_columns.proofs.Finding.{PassesAt, passes_at, known_column-below}
use Rattle.otap_columns.proofs.Grouping.{members_of, is_of, has_column, kinds_grouped}
use Rattle.otap_columns.proofs.Keeping.{schema_readable, member_place}
use Rattle.otap_columns.proofs.Slotted.{is_empty, not_empty, fact_of, slot_fact, FollowsItem, HasItems, Follow, schema_slots}

-- ---- lists

none_found : {A : Type 0} (p : A → Bool) (from : ℕ) (xs : List A) → list_any p xs ≡ false → position_from p from xs ≡ None
none_found p from [] is = refl
none_found p from (x ∷ xs) is =
    elim (cases_Bool (p x)) [
      | inl here ↦ absurd (true≢false (rw here at is))
      | inr other ↦ rw other (none_found p (from + 1) xs (rw other at is))
    ]

get_within : {A : Type 0} (xs : List A) (i : ℕ) → i < length xs → (x : A) × (slice_get xs i ≡ Some x)
get_within [] i below = absurd (omega (arith, below))
get_within (x ∷ xs) zero below = (x, refl)
get_within (x ∷ xs) (suc i) below = get_within xs i (omega (arith, below))

-- ---- paths

below_empty : (path : ℕ → List (List ℕ)) (above : Above) (name : List ℕ) → is_empty (path_below path above name) ≡ is_below_list above
unfolding is_empty
below_empty path parent.Top name = refl
below_empty path (parent.Struct above) name = not_empty (path above) name
below_empty path parent.List name = refl

path_empty : (depth : ℕ) (arrays : List ArraySpec) (place : ℕ) (a : ArraySpec) → slice_get arrays place ≡ Some a → is_empty (path_within (suc depth) arrays place) ≡ is_below_list a.above
unfolding path_within
path_empty depth arrays place a at =
    ap (λ (found : Option ArraySpec). is_empty (path_to (path_within depth arrays) found)) at ∙ below_empty (path_within depth arrays) a.above a.name

-- ---- types

id_stored : (f : ColumnForm) (wide : Bool) (elements : Option ArrowType) → stores (base.Id wide) (id_type f) elements ≡ true
id_stored form.Absent wide elements = refl
id_stored form.Plain wide elements = refl
id_stored form.Dict8 wide elements = refl
id_stored form.Dict16 wide elements = refl
id_stored form.Wide wide elements = refl
id_stored (form.Coded how) wide elements = refl

type_stored : (b : Base) (f : ColumnForm) (elements : Option ArrowType) → ((item : ArrowType) → item_in b ≡ Some item → elements ≡ Some item) → stores b (arrow_type_in b f) elements ≡ true
type_stored base.U8 f elements items = refl
type_stored base.U16 f elements items = refl
type_stored base.U32 f elements items = refl
type_stored base.U64 f elements items = refl
type_stored base.I32 f elements items = refl
type_stored base.I64 f elements items = refl
type_stored base.Double f elements items = refl
type_stored base.Bool f elements items = refl
type_stored base.Utf8 f elements items = refl
type_stored base.Binary f elements items = refl
type_stored base.Fixed16 f elements items = refl
type_stored base.Fixed8 f elements items = refl
type_stored base.Timestamp f elements items = refl
type_stored base.Duration f elements items = refl
type_stored base.ListU64 f elements items = rw (items (arrow.Int 64 false) refl) refl
type_stored base.ListF64 f elements items = rw (items arrow.Double refl) refl
type_stored (base.Id wide) f elements items = id_stored f wide elements

-- a form that fits names an encoding that the column allows
coding_allowed : (c : ColumnSpec) (how : Coding) → is_allowed c (encoding_of how) ≡ allows c how
coding_allowed c coding.Plain = refl
coding_allowed c coding.Delta = refl
coding_allowed c coding.Run = refl

form_encoded : (c : ColumnSpec) (f : ColumnForm) → fits_form c f ≡ true → fits_encoding c (encoding_for f) ≡ true
form_encoded c form.Absent fits = or-true (not (is_id c.base))
form_encoded c form.Plain fits = or-true (not (is_id c.base))
form_encoded c form.Dict8 fits = or-true (not (is_id c.base))
form_encoded c form.Dict16 fits = or-true (not (is_id c.base))
form_encoded c form.Wide fits = or-true (not (is_id c.base))
form_encoded c (form.Coded how) fits =
    ap (λ (b : Bool). not (is_id c.base) || b) (coding_allowed c how ∙ (and_parts (is_id c.base) (allows c how) fits).1) ∙ or-true (not (is_id c.base))

module _ (kind : Kind) (forms : Forms) where
  -- ---- which columns are there

  and_or : (t x y : Bool) → ((t && x) || (t && y)) ≡ (t && (x || y))
  and_or true x y = refl
  and_or false x y = refl

  and_none : (t : Bool) → false ≡ (t && false)
  and_none true = refl
  and_none false = refl

  any_one : (column : ℕ) (m : Member) (item : Option ArrowType) (rest : List ArraySlot)
      → list_any (is_column column) (map slot_column (Column m ∷ items_after item m.column ++ rest)) ≡ (is_of column m || list_any (is_column column) (map slot_column rest))
  any_one column m None rest = refl
  any_one column m (Some type) rest = refl

  any_members : (column : ℕ) (members : List Member)
      → list_any (is_column column) (map slot_column (flat_map (slots_of_member kind) (members_there forms members))) ≡ (is_present (forms column) && list_any (is_of column) members)
  any_members column [] = and_none (is_present (forms column))
  any_members column (m ∷ members) =
      let rest = any_members column members in
      let later = flat_map (slots_of_member kind) (members_there forms members) in
      elim (cases_Bool (is_present (forms m.column))) [
        | inl there ↦
            elim (cases_Bool (is_of column m)) [
              | inl same ↦
                  let own : is_present (forms column) ≡ true = subst (λ (c : ℕ). is_present (forms c) ≡ true) (eqb-true m.column column same) there in
                  rw there (any_one column m (item_in (column_at kind m.column).base) later ∙ rw (same, own) refl)
              | inr other ↦ rw there (any_one column m (item_in (column_at kind m.column).base) later ∙ rw other rest)
            ]
        | inr gone ↦
            elim (cases_Bool (is_of column m)) [
              | inl same ↦
                  let own : is_present (forms column) ≡ false = subst (λ (c : ℕ). is_present (forms c) ≡ false) (eqb-true m.column column same) gone in
                  rw gone (rest ∙ rw own refl)
              | inr other ↦ rw gone (rest ∙ rw other refl)
            ]
      ]

  any_under : (column : ℕ) (struct : List ℕ) (there : List Member)
      → list_any (is_column column) (map slot_column (slots_under kind struct there)) ≡ list_any (is_column column) (map slot_column (flat_map (slots_of_member kind) there))
  any_under column struct [] = refl
  any_under column struct (m ∷ there) = refl

  any_group : (column : ℕ) (g : Group) → list_any (is_column column) (map slot_column (slots_in kind forms g)) ≡ (is_present (forms column) && list_any (is_of column) (members_of g))
  any_group column (group.Alone m) = any_members column (m ∷ [])
  any_group column (group.Under struct members) = any_under column struct (members_there forms members) ∙ any_members column members

  any_groups : (column : ℕ) (groups : List Group)
      → list_any (is_column column) (map slot_column (flat_map (slots_in kind forms) groups)) ≡ (is_present (forms column) && has_column groups column)
  any_groups column [] = and_none (is_present (forms column))
  any_groups column (g ∷ groups) =
      let later = flat_map (slots_in kind forms) groups in
      ap (list_any (is_column column)) (map-append slot_column (slots_in kind forms g) later)
      ∙ list_any-append (is_column column) (map slot_column (slots_in kind forms g)) (map slot_column later)
      ∙ (λ i. any_group column g i || any_groups column groups i)
      ∙ and_or (is_present (forms column)) (list_any (is_of column) (members_of g)) (has_column groups column)

  -- ---- elements come after their lists

  first_items : (s : ArraySlot) (m : Member) (item : ArrowType) (slots : List ArraySlot) → s ≡ Column m → item_in (column_at kind m.column).base ≡ Some item
      → HasItems kind forms s slots → slice_get slots 0 ≡ Some (Items m.column)
  unfolding HasItems FollowsItem
  first_items s m item slots is has h =
      let own : FollowsItem kind forms (item_in (column_at kind m.column).base) m.column slots = subst (λ (t : ArraySlot). HasItems kind forms t slots) is h in
      let more : FollowsItem kind forms (Some item) m.column slots = subst (λ (o : Option ArrowType). FollowsItem kind forms o m.column slots) has own in
      ap (λ (ss : List ArraySlot). slice_get ss 0) more.1

  follow_at : (slots : List ArraySlot) → Follow kind forms slots → (place next : ℕ) (m : Member) (item : ArrowType) → next ≡ place + 1 → slice_get slots place ≡ Some (Column m)
      → item_in (column_at kind m.column).base ≡ Some item → slice_get slots next ≡ Some (Items m.column)
  unfolding Follow
  follow_at [] h place next m item is at has = absurd (cc (at))
  follow_at (s ∷ slots) h place zero m item is at has = absurd (omega (arith, is))
  follow_at (s ∷ slots) h zero (suc next) m item is at has =
      let same : s ≡ Column m = cc (at) in
      let none : 0 ≡ next = omega (arith, is) in
      subst (λ (n : ℕ). slice_get slots n ≡ Some (Items m.column)) none (first_items s m item slots same has h.0)
  follow_at (s ∷ slots) h (suc place) (suc next) m item is at has = follow_at slots h.1 place next m item (omega (arith, is)) at has

  module _ (fit : FormsFit kind forms) where
    abbrev arrays : List ArraySpec
    arrays = arrays_of (schema_for kind forms)

    abbrev slots : List ArraySlot
    slots = slots_for kind forms

    fields_are : map field_of_array arrays ≡ map (slot_field kind forms) slots
    fields_are = fields_law (schema_for kind forms) ∙ (schema_slots kind forms).flat

    pub count_is : length arrays ≡ length slots
    count_is = sym (length-map arrays field_of_array) ∙ ap (λ (fs : List FieldIn). length fs) fields_are ∙ length-map slots (slot_field kind forms)

    facts_are : map (λ (place : ℕ). fact_of kind forms (path_of arrays place)) (range_with_len 0 (length arrays)) ≡ map (slot_fact kind forms) slots
    facts_are =
        map_over (path_of arrays) (fact_of kind forms) (range_with_len 0 (length arrays))
        ∙ ap (map (fact_of kind forms)) (paths_law (schema_for kind forms) (schema_readable kind forms fit))
        ∙ (schema_slots kind forms).facts

    known_are : known_columns kind arrays ≡ map slot_column slots
    unfolding known_columns fact_of slot_fact
    known_are =
        map_over (λ (place : ℕ). fact_of kind forms (path_of arrays place)) (λ (f : Option ℕ × Bool). f.0) (range_with_len 0 (length arrays))
        ∙ ap (map (λ (f : Option ℕ × Bool). f.0)) facts_are ∙ sym (map_over (slot_fact kind forms) (λ (f : Option ℕ × Bool). f.0) slots)

    fact_at : (place : ℕ) (s : ArraySlot) → slice_get slots place ≡ Some s → fact_of kind forms (path_of arrays place) ≡ slot_fact kind forms s
    fact_at place s at =
        let none : Option ℕ × Bool = (None, false) in
        let below : place < length arrays = omega (arith, slice_get_within slots place s at, count_is) in
        sym (get_or-map-range_with_len (λ (p : ℕ). fact_of kind forms (path_of arrays p)) 0 (length arrays) place place none below (omega arith))
        ∙ ap (λ (fs : List (Option ℕ × Bool)). get_or fs place none) facts_are
        ∙ get_or_from_slice_get (map (slot_fact kind forms) slots) place (slot_fact kind forms s) none (slice_get-map (slot_fact kind forms) slots place ∙ ap (option_map (slot_fact kind forms)) at)

    -- the slot of an array, and the array of a slot
    field_there : (place : ℕ) → option_map field_of_array (slice_get arrays place) ≡ option_map (slot_field kind forms) (slice_get slots place)
    field_there place = sym (slice_get-map field_of_array arrays place) ∙ ap (λ (fs : List FieldIn). slice_get fs place) fields_are ∙ slice_get-map (slot_field kind forms) slots place

    slot_is : (place : ℕ) (a : ArraySpec) (s : ArraySlot) → slice_get arrays place ≡ Some a → slice_get slots place ≡ Some s → IsArraySlot kind forms place a
    unfolding fact_of slot_fact
    slot_is place a s here there =
        let both : Some (field_of_array a) ≡ Some (slot_field kind forms s) = ap (option_map field_of_array) (sym here) ∙ field_there place ∙ ap (option_map (slot_field kind forms)) there in
        let fact : fact_of kind forms (path_of arrays place) ≡ slot_fact kind forms s = fact_at place s there in
        record {
          slot = s;
          at = there;
          field = some_is (field_of_array a) (slot_field kind forms s) both;
          known = ap (λ (f : Option ℕ × Bool). f.0) fact;
          element = sym (path_empty 2 arrays place a here) ∙ ap (λ (f : Option ℕ × Bool). f.1) fact;
        }
      where
        some_is : (x y : FieldIn) → Some x ≡ Some y → x ≡ y
        some_is x y is = cc (is)

    pub slot_at : (place : ℕ) (a : ArraySpec) → slice_get arrays place ≡ Some a → IsArraySlot kind forms place a
    slot_at place a here = by_slot (slice_get slots place) refl
      where
        by_slot : (o : Option ArraySlot) → slice_get slots place ≡ o → IsArraySlot kind forms place a
        by_slot None there =
            absurd (missing (field_of_array a) (ap (option_map field_of_array) (sym here) ∙ field_there place ∙ ap (option_map (slot_field kind forms)) there))
          where
            missing : (x : FieldIn) → Some x ≡ None → ⊥
            missing x is = cc (is)
        by_slot (Some s) there = slot_is place a s here there

    pub array_at : (place : ℕ) (s : ArraySlot) → slice_get slots place ≡ Some s → (a : ArraySpec) × (slice_get arrays place ≡ Some a)
    array_at place s there = by_array (slice_get arrays place) refl
      where
        by_array : (o : Option ArraySpec) → slice_get arrays place ≡ o → (a : ArraySpec) × (slice_get arrays place ≡ Some a)
        by_array None here =
            absurd (missing (slot_field kind forms s) (ap (option_map field_of_array) (sym here) ∙ field_there place ∙ ap (option_map (slot_field kind forms)) there))
          where
            missing : (x : FieldIn) → None ≡ Some x → ⊥
            missing x is = cc (is)
        by_array (Some a) here = (a, here)

    -- the elements of a list
    pub items_at : (place : ℕ) (m : Member) (item : ArrowType) → slice_get slots place ≡ Some (Column m) → item_in (column_at kind m.column).base ≡ Some item → slice_get slots (place + 1) ≡ Some (Items m.column)
    items_at place m item at has = follow_at slots (schema_slots kind forms).follow place (place + 1) m item refl at has

    elements_are : (place : ℕ) (m : Member) (item : ArrowType) → slice_get slots place ≡ Some (Column m) → item_in (column_at kind m.column).base ≡ Some item → elements_at arrays place ≡ Some item
    unfolding slot_is
    elements_are place m item at has =
        let next = items_at place m item at has in
        let a = array_at (place + 1) (Items m.column) next in
        let field = (slot_is (place + 1) a.0 (Items m.column) a.1 next).field in
        ap (option_map (λ (b : ArraySpec). b.kind)) a.1 ∙ ap Some (ap (λ (f : FieldIn). f.kind) field ∙ ap item_type has)

    -- ---- each known column has its type

    fits_slot : (place : ℕ) (a : ArraySpec) (s : ArraySlot) → slice_get slots place ≡ Some s → field_of_array a ≡ slot_field kind forms s → known_column kind arrays place ≡ slot_column s
        → fits_as kind a.kind a.encoding (elements_at arrays place) (slot_column s) ≡ true
    fits_slot place a (Struct name) there field known = refl
    fits_slot place a (Items column) there field known = refl
    fits_slot place a (Column m) there field known =
        let type : a.kind ≡ arrow_type_in (column_at kind m.column).base (forms m.column) = ap (λ (f : FieldIn). f.kind) field in
        let named : a.encoding ≡ encoding_for (forms m.column) = ap (λ (f : FieldIn). f.encoding) field in
        and_from (stores (base_at kind m.column) a.kind (elements_at arrays place)) (fits_encoding (column_at kind m.column) a.encoding)
        (ap (λ (t : ArrowType). stores (base_at kind m.column) t (elements_at arrays place)) type
        ∙ type_stored (column_at kind m.column).base (forms m.column) (elements_at arrays place) (λ item has. elements_are place m item there has))
        (ap (fits_encoding (column_at kind m.column)) named ∙ form_encoded (column_at kind m.column) (forms m.column) (fit m.column (known_column-below kind arrays place m.column known)))

    fits_place : (place : ℕ) (o : Option ArraySpec) → slice_get arrays place ≡ o → fits_column kind o (elements_at arrays place) (known_column kind arrays place) ≡ true
    fits_place place None here = refl
    fits_place place (Some a) here =
        let s = slot_at place a here in
        ap (fits_as kind a.kind a.encoding (elements_at arrays place)) s.known ∙ fits_slot place a s.slot s.at s.field s.known

    pub schema_fits : columns_fit kind arrays ≡ true
    unfolding columns_fit
    schema_fits = all_below-each (fits_at kind arrays) (length arrays) (λ place below. fits_place place (slice_get arrays place) refl)

    -- ---- each column that is there is found, and no other

    any_column : (column : ℕ) → list_any (is_column column) (known_columns kind arrays) ≡ (is_present (forms column) && has_column (grouped (columns_of kind)) column)
    unfolding slots_for
    any_column column = ap (list_any (is_column column)) known_are ∙ any_groups column (grouped (columns_of kind))

    pub column_absent : (column : ℕ) → is_present (forms column) ≡ false → place_at kind arrays column ≡ None
    unfolding place_in
    column_absent column gone =
        let none : list_any (is_column column) (known_columns kind arrays) ≡ false = any_column column ∙ rw gone refl in
        position_from-zero (is_column column) (known_columns kind arrays) ∙ none_found (is_column column) 0 (known_columns kind arrays) none

    column_place : (column : ℕ) → column < width_of kind → is_present (forms column) ≡ true → (place : ℕ) × (place_at kind arrays column ≡ Some place)
    unfolding place_in
    column_place column below there =
        let has : has_column (grouped (columns_of kind)) column ≡ true = all_below-at (has_column (grouped (columns_of kind))) (width_of kind) column (kinds_grouped kind).all below in
        let some : list_any (is_column column) (known_columns kind arrays) ≡ true = any_column column ∙ rw (there, has) refl in
        let f = found_from (is_column column) 0 (known_columns kind arrays) some in
        (f.0, position_from-zero (is_column column) (known_columns kind arrays) ∙ f.1)

    known_here : (column place : ℕ) → place_at kind arrays column ≡ Some place → (place < length arrays) × (known_column kind arrays place ≡ Some column)
    unfolding place_in known_columns
    known_here column place at =
        let f : PassesAt (is_column column) 0 (known_columns kind arrays) place =
        passes_at (is_column column) 0 (known_columns kind arrays) place (sym (position_from-zero (is_column column) (known_columns kind arrays)) ∙ at) in
        let below : place < length arrays = omega (arith, f.below, length-map-range_with_len (known_column kind arrays) 0 (length arrays)) in
        let here : get_or (known_columns kind arrays) place None ≡ known_column kind arrays place = get_or-map-range_with_len (known_column kind arrays) 0 (length arrays) place place None below (omega arith) in
        (below, member_place column (known_column kind arrays place) (ap (is_column column) (sym here) ∙ f.passes place None (omega arith)))

    -- the field of a column
    column_field : (column : ℕ) (s : ArraySlot) (a : ArraySpec) → slot_column s ≡ Some column → field_of_array a ≡ slot_field kind forms s
        → (a.kind ≡ arrow_type_in (column_at kind column).base (forms column)) × (a.dict ≡ dict_for column (forms column)) × (a.encoding ≡ encoding_for (forms column))
    column_field column (Struct name) a is field = absurd (cc (is))
    column_field column (Items of) a is field = absurd (cc (is))
    column_field column (Column m) a is field =
        let same : m.column ≡ column = cc (is) in (
          ap (λ (f : FieldIn). f.kind) field ∙ ap (λ (c : ℕ). arrow_type_in (column_at kind c).base (forms c)) same,
          ap (λ (f : FieldIn). f.dict) field ∙ ap (λ (c : ℕ). dict_for c (forms c)) same,
          ap (λ (f : FieldIn). f.encoding) field ∙ ap (λ (c : ℕ). encoding_for (forms c)) same,
        )

    pub column_found : (column : ℕ) → column < width_of kind → is_present (forms column) ≡ true → IsFound kind forms column
    column_found column below there =
        let p = column_place column below there in
        let k = known_here column p.0 p.1 in
        let a = get_within arrays p.0 k.0 in
        let s = slot_at p.0 a.0 a.1 in
        let own = column_field column s.slot a.0 (sym s.known ∙ k.1) s.field in
        record { place = p.0; found = p.1; array = a.0; at = a.1; known = k.1; type = own.0; dict = own.1; encoding = own.2 }
