-- The array after a list's holds the list's elements.
use Rattle.std.proofs.Common.{◌≡◌, ◌+◌, ◌==◌, ℕ, true, false, not, List, [], ◌∷◌, ◌++◌, length, slice_get, Option, Some, None, refl, sym, ap, ◌∙◌, subst, inl, inr, arith}
use Rattle.std.proofs.lemmas.Bool.{cases_Bool, eqb-true, false≢true, and_parts}
use Rattle.std.proofs.lemmas.List.{length_push}
use Rattle.std.proofs.lemmas.List.Sums.{sum_by_push}
use Rattle.std.proofs.lemmas.Option.{slice_get_within}
use Rattle.arrow_schema.specs.declared.spec.ArrowType.{ArrowType}
use Rattle.arrow_schema.specs.declared.spec.ArrowType.TheVariants as kind
use Rattle.arrow_schema.specs.declared.spec.DictSpec.{DictSpec}
use Rattle.arrow_schema.specs.declared.spec.FieldSpec.{FieldSpec}
use Rattle.arrow_schema.specs.Types.{is_struct, is_list, is_element_type}
use Rattle.arrow_schema.specs.Trees.{count_of, kind_in, dict_in, children_in}
use Rattle.arrow_schema.specs.Readable.{IsReadable, are_readable, is_one_element, is_element, has_none, no_fields, fits_dictionary}
use Rattle.arrow_schema.proofs.Clear.{has_no_dict}
use Rattle.arrow_arrays.specs.declared.layout.Layout.TheVariants as layout
use Rattle.arrow_arrays.specs.declared.spec.Above.{Above}
use Rattle.arrow_arrays.specs.declared.spec.Above.TheVariants as parent
use Rattle.arrow_arrays.specs.declared.spec.ArraySpec.{ArraySpec}
use Rattle.arrow_arrays.specs.Layouts.{layout_of, element_len}
use Rattle.arrow_arrays.specs.Arrays.{buffers_of, above_children, add_field, add_fields, arrays_of, array_place, place_of_elements, HoldsElements}
use Rattle.arrow_arrays.proofs.Walking.{add_field_is, own_of}
use Rattle.arrow_arrays.proofs.Walked.{array_for, each_walk, slice_get_front, slice_get_last, front, last, among}
use Rattle.arrow_arrays.proofs.PathsWalked.{deep}

-- ---- lists and their children

pub list_is : (k : ArrowType) → is_list k ≡ true → k ≡ kind.List
list_is kind.List is = refl
list_is other is = absurd (false≢true is)

element_layout : (k : ArrowType) → is_element_type k ≡ true → layout_of k None ≡ layout.Fixed element_len
element_layout (kind.Int bits signed) is =
    let wide = eqb-true bits 64 (and_parts (bits == 64) (not signed) is).0 in
    rw wide refl
element_layout kind.Double is = refl
element_layout other is = absurd (false≢true is)

element_struct : (k : ArrowType) → is_element_type k ≡ true → (is_list k ≡ false) × (is_struct k ≡ false)
element_struct (kind.Int bits signed) is = (refl, refl)
element_struct kind.Double is = (refl, refl)
element_struct other is = absurd (false≢true is)

pub no_fields_is : (fields : List FieldSpec) → no_fields fields ≡ true → fields ≡ []
no_fields_is [] is = refl
no_fields_is (f ∷ fields) is = absurd (false≢true is)

-- what a list has as its one child
record IsElement (g : FieldSpec) : Type 0 where
  layout : layout_of (kind_in g) (dict_in g) ≡ layout.Fixed element_len
  other : is_list (kind_in g) ≡ false
  childless : children_in g ≡ []

element_of : (inner : ℕ) (g : FieldSpec) → is_element g ≡ true → are_readable inner (g ∷ []) ≡ true → IsElement g
element_of inner g is readable =
    let parts = and_parts (is_element_type (kind_in g)) (has_none (dict_in g)) is in
    let plain = element_struct (kind_in g) parts.0 in
    let d = deep inner g [] readable in
    let fits : no_fields (children_in g) ≡ true = rw (plain.0, plain.1) at d.fits in
    record {
      layout = rw (has_no_dict (dict_in g) parts.1) (element_layout (kind_in g) parts.0);
      other = plain.0;
      childless = no_fields_is (children_in g) fits;
    }

-- ---- arrays one by one

HasElements : List ArraySpec → Type 0
HasElements arrays = (place : ℕ) (a : ArraySpec) → slice_get arrays place ≡ Some a → is_list a.kind ≡ true → HoldsElements arrays place a

-- what is there is still there with one more
still : (arrays : List ArraySpec) (x : ArraySpec) (place : ℕ) (a : ArraySpec) → HoldsElements arrays place a → HoldsElements (arrays ++ x ∷ []) place a
still arrays x place a holds =
    (holds.0, slice_get_front arrays (x ∷ []) (place + 1) (slice_get_within arrays (place + 1) holds.0 holds.1) ∙ holds.1, holds.2)

one_other : (arrays : List ArraySpec) (x : ArraySpec) → HasElements arrays → is_list x.kind ≡ false → HasElements (arrays ++ x ∷ [])
unfolding HasElements
one_other arrays x has other place a at is =
    elim (among arrays x place a at) [
      | front lt there ↦ still arrays x place a (has place a there is)
      | last end same ↦ absurd (false≢true (sym other ∙ ap (λ (b : ArraySpec). is_list b.kind) same ∙ is))
    ]

-- a list, and its elements
list_and_elements : (arrays : List ArraySpec) (x y : ArraySpec) → HasElements arrays → array_place y ≡ place_of_elements x → is_list y.kind ≡ false → HasElements ((arrays ++ x ∷ []) ++ y ∷ [])
unfolding HasElements
list_and_elements arrays x y has placed other place a at is =
    elim (among (arrays ++ x ∷ []) y place a at) [
      | last end same ↦ absurd (false≢true (sym other ∙ ap (λ (b : ArraySpec). is_list b.kind) same ∙ is))
      | front lt there ↦ elim (among arrays x place a there) [
        | front within at_front ↦ still (arrays ++ x ∷ []) y place a (still arrays x place a (has place a at_front is))
        | last end same ↦
            let next : place + 1 ≡ length (arrays ++ x ∷ []) = omega (arith, end, length_push arrays x) in
            (y, slice_get_last (arrays ++ x ∷ []) y (place + 1) next, placed ∙ ap place_of_elements same)
      ]
    ]

elements_placed : (f g : FieldSpec) (above : Above) (arrays : List ArraySpec) → kind_in f ≡ kind.List → dict_in f ≡ None → IsElement g
    → array_place (array_for g parent.List (arrays ++ array_for f above arrays ∷ [])) ≡ place_of_elements (array_for f above arrays)
unfolding own_of
elements_placed f g above arrays list none element =
    let x = array_for f above arrays in
    let node : length (arrays ++ x ∷ []) ≡ length arrays + 1 = length_push arrays x in
    let buffer : buffers_of (arrays ++ x ∷ []) ≡ buffers_of arrays + 2 =
    sum_by_push own_of arrays x ∙ ap (λ (n : ℕ). buffers_of arrays + n) (rw (list, none) refl) in
    rw (element.layout, node, buffer) refl

-- ---- the walk

AreElements : List FieldSpec → Above → List ArraySpec → Type 0
AreElements fields above arrays = (depth : ℕ) → are_readable depth fields ≡ true → HasElements arrays → HasElements (add_fields fields above arrays)

dictless : (k : ArrowType) (dict : Option DictSpec) → k ≡ kind.List → fits_dictionary k dict ≡ true → dict ≡ None
dictless k None list fits = refl
dictless k (Some dict) list fits = absurd (false≢true (rw list at fits))

list_added : (f : FieldSpec) (above : Above) (arrays : List ArraySpec) (inner : ℕ) (children : List FieldSpec) → children_in f ≡ children → kind_in f ≡ kind.List → dict_in f ≡ None → is_one_element children ≡ true
    → are_readable inner children ≡ true → HasElements arrays → HasElements (add_field f above arrays)
list_added f above arrays inner [] are list none one readable has = absurd (false≢true one)
list_added f above arrays inner (g ∷ h ∷ more) are list none one readable has = absurd (false≢true one)
list_added f above arrays inner (g ∷ []) are list none one readable has =
    let element = element_of inner g one readable in
    let x = array_for f above arrays in
    let front_arrays : List ArraySpec = arrays ++ x ∷ [] in
    let y = array_for g parent.List front_arrays in
    let last_added : add_field g parent.List front_arrays ≡ front_arrays ++ y ∷ [] =
    add_field_is g parent.List front_arrays ∙ ap (λ (fs : List FieldSpec). add_fields fs (above_children (kind_in g) (length front_arrays)) (front_arrays ++ y ∷ [])) element.childless in
    let added : add_field f above arrays ≡ front_arrays ++ y ∷ [] =
    add_field_is f above arrays
    ∙ ap (λ (fs : List FieldSpec). add_fields fs (above_children (kind_in f) (length arrays)) front_arrays) are
    ∙ ap (λ (k : ArrowType). add_fields (g ∷ []) (above_children k (length arrays)) front_arrays) list
    ∙ last_added in
    subst HasElements (sym added) (list_and_elements arrays x y has (elements_placed f g above arrays list none element) element.other)

other_added : (f : FieldSpec) (above : Above) (arrays : List ArraySpec) (inner : ℕ) → AreElements (children_in f) (above_children (kind_in f) (length arrays)) (arrays ++ array_for f above arrays ∷ [])
    → is_list (kind_in f) ≡ false
    → are_readable inner (children_in f) ≡ true → HasElements arrays → HasElements (add_field f above arrays)
unfolding AreElements
other_added f above arrays inner below other readable has =
    subst HasElements (sym (add_field_is f above arrays)) (below inner readable (one_other arrays (array_for f above arrays) has other))

elements_more : (f : FieldSpec) (fs : List FieldSpec) (above : Above) (arrays : List ArraySpec) → AreElements (children_in f) (above_children (kind_in f) (length arrays)) (arrays ++ array_for f above arrays ∷ [])
    → AreElements fs above (add_field f above arrays) → AreElements (f ∷ fs) above arrays
unfolding AreElements
elements_more f fs above arrays below rest depth readable has =
    let d = deep depth f fs readable in
    let own : HasElements (add_field f above arrays) =
    elim (cases_Bool (is_list (kind_in f))) [
      | inl yes_list ↦
          let list = list_is (kind_in f) yes_list in
          let one : is_one_element (children_in f) ≡ true = rw yes_list at d.fits in
          list_added f above arrays d.inner (children_in f) refl list (dictless (kind_in f) (dict_in f) list d.dictionary) one d.children has
      | inr no_list ↦ other_added f above arrays d.inner below no_list d.children has
    ] in
    rest depth d.later own

none_have : HasElements []
unfolding HasElements
none_have place a at is = absurd (cc (at))

pub elements_law : (fields : List FieldSpec) (place : ℕ) (a : ArraySpec) → IsReadable fields → slice_get (arrays_of fields) place ≡ Some a → a.kind ≡ kind.List → HoldsElements (arrays_of fields) place a
unfolding AreElements HasElements arrays_of
elements_law fields place a readable at list =
    each_walk AreElements (λ above arrays depth fits has. has) elements_more (count_of fields) fields (omega arith) parent.Top [] 3 readable.each none_have place a at (ap is_list list)
