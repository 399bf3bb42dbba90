-- What the walk of a schema gives: the fields in order, and the indexes of their nodes and buffers.
use Rattle.std.proofs.Common.{◌≡◌, ◌≤◌, ◌<◌, ◌+◌, ℕ, zero, suc, List, [], ◌∷◌, ◌++◌, map, length, take, slice_get, append_assoc, Some, refl, sym, ap, ◌∙◌, subst, inl, inr, arith, rules}
use Rattle.std.specs.List.{flat_map}
use Rattle.std.proofs.lemmas.Bool.{cases_lt}
use Rattle.std.proofs.lemmas.List.{append-nil, map-append, take-append-le, take_all, length_push}
use Rattle.std.proofs.lemmas.Option.{slice_get_within}
use Rattle.arrow_schema.specs.declared.spec.FieldSpec.{FieldSpec, the_lemmas}
use Rattle.arrow_schema.specs.Trees.{count_of, name_in, kind_in, dict_in, encoding_in, children_in}
use Rattle.arrow_schema.proofs.Folds.{count_in_is}
use Rattle.arrow_arrays.specs.declared.spec.Above.{Above}
use Rattle.arrow_arrays.specs.declared.spec.Above.TheVariants as parent
use Rattle.arrow_arrays.specs.declared.spec.ArraySpec.{ArraySpec}
use Rattle.arrow_arrays.specs.Arrays.{buffers_of, above_children, array_after, add_field, add_fields, arrays_of}
use Rattle.arrow_arrays.specs.Fields.{FieldIn, field_of_array, depth_first_in, depth_first}
use Rattle.arrow_arrays.proofs.Walking.{add_field_is}

-- the array of a field after others
abbrev pub array_for : FieldSpec → Above → List ArraySpec → ArraySpec
array_for f above arrays = array_after arrays above (name_in f) (kind_in f) (dict_in f) (encoding_in f)

-- a fact of each walk, from one of the children of a field and one of the fields after it
pub each_walk : (P : List FieldSpec → Above → List ArraySpec → Type 0) → ((above : Above) (arrays : List ArraySpec) → P [] above arrays)
    → ((f : FieldSpec) (fs : List FieldSpec) (above : Above) (arrays : List ArraySpec) → P (children_in f) (above_children (kind_in f) (length arrays)) (arrays ++ array_for f above arrays ∷ [])
    → P fs above (add_field f above arrays) → P (f ∷ fs) above arrays)
    → (n : ℕ) (fields : List FieldSpec) → count_of fields ≤ n → (above : Above) (arrays : List ArraySpec) → P fields above arrays
each_walk P none more n [] few above arrays = none above arrays
each_walk P none more zero (f ∷ fs) few above arrays = absurd (omega (arith, count_in_is f, few))
each_walk P none more (suc n) (f ∷ fs) few above arrays =
    more f fs above arrays
    (each_walk P none more n (children_in f) (omega (arith, count_in_is f, few)) (above_children (kind_in f) (length arrays)) (arrays ++ array_for f above arrays ∷ []))
    (each_walk P none more n fs (omega (arith, count_in_is f, few)) above (add_field f above arrays))

-- ---- the fields

unfoldable pub own_field : FieldSpec → FieldIn
own_field f = record { name = name_in f; kind = kind_in f; dict = dict_in f; encoding = encoding_in f }

flat_fields : (fs : List FieldSpec) → flat_map (λ fields. fields) (map depth_first_in fs) ≡ depth_first fs
flat_fields [] = refl
flat_fields (f ∷ fs) = ap (λ (fields : List FieldIn). depth_first_in f ++ fields) (flat_fields fs)

pub depth_first_is : (f : FieldSpec) → depth_first_in f ≡ own_field f ∷ depth_first (children_in f)
unfolding own_field
depth_first_is f = search (rules, the_lemmas, flat_fields)

AreFields : List FieldSpec → Above → List ArraySpec → Type 0
AreFields fields above arrays = map field_of_array (add_fields fields above arrays) ≡ map field_of_array arrays ++ depth_first fields

one_field : (f : FieldSpec) (above : Above) (arrays : List ArraySpec) → AreFields (children_in f) (above_children (kind_in f) (length arrays)) (arrays ++ array_for f above arrays ∷ [])
    → map field_of_array (add_field f above arrays) ≡ map field_of_array arrays ++ depth_first_in f
unfolding AreFields own_field
one_field f above arrays below =
    let children : List FieldIn = depth_first (children_in f) in
    let before : List FieldIn = map field_of_array arrays in
    ap (map field_of_array) (add_field_is f above arrays) ∙ below
    ∙ ap (λ (fields : List FieldIn). fields ++ children) (map-append field_of_array arrays (array_for f above arrays ∷ []))
    ∙ append_assoc before (own_field f ∷ []) children ∙ ap (λ (fields : List FieldIn). before ++ fields) (sym (depth_first_is f))

fields_walk : (n : ℕ) (fields : List FieldSpec) → count_of fields ≤ n → (above : Above) (arrays : List ArraySpec) → AreFields fields above arrays
unfolding AreFields
fields_walk = each_walk AreFields
    (λ above arrays. sym (append-nil (map field_of_array arrays)))
    (λ f fs above arrays below rest.
    rest ∙ ap (λ (fields : List FieldIn). fields ++ depth_first fs) (one_field f above arrays below) ∙ append_assoc (map field_of_array arrays) (depth_first_in f) (depth_first fs))

pub fields_law : (fields : List FieldSpec) → map field_of_array (arrays_of fields) ≡ depth_first fields
unfolding AreFields arrays_of
fields_law fields = fields_walk (count_of fields) fields (omega arith) parent.Top []

-- ---- elements of a list with one more

pub slice_get_front : {A : Type 0} (xs ys : List A) (i : ℕ) → i < length xs → slice_get (xs ++ ys) i ≡ slice_get xs i
slice_get_front [] ys i lt = absurd (omega (arith, lt))
slice_get_front (x ∷ xs) ys zero lt = refl
slice_get_front (x ∷ xs) ys (suc i) lt = slice_get_front xs ys i (omega (arith, lt))

pub slice_get_last : {A : Type 0} (xs : List A) (x : A) (i : ℕ) → i ≡ length xs → slice_get (xs ++ x ∷ []) i ≡ Some x
slice_get_last [] x zero is = refl
slice_get_last [] x (suc i) is = absurd (omega (arith, is))
slice_get_last (y ∷ xs) x zero is = absurd (omega (arith, is))
slice_get_last (y ∷ xs) x (suc i) is = slice_get_last xs x i (omega (arith, is))

-- an element of a list with one more is one of the list, or the last
pub data IsAmong {A : Type 0} (xs : List A) (x : A) (i : ℕ) (y : A) : Type 0 where
  front : i < length xs → slice_get xs i ≡ Some y → IsAmong xs x i y
  last : i ≡ length xs → x ≡ y → IsAmong xs x i y

pub among : {A : Type 0} (xs : List A) (x : A) (i : ℕ) (y : A) → slice_get (xs ++ x ∷ []) i ≡ Some y → IsAmong xs x i y
among xs x i y at =
    elim (cases_lt i (length xs)) [
      | inl lt ↦ front lt (sym (slice_get_front xs (x ∷ []) i lt) ∙ at)
      | inr ge ↦
          let within : i < length xs + 1 = omega (arith, slice_get_within (xs ++ x ∷ []) i y at, length_push xs x) in
          let end : i ≡ length xs = omega (arith, within, ge) in
          let both : Some x ≡ Some y = sym (slice_get_last xs x i end) ∙ at in
          last end (cc (both))
    ]

-- ---- the indexes

pub IsPlaced : List ArraySpec → Type 0
IsPlaced arrays = (place : ℕ) (a : ArraySpec) → slice_get arrays place ≡ Some a → (a.node ≡ place) × (a.buffer ≡ buffers_of (take place arrays))

one_placed : (f : FieldSpec) (above : Above) (arrays : List ArraySpec) → IsPlaced arrays → IsPlaced (arrays ++ array_for f above arrays ∷ [])
unfolding IsPlaced
one_placed f above arrays placed place a at =
    elim (among arrays (array_for f above arrays) place a at) [
      | front lt there ↦
          let own = placed place a there in
          (own.0, own.1 ∙ ap buffers_of (sym (take-append-le place arrays (array_for f above arrays ∷ []) (omega (arith, lt)))))
      | last end is ↦
          let all : take place (arrays ++ array_for f above arrays ∷ []) ≡ arrays =
          take-append-le place arrays (array_for f above arrays ∷ []) (omega (arith, end)) ∙ take_all place arrays (omega (arith, end)) in
          (ap (λ (b : ArraySpec). b.node) (sym is) ∙ sym end, ap (λ (b : ArraySpec). b.buffer) (sym is) ∙ ap buffers_of (sym all))
    ]

KeepsPlaced : List FieldSpec → Above → List ArraySpec → Type 0
KeepsPlaced fields above arrays = IsPlaced arrays → IsPlaced (add_fields fields above arrays)

placed_walk : (n : ℕ) (fields : List FieldSpec) → count_of fields ≤ n → (above : Above) (arrays : List ArraySpec) → KeepsPlaced fields above arrays
unfolding KeepsPlaced
placed_walk = each_walk KeepsPlaced (λ above arrays placed. placed)
    (λ f fs above arrays below rest placed. rest (subst IsPlaced (sym (add_field_is f above arrays)) (below (one_placed f above arrays placed))))

pub places_law : (fields : List FieldSpec) (place : ℕ) (a : ArraySpec) → slice_get (arrays_of fields) place ≡ Some a
    → (a.node ≡ place) × (a.buffer ≡ buffers_of (take place (arrays_of fields)))
unfolding KeepsPlaced IsPlaced arrays_of
places_law fields = placed_walk (count_of fields) fields (omega arith) parent.Top [] (λ place a at. absurd (cc (at)))
