-- Fields added one by one, as the walk goes; and checks one by one.
use Rattle.std.specs.Result.{result_and}
use Rattle.std.proofs.Common.{◌≡◌, ◌≤◌, ◌<◌, ◌+◌, ◌-◌, ◌*◌, ℕ, zero, suc, List, [], ◌∷◌, ◌++◌, map, length, drop, get_or, slice_get, append_assoc, Option, Some, Result, Ok, Err, refl, sym, ap, ◌∙◌, arith, rules}
use Rattle.std.specs.Prelude.{sum_by}
use Rattle.std.proofs.lemmas.List.{at_drop_more, at_drop_all, length_push, map-append}
use Rattle.std.proofs.lemmas.List.Sums.{sum_by-cons}
use Rattle.arrow_schema.specs.declared.spec.ArrowType.{ArrowType}
use Rattle.arrow_schema.specs.declared.spec.DictSpec.{DictSpec}
use Rattle.arrow_schema.specs.declared.spec.FieldSpec.{FieldSpec, the_lemmas}
use Rattle.arrow_schema.specs.Trees.{field_count, count_of, name_in, kind_in, dict_in, encoding_in, children_in}
use Rattle.arrow_buffers.specs.declared.fault.BufferFault.{BufferFault}
use Rattle.arrow_ipc.specs.Batches.{BatchIn}
use Rattle.arrow_arrays.specs.declared.layout.Layout.{Layout}
use Rattle.arrow_arrays.specs.declared.layout.Layout.TheVariants.{Struct, Bits, Fixed, Binary, Text}
use Rattle.arrow_arrays.specs.declared.layout.Layout.TheVariants as layout
use Rattle.arrow_arrays.specs.declared.spec.Above.{Above}
use Rattle.arrow_arrays.specs.declared.spec.ArraySpec.{ArraySpec}
use Rattle.arrow_arrays.specs.Layouts.{layout_of, own_buffers}
use Rattle.arrow_arrays.specs.Cells.{array_check}
use Rattle.arrow_arrays.specs.Arrays.{AddsArrays, array_place, buffers_of, above_children, array_after, add_each, add_step, add_field, add_fields, path_below, path_to, path_within, arrays_check}

-- an array has at most three buffers
own_few : (kind : Layout) → own_buffers kind ≤ 3
own_few Struct = omega arith
own_few Bits = omega arith
own_few (Fixed width) = omega arith
own_few Binary = omega arith
own_few Text = omega arith
own_few layout.List = omega arith

unfoldable pub own_of : ArraySpec → ℕ
own_of a = own_buffers (layout_of a.kind a.dict)

buffers_few : (arrays : List ArraySpec) → sum_by own_of arrays ≤ 3 * length arrays
unfolding own_of
buffers_few [] = omega arith
buffers_few (a ∷ arrays) = omega (arith, own_few (layout_of a.kind a.dict), buffers_few arrays, sum_by-cons own_of a arrays)

pub few_more : (arrays : List ArraySpec) (kind : ArrowType) (dict : Option DictSpec) → buffers_of arrays + own_buffers (layout_of kind dict) ≤ 3 * length arrays + 3
unfolding own_of
few_more arrays kind dict = omega (arith, own_few (layout_of kind dict), buffers_few arrays)

each_is : (fs : List FieldSpec) (above : Above) (arrays : List ArraySpec) → add_each (map add_field fs) above arrays ≡ add_fields fs above arrays
each_is [] above arrays = refl
each_is (f ∷ fs) above arrays = each_is fs above (add_field f above arrays)

step_is : (f : FieldSpec) → add_field f ≡ add_step (record { name = name_in f; kind = kind_in f; dict = dict_in f; encoding = encoding_in f; children = map add_field (children_in f) })
step_is f = search (rules, the_lemmas)

-- a field's array, and then those of its children
pub add_field_is : (f : FieldSpec) (above : Above) (arrays : List ArraySpec)
    → add_field f above arrays ≡ add_fields (children_in f) (above_children (kind_in f) (length arrays)) (arrays ++ array_after arrays above (name_in f) (kind_in f) (dict_in f) (encoding_in f) ∷ [])
add_field_is f above arrays =
    ap (λ (add : AddsArrays). add above arrays) (step_is f)
    ∙ each_is (children_in f) (above_children (kind_in f) (length arrays)) (arrays ++ array_after arrays above (name_in f) (kind_in f) (dict_in f) (encoding_in f) ∷ [])

pub count_step : (fs : List FieldSpec) (i : ℕ) (f : FieldSpec) → i < length fs → f ≡ get_or fs i f → count_of (drop i fs) ≡ field_count f + count_of (drop (i + 1) fs)
count_step fs i f lt is = at_drop_more count_of fs i f lt ∙ ap (λ (g : FieldSpec). field_count g + count_of (drop (i + 1) fs)) (sym is)

-- one more array, without a fault or with one
check_first : (batch : BatchIn) (arrays : List ArraySpec) (i : ℕ) (a : ArraySpec) → i < length arrays → a ≡ get_or arrays i a
    → arrays_check batch (drop i arrays) ≡ result_and (array_check batch (array_place a)) (arrays_check batch (drop (i + 1) arrays))
unfolding arrays_check
check_first batch arrays i a lt is =
    at_drop_more (arrays_check batch) arrays i a lt
    ∙ ap (λ (b : ArraySpec). result_and (array_check batch (array_place b)) (arrays_check batch (drop (i + 1) arrays))) (sym is)

pub check_step : (batch : BatchIn) (arrays : List ArraySpec) (i : ℕ) (a : ArraySpec) (all : Result (Unit {0}) BufferFault) → i < length arrays → a ≡ get_or arrays i a
    → Ok tt ≡ array_check batch (array_place a) → arrays_check batch (drop i arrays) ≡ all → arrays_check batch (drop (i + 1) arrays) ≡ all
check_step batch arrays i a all lt is fine so_far =
    ap (λ (r : Result (Unit {0}) BufferFault). result_and r (arrays_check batch (drop (i + 1) arrays))) fine ∙ sym (check_first batch arrays i a lt is) ∙ so_far

pub check_fails : (batch : BatchIn) (arrays : List ArraySpec) (i : ℕ) (a : ArraySpec) (e : BufferFault) (all : Result (Unit {0}) BufferFault) → i < length arrays → a ≡ get_or arrays i a
    → Err e ≡ array_check batch (array_place a) → arrays_check batch (drop i arrays) ≡ all → Err e ≡ all
check_fails batch arrays i a e all lt is bad so_far =
    ap (λ (r : Result (Unit {0}) BufferFault). result_and r (arrays_check batch (drop (i + 1) arrays))) bad ∙ sym (check_first batch arrays i a lt is) ∙ so_far

pub check_ends : (batch : BatchIn) (arrays : List ArraySpec) (i : ℕ) (all : Result (Unit {0}) BufferFault) → length arrays ≤ i → arrays_check batch (drop i arrays) ≡ all → Ok tt ≡ all
unfolding arrays_check
check_ends batch arrays i all past so_far = sym (at_drop_all (arrays_check batch) arrays i past) ∙ so_far

-- the arrays of a field, pushed as its own and then its children's
pub field_step : (f : FieldSpec) (above below : Above) (arrays pushed : List ArraySpec) (children : List FieldSpec) → children ≡ children_in f → below ≡ above_children (kind_in f) (length arrays)
    → pushed ≡ arrays ++ array_after arrays above (name_in f) (kind_in f) (dict_in f) (encoding_in f) ∷ [] → add_fields children below pushed ≡ add_field f above arrays
field_step f above below arrays pushed children own at one =
    ap (λ (fs : List FieldSpec). add_fields fs below pushed) own ∙ ap (λ (b : Above). add_fields (children_in f) b pushed) at
    ∙ ap (add_fields (children_in f) (above_children (kind_in f) (length arrays))) one ∙ sym (add_field_is f above arrays)

pub length_one_more : (arrays pushed : List ArraySpec) (a : ArraySpec) → pushed ≡ arrays ++ a ∷ [] → length pushed ≡ length arrays + 1
length_one_more arrays pushed a is = ap length is ∙ length_push arrays a

-- the path to an array, by what is above
pub path_step : (depth : ℕ) (arrays : List ArraySpec) (place : ℕ) (a : ArraySpec) → 0 < depth → Some a ≡ slice_get arrays place
    → path_below (path_within (depth - 1) arrays) a.above a.name ≡ path_within depth arrays place
unfolding path_within
path_step zero arrays place a some at = absurd (omega (arith, some))
path_step (suc depth) arrays place a some at =
    let less : suc depth - 1 ≡ depth = omega arith in
    ap (λ (d : ℕ). path_below (path_within d arrays) a.above a.name) less ∙ ap (path_to (path_within depth arrays)) at

-- one more name, after those of what is above
pub path_pushed : {B : Type 0} (view : B → List ℕ) (middle new : List B) (x : B) (before above whole : List (List ℕ)) (name : List ℕ) → new ≡ middle ++ x ∷ [] → view x ≡ name
    → map view middle ≡ before ++ above → above ++ name ∷ [] ≡ whole → map view new ≡ before ++ whole
path_pushed view middle new x before above whole name one named mid all =
    ap (map view) one ∙ map-append view middle (x ∷ []) ∙ ap (λ (names : List (List ℕ)). names ++ view x ∷ []) mid
    ∙ ap (λ (n : List ℕ). (before ++ above) ++ n ∷ []) named ∙ append_assoc before above (name ∷ []) ∙ ap (λ (names : List (List ℕ)). before ++ names) all
