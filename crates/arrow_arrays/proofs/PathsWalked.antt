-- The paths of the arrays of a schema are those of its fields.
use Rattle.std.specs.Prelude.{true, ◌&&◌}
use Rattle.std.specs.List.{list_all, range_with_len}
use Rattle.std.proofs.Common.{◌≡◌, ◌≤◌, ◌<◌, ◌+◌, ℕ, zero, suc, List, [], ◌∷◌, ◌++◌, map, length, slice_get, append_assoc, Option, Some, None, refl, sym, ap, ◌∙◌, subst, arith, rules}
use Rattle.std.proofs.lemmas.List.{append-nil, length-append, length_push}
use Rattle.std.proofs.lemmas.Bool.{and_parts}
use Rattle.arrow_buffers.proofs.Growing.{one-more}
use Rattle.arrow_schema.specs.Limits.{max_depth}
use Rattle.arrow_schema.specs.declared.spec.ArrowType.{ArrowType}
use Rattle.arrow_schema.specs.declared.spec.ArrowType.TheVariants as kind
use Rattle.arrow_schema.specs.declared.spec.FieldSpec.{FieldSpec, the_lemmas}
use Rattle.arrow_schema.specs.Trees.{count_of, name_in, kind_in, dict_in, encoding_in, children_in, names_differ, lacks_name}
use Rattle.arrow_schema.specs.Readable.{IsReadable, are_readable, is_readable, fits_children, fits_dictionary}
use Rattle.arrow_schema.proofs.Only.{tests_of}
use Rattle.arrow_arrays.specs.declared.spec.Above.{Above}
use Rattle.arrow_arrays.specs.declared.spec.Above.TheVariants as parent
use Rattle.arrow_arrays.specs.declared.spec.ArraySpec.{ArraySpec}
use Rattle.arrow_arrays.specs.Arrays.{above_children, add_field, add_fields, arrays_of, path_below, path_to, path_within, path_of}
use Rattle.arrow_arrays.specs.Fields.{Paths, path_in, path_under, paths_each, paths_step, paths_in, paths_below}
use Rattle.arrow_arrays.proofs.Walking.{add_field_is}
use Rattle.arrow_arrays.proofs.Walked.{array_for, each_walk, slice_get_front, slice_get_last, front, last, among}

-- ---- lists that grow

unfoldable pub Extends : List FieldSpec → Above → List ArraySpec → Type 0
Extends fields above arrays = (more : List ArraySpec) × (add_fields fields above arrays ≡ arrays ++ more)

pub one_extends : (f : FieldSpec) (above : Above) (arrays : List ArraySpec) → Extends (children_in f) (above_children (kind_in f) (length arrays)) (arrays ++ array_for f above arrays ∷ [])
    → (more : List ArraySpec) × (add_field f above arrays ≡ arrays ++ more)
unfolding Extends
one_extends f above arrays below =
    (array_for f above arrays ∷ below.0, add_field_is f above arrays ∙ below.1 ∙ append_assoc arrays (array_for f above arrays ∷ []) below.0)

pub extends_walk : (n : ℕ) (fields : List FieldSpec) → count_of fields ≤ n → (above : Above) (arrays : List ArraySpec) → Extends fields above arrays
unfolding Extends
extends_walk = each_walk Extends (λ above arrays. ([], sym (append-nil arrays)))
    (λ f fs above arrays below rest.
    let own = one_extends f above arrays below in
    (own.0 ++ rest.0, rest.1 ∙ ap (λ (front : List ArraySpec). front ++ rest.0) own.1 ∙ append_assoc arrays own.0 rest.0))

-- what is above comes before
AreBefore : List ArraySpec → Type 0
AreBefore arrays = (place : ℕ) (a : ArraySpec) (p : ℕ) → slice_get arrays place ≡ Some a → a.above ≡ parent.Struct p → p < place

IsIn : Above → List ArraySpec → Type 0
IsIn above arrays = (p : ℕ) → above ≡ parent.Struct p → p < length arrays

below_same : (g h : ℕ → List (List ℕ)) (above : Above) (name : List ℕ) → ((p : ℕ) → above ≡ parent.Struct p → g p ≡ h p) → path_below g above name ≡ path_below h above name
below_same g h parent.Top name same = refl
below_same g h (parent.Struct p) name same = ap (λ (names : List (List ℕ)). names ++ name ∷ []) (same p refl)
below_same g h parent.List name same = refl

to_same : (g h : ℕ → List (List ℕ)) (found : Option ArraySpec) → ((a : ArraySpec) (p : ℕ) → found ≡ Some a → a.above ≡ parent.Struct p → g p ≡ h p) → path_to g found ≡ path_to h found
to_same g h None same = refl
to_same g h (Some a) same = below_same g h a.above a.name (λ p is. same a p refl is)

path_front : (d : ℕ) (arrays more : List ArraySpec) → AreBefore arrays → (place : ℕ) → place < length arrays → path_within d (arrays ++ more) place ≡ path_within d arrays place
unfolding path_within AreBefore
path_front zero arrays more before place lt = refl
path_front (suc d) arrays more before place lt =
    ap (path_to (path_within d (arrays ++ more))) (slice_get_front arrays more place lt)
    ∙ to_same (path_within d (arrays ++ more)) (path_within d arrays) (slice_get arrays place)
    (λ a p at is. path_front d arrays more before p (omega (arith, before place a p at is, lt)))

path_last : (d : ℕ) (arrays : List ArraySpec) (x : ArraySpec)
    → path_within (suc d) (arrays ++ x ∷ []) (length arrays) ≡ path_below (path_within d (arrays ++ x ∷ [])) x.above x.name
unfolding path_within
path_last d arrays x = ap (path_to (path_within d (arrays ++ x ∷ []))) (slice_get_last arrays x (length arrays) refl)

-- the paths to the children of what is above, at a level
IsAbove : ℕ → List ArraySpec → Above → Option (List (List ℕ)) → Type 0
IsAbove level arrays above path = (d : ℕ) (name : List ℕ) → level ≤ d → path_below (path_within d arrays) above name ≡ path_in path name

above_on : (level : ℕ) (arrays more : List ArraySpec) (above : Above) (path : Option (List (List ℕ))) → AreBefore arrays → IsIn above arrays → IsAbove level arrays above path → IsAbove level (arrays ++ more) above path
unfolding IsAbove IsIn
above_on level arrays more above path before inside is d name le =
    below_same (path_within d (arrays ++ more)) (path_within d arrays) above name (λ p at. path_front d arrays more before p (inside p at)) ∙ is d name le

own_path : (level : ℕ) (f : FieldSpec) (above : Above) (arrays : List ArraySpec) (path : Option (List (List ℕ))) → AreBefore arrays → IsIn above arrays → IsAbove level arrays above path
    → (d : ℕ) → level < d → path_within d (arrays ++ array_for f above arrays ∷ []) (length arrays) ≡ path_in path (name_in f)
unfolding IsAbove
own_path level f above arrays path before inside is zero lt = absurd (omega (arith, lt))
own_path level f above arrays path before inside is (suc d) lt =
    let x = array_for f above arrays in
    path_last d arrays x ∙ above_on level arrays (x ∷ []) above path before inside is d (name_in f) (omega (arith, lt))

-- the paths to a field's children, by its own
children_path : (kind : ArrowType) (path : ℕ → List (List ℕ)) (place : ℕ) (own : List (List ℕ)) (name : List ℕ) → path place ≡ own → path_below path (above_children kind place) name ≡ path_in (path_under kind own) name
children_path kind.List path place own name is = refl
children_path other path place own name is = ap (λ (names : List (List ℕ)). names ++ name ∷ []) is

one_before : (f : FieldSpec) (above : Above) (arrays : List ArraySpec) → AreBefore arrays → IsIn above arrays → AreBefore (arrays ++ array_for f above arrays ∷ [])
unfolding AreBefore IsIn
one_before f above arrays before inside place a p at is =
    elim (among arrays (array_for f above arrays) place a at) [
      | front lt there ↦ before place a p there is
      | last end same ↦
          let own : above ≡ parent.Struct p = ap (λ (b : ArraySpec). b.above) same ∙ is in
          omega (arith, inside p own, end)
    ]

-- ---- the paths of all arrays

all_paths : List ArraySpec → List (List (List ℕ))
all_paths arrays = map (path_of arrays) (range_with_len 0 (length arrays))

one_path : (level : ℕ) (f : FieldSpec) (above : Above) (arrays : List ArraySpec) (path : Option (List (List ℕ))) → level < max_depth → AreBefore arrays → IsIn above arrays → IsAbove level arrays above path
    → all_paths (arrays ++ array_for f above arrays ∷ []) ≡ all_paths arrays ++ path_in path (name_in f) ∷ []
unfolding all_paths
one_path level f above arrays path lt before inside is =
    let x = array_for f above arrays in
    ap (λ (n : ℕ). map (path_of (arrays ++ x ∷ [])) (range_with_len 0 n)) (length_push arrays x)
    ∙ one-more (path_of (arrays ++ x ∷ [])) (path_of arrays) (length arrays) (path_in path (name_in f))
    (λ k below. path_front max_depth arrays (x ∷ []) before k below)
    (own_path level f above arrays path before inside is max_depth lt)

each_paths : (fs : List FieldSpec) (path : Option (List (List ℕ))) → paths_each (map paths_in fs) path ≡ paths_below fs path
each_paths [] path = refl
each_paths (f ∷ fs) path = ap (λ (paths : List (List (List ℕ))). paths_in f path ++ paths) (each_paths fs path)

paths_step_is : (f : FieldSpec) → paths_in f ≡ paths_step (record { name = name_in f; kind = kind_in f; dict = dict_in f; encoding = encoding_in f; children = map paths_in (children_in f) })
paths_step_is f = search (rules, the_lemmas)

pub paths_in_is : (f : FieldSpec) (path : Option (List (List ℕ))) → paths_in f path ≡ path_in path (name_in f) ∷ paths_below (children_in f) (path_under (kind_in f) (path_in path (name_in f)))
paths_in_is f path =
    ap (λ (paths : Paths). paths path) (paths_step_is f)
    ∙ ap (λ (paths : List (List (List ℕ))). path_in path (name_in f) ∷ paths) (each_paths (children_in f) (path_under (kind_in f) (path_in path (name_in f))))

-- fields that are readable at a depth: the first one's children one level down, and the later ones
pub record IsDeep (depth : ℕ) (f : FieldSpec) (fs : List FieldSpec) : Type 0 where
  pub inner : ℕ
  pub deeper : depth ≡ inner + 1
  pub dictionary : fits_dictionary (kind_in f) (dict_in f) ≡ true
  pub fits : fits_children (kind_in f) (children_in f) ≡ true
  pub children : are_readable inner (children_in f) ≡ true
  pub later : are_readable depth fs ≡ true

pub deep : (depth : ℕ) (f : FieldSpec) (fs : List FieldSpec) → are_readable depth (f ∷ fs) ≡ true → IsDeep depth f fs
unfolding are_readable names_differ
deep zero f fs h = absurd (cc (h))
deep (suc inner) f fs h =
    let parts = and_parts (lacks_name (name_in f) fs && names_differ fs) (is_readable (are_readable inner) f && list_all (is_readable (are_readable inner)) fs) h in
    let names = and_parts (lacks_name (name_in f) fs) (names_differ fs) parts.0 in
    let each = and_parts (is_readable (are_readable inner) f) (list_all (is_readable (are_readable inner)) fs) parts.1 in
    let tests = tests_of inner f each.0 in
    record {
      inner = inner;
      deeper = omega arith;
      dictionary = tests.dictionary;
      fits = tests.fits;
      children = tests.children;
      later = rw (names.1, each.1) refl;
    }

-- the walk adds the paths of the fields
pub record AddsPaths (fields : List FieldSpec) (above : Above) (arrays : List ArraySpec) (path : Option (List (List ℕ))) : Type 0 where
  before : AreBefore (add_fields fields above arrays)
  paths : all_paths (add_fields fields above arrays) ≡ all_paths arrays ++ paths_below fields path

ArePaths : List FieldSpec → Above → List ArraySpec → Type 0
ArePaths fields above arrays = (level depth : ℕ) (path : Option (List (List ℕ))) → are_readable depth fields ≡ true → level + depth ≤ max_depth → AreBefore arrays → IsIn above arrays → IsAbove level arrays above path
    → AddsPaths fields above arrays path

children_at : (kind : ArrowType) (place p : ℕ) → above_children kind place ≡ parent.Struct p → place ≡ p
children_at kind.List place p is = absurd (cc (is))
children_at other place p is = cc (is)

some_in : (kind : ArrowType) (arrays : List ArraySpec) (x : ArraySpec) → IsIn (above_children kind (length arrays)) (arrays ++ x ∷ [])
unfolding IsIn
some_in kind arrays x p is = omega (arith, length_push arrays x, children_at kind (length arrays) p is)

in_on : (above : Above) (arrays more : List ArraySpec) → IsIn above arrays → IsIn above (arrays ++ more)
unfolding IsIn
in_on above arrays more inside p is = omega (arith, inside p is, length-append arrays more)

-- one field, with its children
pub record AddsPath (f : FieldSpec) (above : Above) (arrays : List ArraySpec) (path : Option (List (List ℕ))) : Type 0 where
  before : AreBefore (add_field f above arrays)
  paths : all_paths (add_field f above arrays) ≡ all_paths arrays ++ paths_in f path

one_added : (f : FieldSpec) (above : Above) (arrays : List ArraySpec) (level inner : ℕ) (path : Option (List (List ℕ)))
    → ArePaths (children_in f) (above_children (kind_in f) (length arrays)) (arrays ++ array_for f above arrays ∷ [])
    → are_readable inner (children_in f) ≡ true → level + (inner + 1) ≤ max_depth → AreBefore arrays → IsIn above arrays → IsAbove level arrays above path → AddsPath f above arrays path
unfolding ArePaths IsAbove
one_added f above arrays level inner path below readable within before inside is =
    let x = array_for f above arrays in
    let own : List (List ℕ) = path_in path (name_in f) in
    let under : Option (List (List ℕ)) = path_under (kind_in f) own in
    let children : List (List (List ℕ)) = paths_below (children_in f) under in
    let added = below (level + 1) inner under readable (omega (arith, within)) (one_before f above arrays before inside) (some_in (kind_in f) arrays x)
    (λ d name le. children_path (kind_in f) (path_within d (arrays ++ x ∷ [])) (length arrays) own name (own_path level f above arrays path before inside is d (omega (arith, le)))) in
    record {
      before = subst AreBefore (sym (add_field_is f above arrays)) added.before;
      paths = ap all_paths (add_field_is f above arrays) ∙ added.paths
          ∙ ap (λ (paths : List (List (List ℕ))). paths ++ children) (one_path level f above arrays path (omega (arith, within)) before inside is)
          ∙ append_assoc (all_paths arrays) (own ∷ []) children
          ∙ ap (λ (paths : List (List (List ℕ))). all_paths arrays ++ paths) (sym (paths_in_is f path));
    }

paths_more : (f : FieldSpec) (fs : List FieldSpec) (above : Above) (arrays : List ArraySpec) → ArePaths (children_in f) (above_children (kind_in f) (length arrays)) (arrays ++ array_for f above arrays ∷ [])
    → ArePaths fs above (add_field f above arrays) → ArePaths (f ∷ fs) above arrays
unfolding ArePaths Extends
paths_more f fs above arrays below rest level depth path readable within before inside is =
    let d = deep depth f fs readable in
    let own = one_added f above arrays level d.inner path below d.children (omega (arith, within, d.deeper)) before inside is in
    let longer = one_extends f above arrays (extends_walk (count_of (children_in f)) (children_in f) (omega arith) (above_children (kind_in f) (length arrays)) (arrays ++ array_for f above arrays ∷ [])) in
    let still_in : IsIn above (add_field f above arrays) = subst (IsIn above) (sym longer.1) (in_on above arrays longer.0 inside) in
    let still_is : IsAbove level (add_field f above arrays) above path =
    subst (λ (more : List ArraySpec). IsAbove level more above path) (sym longer.1) (above_on level arrays longer.0 above path before inside is) in
    let later = rest level depth path d.later within own.before still_in still_is in
    record {
      before = later.before;
      paths = later.paths ∙ ap (λ (paths : List (List (List ℕ))). paths ++ paths_below fs path) own.paths ∙ append_assoc (all_paths arrays) (paths_in f path) (paths_below fs path);
    }

paths_none : (above : Above) (arrays : List ArraySpec) → ArePaths [] above arrays
unfolding ArePaths
paths_none above arrays level depth path readable within before inside is = record { before = before; paths = sym (append-nil (all_paths arrays)) }

none_before : AreBefore []
unfolding AreBefore
none_before place a p at is = absurd (cc (at))

none_in : IsIn parent.Top []
unfolding IsIn
none_in p is = absurd (cc (is))

none_above : IsAbove 0 [] parent.Top (Some [])
unfolding IsAbove
none_above d name le = refl

pub paths_law : (fields : List FieldSpec) → IsReadable fields → map (path_of (arrays_of fields)) (range_with_len 0 (length (arrays_of fields))) ≡ paths_below fields (Some [])
unfolding ArePaths all_paths arrays_of
paths_law fields readable =
    (each_walk ArePaths paths_none paths_more (count_of fields) fields (omega arith) parent.Top [] 0 max_depth (Some []) readable.each (omega arith) none_before none_in none_above).paths
