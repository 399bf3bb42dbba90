-- Schemas of columns can be read.
use Rattle.std.specs.Prelude.{◌≡◌, ℕ, zero, suc, ◌*◌, Bool, true, List, [], ◌∷◌, ◌++◌, length, map, codes, Option, None, Some, ℤ}
use Rattle.std.specs.Str.{is_utf8}
use Rattle.std.specs.Str.{IsAscii}
use Rattle.std.specs.List.{list_all}
use Rattle.std.specs.Ordering.{int_eq}
use Rattle.std.proofs.Common.{refl, sym, ap, ◌∙◌, subst, inl, inr, arith}
use Rattle.std.proofs.lemmas.Bool.{cases_Bool, and_parts}
use Rattle.std.proofs.lemmas.Str.{IsUtf8-from_ascii, is_utf8-from_IsUtf8}
use Rattle.std.proofs.lemmas.Bool.Decides.{Decides-int_eq}
use Rattle.std.proofs.Math.Bool.{or-true}
use Rattle.arrow_schema.specs.declared.spec.ArrowType.{ArrowType}
use Rattle.arrow_schema.specs.declared.spec.ArrowType.TheVariants.{Struct}
use Rattle.arrow_schema.specs.declared.spec.DictSpec.{DictSpec}
use Rattle.arrow_schema.specs.declared.spec.Encoding.TheVariants as encoding
use Rattle.arrow_schema.specs.declared.spec.FieldSpec.{FieldSpec}
use Rattle.arrow_schema.specs.declared.agreement.Use.{Use}
use Rattle.arrow_schema.specs.Types.{is_struct, is_element_type, same_type}
use Rattle.arrow_schema.specs.Trees.{sum_of, field_with, name_in, field_count, count_of, use_of, uses_in, uses_of, agrees, agrees_with, uses_agree, lacks_name, names_differ}
use Rattle.arrow_schema.specs.Readable.{is_supported, fits_dictionary, is_element, fits_children, is_readable, are_readable, IsReadable}
use Rattle.arrow_schema.specs.Branches.{Leaf, Branch, One, Under, branch_items, leaf_field, branch_field, branch_fields, lacks, are_apart, name_of_branch, items_in}
use Rattle.arrow_schema.specs.Branches.{leaf_size, branch_size, leaf_names, branch_names, is_branch_named, FitsTypes, FitsItem, IsLeaf, AreLeaves, IsBranch, AreEach, AreBranches}
use Rattle.arrow_schema.specs.Writing.{names_in, names_of, is_named, named_in, encodings_named}
use Rattle.arrow_schema.proofs.Clear.{element_is}
use Rattle.arrow_schema.proofs.FieldTrees.{names_in_is, named_in_is}
use Rattle.arrow_schema.proofs.Folds.{name_in_is, kind_in_is, dict_in_is, encoding_in_is, children_in_is, count_in_is, uses_in_is}
use Rattle.arrow_schema.proofs.Lists.{IsIn, same_type_refl}
use Rattle.arrow_schema.proofs.Found.{none_readable, readable_with}

-- ---- names
lacks_same : {A : Type 0} (field : A → FieldSpec) (name : A → List ℕ) → ((x : A) → name_in (field x) ≡ name x) → (own : List ℕ) (xs : List A) → lacks_name own (map field xs) ≡ lacks own (map name xs)
lacks_same field name is own [] = refl
lacks_same field name is own (x ∷ xs) = rw (is x, lacks_same field name is own xs) refl

differ_same : {A : Type 0} (field : A → FieldSpec) (name : A → List ℕ) → ((x : A) → name_in (field x) ≡ name x) → (xs : List A) → names_differ (map field xs) ≡ are_apart (map name xs)
unfolding names_differ are_apart
differ_same field name is [] = refl
differ_same field name is (x ∷ xs) = rw (is x, lacks_same field name is (name x) xs, differ_same field name is xs) refl

leaf_name : (l : Leaf) → name_in (leaf_field l) ≡ l.name
leaf_name l = name_in_is l.name l.kind l.dict l.encoding (branch_items l.item)

branch_name : (b : Branch) → name_in (branch_field b) ≡ name_of_branch b
branch_name (One l) = leaf_name l
branch_name (Under name leaves) = name_in_is name Struct None encoding.None (map leaf_field leaves)

-- ---- each field is readable
item_ascii : IsAscii (codes "item")
item_ascii zero = omega arith
item_ascii (suc zero) = omega arith
item_ascii (suc (suc zero)) = omega arith
item_ascii (suc (suc (suc zero))) = omega arith
item_ascii (suc (suc (suc (suc i)))) = omega arith

item_text : is_utf8 (codes "item") ≡ true
item_text = is_utf8-from_IsUtf8 (codes "item") (IsUtf8-from_ascii (codes "item") item_ascii)

element_supported : (kind : ArrowType) → is_element_type kind ≡ true → is_supported kind ≡ true
element_supported kind h = elim (element_is kind h) [ inl int ↦ ap is_supported int | inr double ↦ ap is_supported double ]

element_plain : (kind : ArrowType) → is_element_type kind ≡ true → fits_children kind [] ≡ true
element_plain kind h = elim (element_is kind h) [ inl int ↦ ap (λ (kind : ArrowType). fits_children kind []) int | inr double ↦ ap (λ (kind : ArrowType). fits_children kind []) double ]

item_readable : (depth : ℕ) (kind : ArrowType) → is_element_type kind ≡ true → is_readable (are_readable depth) (field_with (codes "item") kind None encoding.None []) ≡ true
item_readable depth kind h =
    readable_with depth (codes "item") kind None encoding.None [] item_text (element_supported kind h) refl (element_plain kind h) (none_readable depth)

one_name : (f : FieldSpec) → names_differ (f ∷ []) ≡ true
unfolding names_differ
one_name f = refl

items_readable : (depth : ℕ) (kind : ArrowType) (item : Option ArrowType) → FitsItem kind item → are_readable (suc depth) (branch_items item) ≡ true
unfolding are_readable
items_readable depth kind None h = none_readable (suc depth)
items_readable depth kind (Some item) h = rw (one_name (field_with (codes "item") item None encoding.None []), item_readable depth item h.1) refl

item_fits : (kind : ArrowType) → is_element_type kind ≡ true → is_element (field_with (codes "item") kind None encoding.None []) ≡ true
item_fits kind h =
    rw (kind_in_is (codes "item") kind None encoding.None [], dict_in_is (codes "item") kind None encoding.None [], h) refl

items_fit : (kind : ArrowType) (item : Option ArrowType) → FitsItem kind item → fits_children kind (branch_items item) ≡ true
items_fit kind None h = rw (h, or-true (is_struct kind)) refl
items_fit kind (Some item) h = rw (h.0, item_fits item h.1) refl

dict_fits : (types : ℤ → ArrowType) (kind : ArrowType) (dict : Option DictSpec) → FitsTypes types kind dict → fits_dictionary kind dict ≡ true
dict_fits types kind None h = refl
dict_fits types kind (Some dict) h = h.0

leaf_readable : (depth : ℕ) (types : ℤ → ArrowType) (l : Leaf) → IsLeaf types l → is_readable (are_readable (suc depth)) (leaf_field l) ≡ true
leaf_readable depth types l h =
    readable_with (suc depth) l.name l.kind l.dict l.encoding (branch_items l.item) h.text h.supported (dict_fits types l.kind l.dict h.dictionary)
    (items_fit l.kind l.item h.item) (items_readable depth l.kind l.item h.item)

leaves_readable : (depth : ℕ) (types : ℤ → ArrowType) (leaves : List Leaf) → AreLeaves types leaves → list_all (is_readable (are_readable (suc depth))) (map leaf_field leaves) ≡ true
leaves_readable depth types [] h = refl
leaves_readable depth types (l ∷ leaves) h = rw (leaf_readable depth types l h.0, leaves_readable depth types leaves h.1) refl

branch_readable : (types : ℤ → ArrowType) (b : Branch) → IsBranch types b → is_readable (are_readable 2) (branch_field b) ≡ true
unfolding are_readable
branch_readable types (One l) h = leaf_readable 1 types l h
branch_readable types (Under name leaves) h =
    let apart : names_differ (map leaf_field leaves) ≡ true = differ_same leaf_field (λ l. l.name) leaf_name leaves ∙ h.1 in
    let inner : are_readable 2 (map leaf_field leaves) ≡ true = rw (apart, leaves_readable 0 types leaves h.2) refl in
    readable_with 2 name Struct None encoding.None (map leaf_field leaves) h.0 refl refl refl inner

each_readable : (types : ℤ → ArrowType) (branches : List Branch) → AreEach types branches → list_all (is_readable (are_readable 2)) (branch_fields branches) ≡ true
each_readable types [] h = refl
each_readable types (b ∷ branches) h = rw (branch_readable types b h.0, each_readable types branches h.1) refl

-- ---- the count
items_count : (item : Option ArrowType) → count_of (branch_items item) ≡ items_in item
items_count None = refl
items_count (Some kind) =
    omega (arith, count_in_is (field_with (codes "item") kind None encoding.None []), ap count_of (children_in_is (codes "item") kind None encoding.None []))

leaf_count : (l : Leaf) → field_count (leaf_field l) ≡ leaf_size l
leaf_count l = omega (arith, count_in_is (leaf_field l), ap count_of (children_in_is l.name l.kind l.dict l.encoding (branch_items l.item)), items_count l.item)

leaves_count : (leaves : List Leaf) → count_of (map leaf_field leaves) ≡ sum_of (map leaf_size leaves)
leaves_count [] = refl
leaves_count (l ∷ leaves) = omega (arith, leaf_count l, leaves_count leaves)

branch_count : (b : Branch) → field_count (branch_field b) ≡ branch_size b
branch_count (One l) = leaf_count l
branch_count (Under name leaves) =
    omega (arith, count_in_is (branch_field (Under name leaves)), ap count_of (children_in_is name Struct None encoding.None (map leaf_field leaves)), leaves_count leaves)

pub branches_count : (branches : List Branch) → count_of (branch_fields branches) ≡ sum_of (map branch_size branches)
branches_count [] = refl
branches_count (b ∷ branches) = omega (arith, branch_count b, branches_count branches)

-- ---- dictionaries
abbrev pub AreTyped : (ℤ → ArrowType) → List Use → Type 0
AreTyped types [] = Unit {0}
AreTyped types (u ∷ uses) = (types u.id ≡ u.kind) × AreTyped types uses

typed_both : (types : ℤ → ArrowType) (xs ys : List Use) → AreTyped types xs → AreTyped types ys → AreTyped types (xs ++ ys)
typed_both types [] ys h g = g
typed_both types (x ∷ xs) ys h g = (h.0, typed_both types xs ys h.1 g)

typed_in : (types : ℤ → ArrowType) (uses : List Use) (u : Use) → AreTyped types uses → IsIn u uses → types u.id ≡ u.kind
typed_in types [] u h member = absurd member
typed_in types (v ∷ uses) u h (inl same) = subst (λ (w : Use). types w.id ≡ w.kind) (sym same) h.0
typed_in types (v ∷ uses) u h (inr later) = typed_in types uses u h.1 later

all_pass : {A : Type 0} (p : A → Bool) (xs : List A) → ((x : A) → IsIn x xs → p x ≡ true) → list_all p xs ≡ true
all_pass p [] h = refl
all_pass p (x ∷ xs) h = rw (h x (inl refl), all_pass p xs (λ y member. h y (inr member))) refl

typed_agrees : (types : ℤ → ArrowType) (a b : Use) → types a.id ≡ a.kind → types b.id ≡ b.kind → agrees a b ≡ true
typed_agrees types a b h g = elim (cases_Bool (int_eq a.id b.id)) [
  | inl same ↦
      let id : a.id ≡ b.id = (Decides-int_eq a.id b.id).0 same in
      let kind : a.kind ≡ b.kind = sym h ∙ ap types id ∙ g in
      rw (same, subst (λ (kind : ArrowType). same_type a.kind kind ≡ true) kind (same_type_refl a.kind)) refl
  | inr other ↦ rw other refl
]

-- where a function of the id gives the type of each use, uses agree
pub typed_agree : (types : ℤ → ArrowType) (uses : List Use) → AreTyped types uses → uses_agree uses ≡ true
unfolding uses_agree
typed_agree types uses h =
    all_pass (agrees_with uses) uses (λ a in_a. all_pass (agrees a) uses (λ b in_b. typed_agrees types a b (typed_in types uses a h in_a) (typed_in types uses b h in_b)))

own_typed : (types : ℤ → ArrowType) (kind : ArrowType) (dict : Option DictSpec) → FitsTypes types kind dict → AreTyped types (use_of kind dict)
own_typed types kind None h = tt
own_typed types kind (Some dict) h = (h.1, tt)

items_use_none : (item : Option ArrowType) → uses_of (branch_items item) ≡ []
items_use_none None = refl
items_use_none (Some kind) =
    let f = field_with (codes "item") kind None encoding.None [] in
    let none : uses_in f ≡ [] = uses_in_is f ∙ rw (dict_in_is (codes "item") kind None encoding.None [], children_in_is (codes "item") kind None encoding.None []) refl in
    rw none refl

leaf_typed : (types : ℤ → ArrowType) (l : Leaf) → IsLeaf types l → AreTyped types (uses_in (leaf_field l))
leaf_typed types l h =
    let f = leaf_field l in
    let uses : uses_in f ≡ use_of l.kind l.dict ++ [] =
    uses_in_is f ∙ rw (
      kind_in_is l.name l.kind l.dict l.encoding (branch_items l.item),
      dict_in_is l.name l.kind l.dict l.encoding (branch_items l.item),
      children_in_is l.name l.kind l.dict l.encoding (branch_items l.item),
      items_use_none l.item,
    ) refl in
    subst (AreTyped types) (sym uses) (typed_both types (use_of l.kind l.dict) [] (own_typed types l.kind l.dict h.dictionary) tt)

leaves_typed : (types : ℤ → ArrowType) (leaves : List Leaf) → AreLeaves types leaves → AreTyped types (uses_of (map leaf_field leaves))
leaves_typed types [] h = tt
leaves_typed types (l ∷ leaves) h = typed_both types (uses_in (leaf_field l)) (uses_of (map leaf_field leaves)) (leaf_typed types l h.0) (leaves_typed types leaves h.1)

branch_typed : (types : ℤ → ArrowType) (b : Branch) → IsBranch types b → AreTyped types (uses_in (branch_field b))
branch_typed types (One l) h = leaf_typed types l h
branch_typed types (Under name leaves) h =
    let f = branch_field (Under name leaves) in
    let uses : uses_in f ≡ uses_of (map leaf_field leaves) =
    uses_in_is f ∙ rw (dict_in_is name Struct None encoding.None (map leaf_field leaves), children_in_is name Struct None encoding.None (map leaf_field leaves)) refl in
    subst (AreTyped types) (sym uses) (leaves_typed types leaves h.2)

each_typed : (types : ℤ → ArrowType) (branches : List Branch) → AreEach types branches → AreTyped types (uses_of (branch_fields branches))
each_typed types [] h = tt
each_typed types (b ∷ branches) h = typed_both types (uses_in (branch_field b)) (uses_of (branch_fields branches)) (branch_typed types b h.0) (each_typed types branches h.1)

pub branches_readable : (types : ℤ → ArrowType) (branches : List Branch) → AreBranches types branches → IsReadable (branch_fields branches)
unfolding are_readable
branches_readable types branches h = record {
  count = omega (arith, branches_count branches, h.few);
  each = rw (differ_same branch_field name_of_branch branch_name branches ∙ h.apart, each_readable types branches h.each) refl;
  uses = typed_agree types (uses_of (branch_fields branches)) (each_typed types branches h.each);
}

-- ---- what they are written with
items_named : (item : Option ArrowType) → encodings_named (branch_items item) ≡ true
items_named None = refl
items_named (Some kind) =
    let f = field_with (codes "item") kind None encoding.None [] in
    let named : named_in f ≡ true =
    named_in_is f ∙ rw (encoding_in_is (codes "item") kind None encoding.None [], children_in_is (codes "item") kind None encoding.None []) refl in
    rw named refl

leaf_named : (l : Leaf) → is_named l.encoding ≡ true → named_in (leaf_field l) ≡ true
leaf_named l h =
    named_in_is (leaf_field l)
    ∙ rw (encoding_in_is l.name l.kind l.dict l.encoding (branch_items l.item), children_in_is l.name l.kind l.dict l.encoding (branch_items l.item), h, items_named l.item) refl

leaves_named : (leaves : List Leaf) → list_all (λ l. is_named l.encoding) leaves ≡ true → encodings_named (map leaf_field leaves) ≡ true
leaves_named [] h = refl
leaves_named (l ∷ leaves) h =
    let both = and_parts (is_named l.encoding) (list_all (λ l. is_named l.encoding) leaves) h in
    rw (leaf_named l both.0, leaves_named leaves both.1) refl

branch_named : (b : Branch) → is_branch_named b ≡ true → named_in (branch_field b) ≡ true
branch_named (One l) h = leaf_named l h
branch_named (Under name leaves) h =
    named_in_is (branch_field (Under name leaves))
    ∙ rw (encoding_in_is name Struct None encoding.None (map leaf_field leaves), children_in_is name Struct None encoding.None (map leaf_field leaves), leaves_named leaves h) refl

pub branches_named : (branches : List Branch) → list_all is_branch_named branches ≡ true → encodings_named (branch_fields branches) ≡ true
branches_named [] h = refl
branches_named (b ∷ branches) h =
    let both = and_parts (is_branch_named b) (list_all is_branch_named branches) h in
    rw (branch_named b both.0, branches_named branches both.1) refl

items_names : (item : Option ArrowType) → names_of (branch_items item) ≡ 4 * items_in item
items_names None = refl
items_names (Some kind) =
    let f = field_with (codes "item") kind None encoding.None [] in
    omega (arith, names_in_is f, ap length (name_in_is (codes "item") kind None encoding.None []), ap names_of (children_in_is (codes "item") kind None encoding.None []))

leaf_names_are : (l : Leaf) → names_in (leaf_field l) ≡ leaf_names l
leaf_names_are l =
    omega (arith, names_in_is (leaf_field l), ap length (leaf_name l), ap names_of (children_in_is l.name l.kind l.dict l.encoding (branch_items l.item)), items_names l.item)

leaves_names : (leaves : List Leaf) → names_of (map leaf_field leaves) ≡ sum_of (map leaf_names leaves)
leaves_names [] = refl
leaves_names (l ∷ leaves) = omega (arith, leaf_names_are l, leaves_names leaves)

branch_names_are : (b : Branch) → names_in (branch_field b) ≡ branch_names b
branch_names_are (One l) = leaf_names_are l
branch_names_are (Under name leaves) =
    omega (
      arith,
      names_in_is (branch_field (Under name leaves)),
      ap length (branch_name (Under name leaves)),
      ap names_of (children_in_is name Struct None encoding.None (map leaf_field leaves)),
      leaves_names leaves,
    )

pub branches_names : (branches : List Branch) → names_of (branch_fields branches) ≡ sum_of (map branch_names branches)
branches_names [] = refl
branches_names (b ∷ branches) = omega (arith, branch_names_are b, branches_names branches)
