-- The arrays of the schema of columns: what each of them is.
use Rattle.std.proofs.Common.{◌≡◌, ℕ, Bool, true, false, List, [], ◌∷◌, ◌++◌, map, Option, None, Some, refl, sym, ap, ◌∙◌, subst, inl, inr}
use Rattle.std.specs.Prelude.{codes}
use Rattle.std.specs.List.{list_all, flat_map}
use Rattle.std.specs.Option.{is_none}
use Rattle.std.proofs.lemmas.Bool.{cases_Bool, and_parts, false≢true}
use Rattle.std.proofs.lemmas.Grind.{flat_map-append}
use Rattle.std.proofs.lemmas.List.{append-nil, map-append, append_assoc}
use Rattle.arrow_schema.specs.declared.spec.ArrowType.{ArrowType}
use Rattle.arrow_schema.specs.declared.spec.ArrowType.TheVariants as arrow
use Rattle.arrow_schema.specs.declared.spec.DictSpec.{DictSpec}
use Rattle.arrow_schema.specs.declared.spec.Encoding.{Encoding}
use Rattle.arrow_schema.specs.declared.spec.Encoding.TheVariants as encoding
use Rattle.arrow_schema.specs.declared.spec.FieldSpec.{FieldSpec}
use Rattle.arrow_schema.specs.Types.{is_list}
use Rattle.arrow_schema.specs.Trees.{field_with}
use Rattle.arrow_schema.specs.Branches.{Leaf, branch_items, leaf_field, branch_field, FitsItem}
use Rattle.arrow_schema.proofs.Folds.{name_in_is, kind_in_is, dict_in_is, encoding_in_is, children_in_is}
use Rattle.arrow_arrays.specs.Fields.{FieldIn, depth_first_in, depth_first, path_in, path_under, paths_in, paths_below}
use Rattle.arrow_arrays.proofs.Walked.{own_field, depth_first_is}
use Rattle.arrow_arrays.proofs.PathsWalked.{paths_in_is}
use Rattle.otap_cells.specs.declared.payload.Kind.{Kind}
use Rattle.otap_cells.specs.Columns.{columns_of, column_at, place_of_path}
use Rattle.otap_columns.specs.Known.{is_column}
use Rattle.otap_cells.specs.Groups.{Member, Group, grouped}
use Rattle.otap_cells.specs.Groups as group
use Rattle.otap_columns.specs.Schemas.{Forms, is_present, item_in, leaf_in, members_there, branches_under, branches_in, branches_for, schema_for, ArraySlot, Struct, Column, Items, items_after}
use Rattle.otap_columns.specs.Schemas.{slots_of_member, slots_under, slots_in, slots_for, item_type, slot_field, slot_column, is_items}
use Rattle.otap_columns.proofs.Grouping.{under_tests, is_ascii, is_member, is_group, kinds_grouped}
use Rattle.otap_columns.proofs.Keeping.{type_item, member_place}

-- ---- fields that are given by their parts

flat_with : (name : List ℕ) (type : ArrowType) (dict : Option DictSpec) (named : Encoding) (children : List FieldSpec)
    → depth_first_in (field_with name type dict named children) ≡ record { name = name; kind = type; dict = dict; encoding = named } ∷ depth_first children
unfolding own_field
flat_with name type dict named children =
    depth_first_is (field_with name type dict named children)
    ∙ (λ i. record {
      name = name_in_is name type dict named children i;
      kind = kind_in_is name type dict named children i;
      dict = dict_in_is name type dict named children i;
      encoding = encoding_in_is name type dict named children i;
    } ∷ depth_first (children_in_is name type dict named children i))

paths_with : (name : List ℕ) (type : ArrowType) (dict : Option DictSpec) (named : Encoding) (children : List FieldSpec) (path : Option (List (List ℕ)))
    → paths_in (field_with name type dict named children) path ≡ path_in path name ∷ paths_below children (path_under type (path_in path name))
paths_with name type dict named children path =
    paths_in_is (field_with name type dict named children) path
    ∙ (λ i. path_in path (name_in_is name type dict named children i)
    ∷ paths_below (children_in_is name type dict named children i) (path_under (kind_in_is name type dict named children i) (path_in path (name_in_is name type dict named children i))))

paths-append : (xs ys : List FieldSpec) (above : Option (List (List ℕ))) → paths_below (xs ++ ys) above ≡ paths_below xs above ++ paths_below ys above
paths-append [] ys above = refl
paths-append (x ∷ xs) ys above =
    ap (λ (paths : List (List (List ℕ))). paths_in x above ++ paths) (paths-append xs ys above) ∙ sym (append_assoc (paths_in x above) (paths_below xs above) (paths_below ys above))

-- the fields and paths of a column
item_fields : Option ArrowType → List FieldIn
item_fields None = []
item_fields (Some type) = record { name = codes "item"; kind = type; dict = None; encoding = encoding.None } ∷ []

item_paths : Option ArrowType → List (List (List ℕ))
item_paths None = []
item_paths (Some type) = [] ∷ []

items_flat : (item : Option ArrowType) → depth_first (branch_items item) ≡ item_fields item
unfolding item_fields
items_flat None = refl
items_flat (Some type) = append-nil (depth_first_in (field_with (codes "item") type None encoding.None [])) ∙ flat_with (codes "item") type None encoding.None []

leaf_flat : (l : Leaf) → depth_first (leaf_field l ∷ []) ≡ record { name = l.name; kind = l.kind; dict = l.dict; encoding = l.encoding } ∷ item_fields l.item
leaf_flat l =
    append-nil (depth_first_in (leaf_field l)) ∙ flat_with l.name l.kind l.dict l.encoding (branch_items l.item)
    ∙ ap (λ (fields : List FieldIn). record { name = l.name; kind = l.kind; dict = l.dict; encoding = l.encoding } ∷ fields) (items_flat l.item)

under_list : (type : ArrowType) (path : List (List ℕ)) → is_list type ≡ true → path_under type path ≡ None
under_list arrow.List path is = refl
under_list other path is = absurd (false≢true is)

items_paths : (type : ArrowType) (item : Option ArrowType) (path : List (List ℕ)) → FitsItem type item → paths_below (branch_items item) (path_under type path) ≡ item_paths item
unfolding item_paths
items_paths type None path fits = refl
items_paths type (Some own) path fits =
    ap (paths_below (branch_items (Some own))) (under_list type path fits.0)
    ∙ append-nil (paths_in (field_with (codes "item") own None encoding.None []) None) ∙ paths_with (codes "item") own None encoding.None [] None

leaf_paths : (l : Leaf) (above : List (List ℕ)) → FitsItem l.kind l.item → paths_below (leaf_field l ∷ []) (Some above) ≡ (above ++ l.name ∷ []) ∷ item_paths l.item
leaf_paths l above fits =
    append-nil (paths_in (leaf_field l) (Some above)) ∙ paths_with l.name l.kind l.dict l.encoding (branch_items l.item) (Some above)
    ∙ ap (λ (paths : List (List (List ℕ))). (above ++ l.name ∷ []) ∷ paths) (items_paths l.kind l.item (above ++ l.name ∷ []) fits)

-- ---- what the path of an array says of it

unfoldable pub is_empty : List (List ℕ) → Bool
is_empty [] = true
is_empty (name ∷ names) = false

pub not_empty : (above : List (List ℕ)) (name : List ℕ) → is_empty (above ++ name ∷ []) ≡ false
unfolding is_empty
not_empty [] name = refl
not_empty (first ∷ above) name = refl

none_place : (found : Option ℕ) → is_none found ≡ true → found ≡ None
none_place None is = refl
none_place (Some place) is = absurd (false≢true is)

module _ (kind : Kind) (forms : Forms) where
  unfoldable pub fact_of : List (List ℕ) → Option ℕ × Bool
  fact_of path = (place_of_path (columns_of kind) path, is_empty path)

  unfoldable pub slot_fact : ArraySlot → Option ℕ × Bool
  slot_fact s = (slot_column s, is_items s)

  -- the elements of a list come after it
  unfoldable pub FollowsItem : Option ArrowType → ℕ → List ArraySlot → Type 0
  FollowsItem None column slots = Unit {0}
  FollowsItem (Some item) column slots = (more : List ArraySlot) × (slots ≡ Items column ∷ more)

  unfoldable pub HasItems : ArraySlot → List ArraySlot → Type 0
  HasItems (Struct name) slots = Unit {0}
  HasItems (Column m) slots = FollowsItem (item_in (column_at kind m.column).base) m.column slots
  HasItems (Items column) slots = Unit {0}

  unfoldable pub Follow : List ArraySlot → Type 0
  Follow [] = Unit {0}
  Follow (s ∷ slots) = HasItems s slots × Follow slots

  item_on : (item : Option ArrowType) (column : ℕ) (xs ys : List ArraySlot) → FollowsItem item column xs → FollowsItem item column (xs ++ ys)
  unfolding FollowsItem
  item_on None column xs ys h = tt
  item_on (Some item) column xs ys h = (h.0 ++ ys, ap (λ (zs : List ArraySlot). zs ++ ys) h.1)

  has_on : (s : ArraySlot) (xs ys : List ArraySlot) → HasItems s xs → HasItems s (xs ++ ys)
  unfolding HasItems
  has_on (Struct name) xs ys h = tt
  has_on (Column m) xs ys h = item_on (item_in (column_at kind m.column).base) m.column xs ys h
  has_on (Items column) xs ys h = tt

  follow-append : (xs ys : List ArraySlot) → Follow xs → Follow ys → Follow (xs ++ ys)
  unfolding Follow
  follow-append [] ys h later = later
  follow-append (s ∷ xs) ys h later = (has_on s xs ys h.0, follow-append xs ys h.1 later)

  -- fields, and what the arrays of each of them are
  pub record AreSlots (above : Option (List (List ℕ))) (fields : List FieldSpec) (slots : List ArraySlot) : Type 0 where
    pub flat : depth_first fields ≡ map (slot_field kind forms) slots
    pub facts : map fact_of (paths_below fields above) ≡ map slot_fact slots
    pub follow : Follow slots

  slots_none : (above : Option (List (List ℕ))) → AreSlots above [] []
  unfolding Follow
  slots_none above = record { flat = refl; facts = refl; follow = tt }

  slots-append : (above : Option (List (List ℕ))) (f g : List FieldSpec) (s t : List ArraySlot) → AreSlots above f s → AreSlots above g t → AreSlots above (f ++ g) (s ++ t)
  slots-append above f g s t one two = record {
    flat = flat_map-append depth_first_in f g ∙ (λ i. one.flat i ++ two.flat i) ∙ sym (map-append (slot_field kind forms) s t);
    facts = ap (map fact_of) (paths-append f g above) ∙ map-append fact_of (paths_below f above) (paths_below g above) ∙ (λ i. one.facts i ++ two.facts i) ∙ sym (map-append slot_fact s t);
    follow = follow-append s t one.follow two.follow;
  }

  -- a column
  item_slots : (column : ℕ) (item : Option ArrowType) → item_in (column_at kind column).base ≡ item → map (slot_field kind forms) (items_after item column) ≡ item_fields item
  unfolding item_fields
  item_slots column None is = refl
  item_slots column (Some type) is = λ i. record { name = codes "item"; kind = item_type (is i); dict = None; encoding = encoding.None } ∷ []

  item_facts : (column : ℕ) (item : Option ArrowType) → place_of_path (columns_of kind) [] ≡ None → map fact_of (item_paths item) ≡ map slot_fact (items_after item column)
  unfolding item_paths fact_of slot_fact is_empty
  item_facts column None root = refl
  item_facts column (Some type) root = λ i. (root i, true) ∷ []

  item_follows : (item : Option ArrowType) (column : ℕ) → FollowsItem item column (items_after item column)
  unfolding FollowsItem
  item_follows None column = tt
  item_follows (Some type) column = ([], refl)

  items_alone : (item : Option ArrowType) (column : ℕ) → Follow (items_after item column)
  unfolding Follow HasItems
  items_alone None column = tt
  items_alone (Some type) column = (tt, tt)

  member_slots : (above : List (List ℕ)) (m : Member) → is_member (columns_of kind) above m ≡ true → AreSlots (Some above) (leaf_field (leaf_in kind forms m) ∷ []) (slots_of_member kind m)
  unfolding Follow HasItems fact_of slot_fact
  member_slots above m is =
      let item = item_in (column_at kind m.column).base in
      let l = leaf_in kind forms m in
      let path = above ++ m.name ∷ [] in
      let found = place_of_path (columns_of kind) path in
      let place : found ≡ Some m.column = member_place m.column found (and_parts (is_ascii m.name) (is_column m.column found) is).1 in
      let fields : item_fields item ≡ map (slot_field kind forms) (items_after item m.column) = sym (item_slots m.column item refl) in
      let facts : map fact_of (item_paths item) ≡ map slot_fact (items_after item m.column) = item_facts m.column item (kinds_grouped kind).root in
      record {
        flat = leaf_flat l ∙ ap (λ (fs : List FieldIn). record { name = l.name; kind = l.kind; dict = l.dict; encoding = l.encoding } ∷ fs) fields;
        facts = ap (map fact_of) (leaf_paths l above (type_item (column_at kind m.column).base (forms m.column))) ∙ (λ i. (place i, not_empty above m.name i) ∷ facts i);
        follow = (item_follows item m.column, items_alone item m.column);
      }

  -- columns below a path
  members_slots : (above : List (List ℕ)) (members : List Member) → list_all (is_member (columns_of kind) above) members ≡ true
      → AreSlots (Some above) (map leaf_field (map (leaf_in kind forms) (members_there forms members))) (flat_map (slots_of_member kind) (members_there forms members))
  members_slots above [] all = slots_none (Some above)
  members_slots above (m ∷ members) all =
      let parts = and_parts (is_member (columns_of kind) above m) (list_all (is_member (columns_of kind) above) members) all in
      let rest = members_slots above members parts.1 in
      elim (cases_Bool (is_present (forms m.column))) [
        | inl there ↦
            rw there
            (slots-append (Some above) (leaf_field (leaf_in kind forms m) ∷ []) (map leaf_field (map (leaf_in kind forms) (members_there forms members))) (slots_of_member kind m)
            (flat_map (slots_of_member kind) (members_there forms members)) (member_slots above m parts.0) rest)
        | inr gone ↦ rw gone rest
      ]

  -- a struct
  struct_slots : (struct : List ℕ) (leaves : List FieldSpec) (slots : List ArraySlot) → place_of_path (columns_of kind) (struct ∷ []) ≡ None → AreSlots (Some (struct ∷ [])) leaves slots
      → AreSlots (Some []) (field_with struct arrow.Struct None encoding.None leaves ∷ []) (Struct struct ∷ slots)
  unfolding Follow HasItems fact_of slot_fact is_empty
  struct_slots struct leaves slots none below = record {
    flat = append-nil (depth_first_in (field_with struct arrow.Struct None encoding.None leaves)) ∙ flat_with struct arrow.Struct None encoding.None leaves
        ∙ ap (λ (fs : List FieldIn). record { name = struct; kind = arrow.Struct; dict = None; encoding = encoding.None } ∷ fs) below.flat;
    facts = ap (map fact_of) (append-nil (paths_in (field_with struct arrow.Struct None encoding.None leaves) (Some [])) ∙ paths_with struct arrow.Struct None encoding.None leaves (Some []))
        ∙ (λ i. (none i, false) ∷ below.facts i);
    follow = (tt, below.follow);
  }

  under_slots : (struct : List ℕ) (there : List Member) → place_of_path (columns_of kind) (struct ∷ []) ≡ None
      → AreSlots (Some (struct ∷ [])) (map leaf_field (map (leaf_in kind forms) there)) (flat_map (slots_of_member kind) there)
      → AreSlots (Some []) (map branch_field (branches_under kind forms struct there)) (slots_under kind struct there)
  under_slots struct [] none below = slots_none (Some [])
  under_slots struct (m ∷ there) none below =
      struct_slots struct (map leaf_field (map (leaf_in kind forms) (m ∷ there))) (flat_map (slots_of_member kind) (m ∷ there)) none below

  group_slots : (g : Group) → is_group (columns_of kind) g ≡ true → AreSlots (Some []) (map branch_field (branches_in kind forms g)) (slots_in kind forms g)
  group_slots (group.Alone m) is =
      elim (cases_Bool (is_present (forms m.column))) [
        | inl there ↦ rw there (slots-append (Some []) (leaf_field (leaf_in kind forms m) ∷ []) [] (slots_of_member kind m) [] (member_slots [] m is) (slots_none (Some [])))
        | inr gone ↦ rw gone (slots_none (Some []))
      ]
  group_slots (group.Under struct members) is =
      let tests = under_tests (columns_of kind) struct members is in
      under_slots struct (members_there forms members) (none_place (place_of_path (columns_of kind) (struct ∷ [])) tests.none) (members_slots (struct ∷ []) members tests.each)

  groups_slots : (groups : List Group) → list_all (is_group (columns_of kind)) groups ≡ true
      → AreSlots (Some []) (map branch_field (flat_map (branches_in kind forms) groups)) (flat_map (slots_in kind forms) groups)
  groups_slots [] all = slots_none (Some [])
  groups_slots (g ∷ groups) all =
      let tests = and_parts (is_group (columns_of kind) g) (list_all (is_group (columns_of kind)) groups) all in
      let later = flat_map (branches_in kind forms) groups in
      subst (λ (fs : List FieldSpec). AreSlots (Some []) fs (flat_map (slots_in kind forms) (g ∷ groups))) (sym (map-append branch_field (branches_in kind forms g) later))
      (slots-append (Some []) (map branch_field (branches_in kind forms g)) (map branch_field later) (slots_in kind forms g) (flat_map (slots_in kind forms) groups) (group_slots g tests.0) (groups_slots groups tests.1))

  -- THE ARRAYS of the schema are its slots
  pub schema_slots : AreSlots (Some []) (schema_for kind forms) (slots_for kind forms)
  unfolding schema_for branches_for slots_for
  schema_slots = groups_slots (grouped (columns_of kind)) (kinds_grouped kind).each
