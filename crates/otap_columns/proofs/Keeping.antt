-- A schema of columns, each in its form, can be read.
use Rattle.std.proofs.Common.{◌≡◌, ℕ, ◌<◌, ◌≤◌, true, false, List, [], ◌∷◌, ◌++◌, map, Option, None, Some, refl, ap, inl, inr, arith}
use Rattle.std.specs.Prelude.{ℤ, pos, negsuc, not, bytes_eq}
use Rattle.std.specs.List.{list_all, flat_map}
use Rattle.std.proofs.lemmas.Bool.{cases_Bool, and_parts, and_from, eqb-true, leb-true, false≢true}
use Rattle.arrow_schema.specs.Limits.{max_fields}
use Rattle.arrow_schema.specs.declared.spec.ArrowType.{ArrowType}
use Rattle.arrow_schema.specs.declared.spec.ArrowType.TheVariants as arrow
use Rattle.arrow_schema.specs.Types.{is_list, takes_dictionary}
use Rattle.arrow_schema.specs.Trees.{sum_of, count_of}
use Rattle.arrow_schema.specs.Readable.{is_supported, IsReadable}
use Rattle.arrow_schema.specs.Branches.{Leaf, Branch, One, Under, lacks, are_apart, name_of_branch, leaf_size, branch_size, FitsTypes, FitsItem, IsLeaf, AreLeaves, IsBranch, AreEach}
use Rattle.arrow_schema.proofs.Branched.{branches_count, branches_readable}
use Rattle.arrow_buffers.proofs.EachBelow.{all_below-at}
use Rattle.otap_cells.specs.declared.payload.Kind.{Kind}
use Rattle.otap_cells.specs.declared.profile.Base.{Base}
use Rattle.otap_cells.specs.declared.profile.Base.TheVariants as base
use Rattle.otap_cells.specs.Columns.{ColumnSpec, columns_of, column_at, width_of, place_of_path}
use Rattle.otap_columns.specs.declared.forms.ColumnForm.{ColumnForm}
use Rattle.otap_columns.specs.declared.forms.ColumnForm.TheVariants as form
use Rattle.otap_columns.specs.Known.{is_column}
use Rattle.otap_cells.specs.Groups.{Member, Group, grouped}
use Rattle.otap_cells.specs.Groups as group
use Rattle.otap_columns.specs.Schemas.{Forms, is_present, fits_form, FormsFit, id_type, arrow_type_in, item_in, dict_for, leaf_in, members_there, branches_under, branches_in, branches_for, schema_for}
use Rattle.otap_columns.proofs.Finding.{place_below}
use Rattle.otap_columns.proofs.Grouping.{under_tests, ascii_text, is_ascii, is_member, is_group, group_name, member_size, group_size, may_be_dictionary, kinds_grouped}

-- ---- types

id_supported : (f : ColumnForm) → is_supported (id_type f) ≡ true
id_supported form.Absent = refl
id_supported form.Plain = refl
id_supported form.Dict8 = refl
id_supported form.Dict16 = refl
id_supported form.Wide = refl
id_supported (form.Coded how) = refl

type_supported : (b : Base) (f : ColumnForm) → is_supported (arrow_type_in b f) ≡ true
type_supported base.U8 f = refl
type_supported base.U16 f = refl
type_supported base.U32 f = refl
type_supported base.U64 f = refl
type_supported base.I32 f = refl
type_supported base.I64 f = refl
type_supported base.Double f = refl
type_supported base.Bool f = refl
type_supported base.Utf8 f = refl
type_supported base.Binary f = refl
type_supported base.Fixed16 f = refl
type_supported base.Fixed8 f = refl
type_supported base.Timestamp f = refl
type_supported base.Duration f = refl
type_supported base.ListU64 f = refl
type_supported base.ListF64 f = refl
type_supported (base.Id wide) f = id_supported f

id_no_list : (f : ColumnForm) → is_list (id_type f) ≡ false
id_no_list form.Absent = refl
id_no_list form.Plain = refl
id_no_list form.Dict8 = refl
id_no_list form.Dict16 = refl
id_no_list form.Wide = refl
id_no_list (form.Coded how) = refl

pub type_item : (b : Base) (f : ColumnForm) → FitsItem (arrow_type_in b f) (item_in b)
type_item base.U8 f = refl
type_item base.U16 f = refl
type_item base.U32 f = refl
type_item base.U64 f = refl
type_item base.I32 f = refl
type_item base.I64 f = refl
type_item base.Double f = refl
type_item base.Bool f = refl
type_item base.Utf8 f = refl
type_item base.Binary f = refl
type_item base.Fixed16 f = refl
type_item base.Fixed8 f = refl
type_item base.Timestamp f = refl
type_item base.Duration f = refl
type_item base.ListU64 f = (refl, refl)
type_item base.ListF64 f = (refl, refl)
type_item (base.Id wide) f = id_no_list f

-- only a column of ids has a type that its form decides
id_takes : (f : ColumnForm) → takes_dictionary (id_type f) ≡ true
id_takes form.Absent = refl
id_takes form.Plain = refl
id_takes form.Dict8 = refl
id_takes form.Dict16 = refl
id_takes form.Wide = refl
id_takes (form.Coded how) = refl

type_takes : (b : Base) (f : ColumnForm) → takes_dictionary (arrow_type_in b form.Plain) ≡ true → takes_dictionary (arrow_type_in b f) ≡ true
type_takes base.U8 f is = is
type_takes base.U16 f is = is
type_takes base.U32 f is = is
type_takes base.U64 f is = is
type_takes base.I32 f is = is
type_takes base.I64 f is = is
type_takes base.Double f is = is
type_takes base.Bool f is = is
type_takes base.Utf8 f is = is
type_takes base.Binary f is = is
type_takes base.Fixed16 f is = is
type_takes base.Fixed8 f is = is
type_takes base.Timestamp f is = is
type_takes base.Duration f is = is
type_takes base.ListU64 f is = is
type_takes base.ListF64 f is = is
type_takes (base.Id wide) f is = id_takes f

pub marked_takes : (c : ColumnSpec) → c.dictionary ≡ true → may_be_dictionary c ≡ true → takes_dictionary (arrow_type_in c.base form.Plain) ≡ true
marked_takes c marked may = rw marked at may

-- a path that leads to a column
pub member_place : (column : ℕ) (found : Option ℕ) → is_column column found ≡ true → found ≡ Some column
member_place column None is = absurd (false≢true is)
member_place column (Some k) is = ap Some (eqb-true k column is)

module _ (kind : Kind) (forms : Forms) (fit : FormsFit kind forms) where
  -- the type of each dictionary, by its id
  types : ℤ → ArrowType
  types (pos column) = arrow_type_in (column_at kind column).base (forms column)
  types (negsuc n) = arrow.Double

  pub member_below : (above : List (List ℕ)) (m : Member) → is_member (columns_of kind) above m ≡ true → m.column < width_of kind
  member_below above m is =
      place_below (columns_of kind) (above ++ m.name ∷ []) m.column
      (member_place m.column (place_of_path (columns_of kind) (above ++ m.name ∷ [])) (and_parts (is_ascii m.name) (is_column m.column (place_of_path (columns_of kind) (above ++ m.name ∷ []))) is).1)

  dictionary_fits : (column : ℕ) (f : ColumnForm) → column < width_of kind → (column_at kind column).dictionary ≡ true → takes_dictionary (arrow_type_in (column_at kind column).base f) ≡ true
  dictionary_fits column f below marked =
      type_takes (column_at kind column).base f
      (marked_takes (column_at kind column) marked (all_below-at (λ (c : ℕ). may_be_dictionary (column_at kind c)) (width_of kind) column (kinds_grouped kind).dictionaries below))

  types_fit : (column : ℕ) (f : ColumnForm) → column < width_of kind → forms column ≡ f → fits_form (column_at kind column) f ≡ true
      → FitsTypes types (arrow_type_in (column_at kind column).base f) (dict_for column f)
  unfolding types
  types_fit column form.Absent below is fits = tt
  types_fit column form.Plain below is fits = tt
  types_fit column form.Dict8 below is fits = (dictionary_fits column form.Dict8 below fits, ap (arrow_type_in (column_at kind column).base) is)
  types_fit column form.Dict16 below is fits = (dictionary_fits column form.Dict16 below fits, ap (arrow_type_in (column_at kind column).base) is)
  types_fit column form.Wide below is fits = tt
  types_fit column (form.Coded how) below is fits = tt

  member_leaf : (above : List (List ℕ)) (m : Member) → is_member (columns_of kind) above m ≡ true → IsLeaf types (leaf_in kind forms m)
  member_leaf above m is =
      let below = member_below above m is in
      record {
        text = ascii_text m.name (and_parts (is_ascii m.name) (is_column m.column (place_of_path (columns_of kind) (above ++ m.name ∷ []))) is).0;
        supported = type_supported (column_at kind m.column).base (forms m.column);
        dictionary = types_fit m.column (forms m.column) below refl (fit m.column below);
        item = type_item (column_at kind m.column).base (forms m.column);
      }

  -- ---- the columns that are there, of some

  leaves_of : List Member → List Leaf
  leaves_of members = map (leaf_in kind forms) (members_there forms members)

  members_leaves : (above : List (List ℕ)) (members : List Member) → list_all (is_member (columns_of kind) above) members ≡ true → AreLeaves types (leaves_of members)
  unfolding leaves_of
  members_leaves above [] all = tt
  members_leaves above (m ∷ members) all =
      let parts = and_parts (is_member (columns_of kind) above m) (list_all (is_member (columns_of kind) above) members) all in
      let rest = members_leaves above members parts.1 in
      elim (cases_Bool (is_present (forms m.column))) [
        | inl there ↦ rw there (member_leaf above m parts.0, rest)
        | inr gone ↦ rw gone rest
      ]

  leaves_lack : (own : List ℕ) (members : List Member) → lacks own (map (λ (m : Member). m.name) members) ≡ true → lacks own (map (λ (l : Leaf). l.name) (leaves_of members)) ≡ true
  unfolding leaves_of
  leaves_lack own [] is = refl
  leaves_lack own (m ∷ members) is =
      let parts = and_parts (not (bytes_eq own m.name)) (lacks own (map (λ (m : Member). m.name) members)) is in
      let rest = leaves_lack own members parts.1 in
      elim (cases_Bool (is_present (forms m.column))) [
        | inl there ↦ rw there (and_from (not (bytes_eq own m.name)) (lacks own (map (λ (l : Leaf). l.name) (leaves_of members))) parts.0 rest)
        | inr gone ↦ rw gone rest
      ]

  leaves_apart : (members : List Member) → are_apart (map (λ (m : Member). m.name) members) ≡ true → are_apart (map (λ (l : Leaf). l.name) (leaves_of members)) ≡ true
  unfolding leaves_of are_apart
  leaves_apart [] is = refl
  leaves_apart (m ∷ members) is =
      let parts = and_parts (lacks m.name (map (λ (m : Member). m.name) members)) (are_apart (map (λ (m : Member). m.name) members)) is in
      let rest = leaves_apart members parts.1 in
      elim (cases_Bool (is_present (forms m.column))) [
        | inl there ↦
            rw there (and_from (lacks m.name (map (λ (l : Leaf). l.name) (leaves_of members))) (are_apart (map (λ (l : Leaf). l.name) (leaves_of members))) (leaves_lack m.name members parts.0) rest)
        | inr gone ↦ rw gone rest
      ]

  leaves_few : (members : List Member) → sum_of (map leaf_size (leaves_of members)) ≤ sum_of (map (member_size (columns_of kind)) members)
  unfolding leaves_of
  leaves_few [] = omega arith
  leaves_few (m ∷ members) =
      let rest : sum_of (map leaf_size (leaves_of members)) ≤ sum_of (map (member_size (columns_of kind)) members) = leaves_few members in
      elim (cases_Bool (is_present (forms m.column))) [
        | inl there ↦ rw there (omega (arith, rest))
        | inr gone ↦ rw gone (omega (arith, rest))
      ]

  -- ---- what stays of a group

  data IsKept (g : Group) (branches : List Branch) : Type 0 where
    gone : branches ≡ [] → IsKept g branches
    stays : (b : Branch) → branches ≡ b ∷ [] → name_of_branch b ≡ group_name g → branch_size b ≤ group_size (columns_of kind) g → IsBranch types b → IsKept g branches

  under_kept : (struct : List ℕ) (members there : List Member) → is_ascii struct ≡ true → AreLeaves types (map (leaf_in kind forms) there)
      → are_apart (map (λ (l : Leaf). l.name) (map (leaf_in kind forms) there)) ≡ true → sum_of (map leaf_size (map (leaf_in kind forms) there)) ≤ sum_of (map (member_size (columns_of kind)) members)
      → IsKept (group.Under struct members) (branches_under kind forms struct there)
  under_kept struct members [] text leaves apart few = gone refl
  under_kept struct members (m ∷ there) text leaves apart few =
      stays (Under struct (map (leaf_in kind forms) (m ∷ there))) refl refl (omega (arith, few)) (ascii_text struct text, apart, leaves)

  group_kept : (g : Group) → is_group (columns_of kind) g ≡ true → IsKept g (branches_in kind forms g)
  unfolding leaves_of
  group_kept (group.Alone m) is =
      elim (cases_Bool (is_present (forms m.column))) [
        | inl there ↦ stays (One (leaf_in kind forms m)) (rw there refl) refl (omega arith) (member_leaf [] m is)
        | inr none ↦ gone (rw none refl)
      ]
  group_kept (group.Under struct members) is =
      let tests = under_tests (columns_of kind) struct members is in
      under_kept struct members (members_there forms members) tests.text (members_leaves (struct ∷ []) members tests.each) (leaves_apart members tests.apart) (leaves_few members)

  -- ---- all groups

  kept_of : List Group → List Branch
  kept_of groups = flat_map (branches_in kind forms) groups

  kept_lack : (own : List ℕ) (groups : List Group) → list_all (is_group (columns_of kind)) groups ≡ true → lacks own (map group_name groups) ≡ true → lacks own (map name_of_branch (kept_of groups)) ≡ true
  unfolding kept_of
  kept_lack own [] all is = refl
  kept_lack own (g ∷ groups) all is =
      let tests = and_parts (is_group (columns_of kind) g) (list_all (is_group (columns_of kind)) groups) all in
      let parts = and_parts (not (bytes_eq own (group_name g))) (lacks own (map group_name groups)) is in
      let rest = kept_lack own groups tests.1 parts.1 in
      elim (group_kept g tests.0) [
        | gone none ↦ rw none rest
        | stays b one name size fine ↦ rw (one, name) (and_from (not (bytes_eq own (group_name g))) (lacks own (map name_of_branch (kept_of groups))) parts.0 rest)
      ]

  kept_apart : (groups : List Group) → list_all (is_group (columns_of kind)) groups ≡ true → are_apart (map group_name groups) ≡ true → are_apart (map name_of_branch (kept_of groups)) ≡ true
  unfolding kept_of are_apart
  kept_apart [] all is = refl
  kept_apart (g ∷ groups) all is =
      let tests = and_parts (is_group (columns_of kind) g) (list_all (is_group (columns_of kind)) groups) all in
      let parts = and_parts (lacks (group_name g) (map group_name groups)) (are_apart (map group_name groups)) is in
      let rest = kept_apart groups tests.1 parts.1 in
      elim (group_kept g tests.0) [
        | gone none ↦ rw none rest
        | stays b one name size fine ↦
            rw (one, name) (and_from (lacks (group_name g) (map name_of_branch (kept_of groups))) (are_apart (map name_of_branch (kept_of groups))) (kept_lack (group_name g) groups tests.1 parts.0) rest)
      ]

  kept_each : (groups : List Group) → list_all (is_group (columns_of kind)) groups ≡ true → AreEach types (kept_of groups)
  unfolding kept_of
  kept_each [] all = tt
  kept_each (g ∷ groups) all =
      let tests = and_parts (is_group (columns_of kind) g) (list_all (is_group (columns_of kind)) groups) all in
      let rest = kept_each groups tests.1 in
      elim (group_kept g tests.0) [
        | gone none ↦ rw none rest
        | stays b one name size fine ↦ rw one (fine, rest)
      ]

  kept_few : (groups : List Group) → list_all (is_group (columns_of kind)) groups ≡ true → sum_of (map branch_size (kept_of groups)) ≤ sum_of (map (group_size (columns_of kind)) groups)
  unfolding kept_of
  kept_few [] all = omega arith
  kept_few (g ∷ groups) all =
      let tests = and_parts (is_group (columns_of kind) g) (list_all (is_group (columns_of kind)) groups) all in
      let rest : sum_of (map branch_size (kept_of groups)) ≤ sum_of (map (group_size (columns_of kind)) groups) = kept_few groups tests.1 in
      elim (group_kept g tests.0) [
        | gone none ↦ rw none (omega (arith, rest))
        | stays b one name size fine ↦ rw one (omega (arith, rest, size))
      ]

  -- how many fields it has at most
  pub fields_few : count_of (schema_for kind forms) ≤ sum_of (map (group_size (columns_of kind)) (grouped (columns_of kind)))
  unfolding schema_for branches_for kept_of
  fields_few = omega (arith, branches_count (kept_of (grouped (columns_of kind))), kept_few (grouped (columns_of kind)) (kinds_grouped kind).each)

  -- THE SCHEMA CAN BE READ
  pub schema_readable : IsReadable (schema_for kind forms)
  unfolding schema_for branches_for kept_of
  schema_readable =
      let g = kinds_grouped kind in
      let groups = grouped (columns_of kind) in
      let few : sum_of (map (group_size (columns_of kind)) groups) ≤ max_fields = leb-true (sum_of (map (group_size (columns_of kind)) groups)) max_fields g.few in
      branches_readable types (kept_of groups) (record {
        apart = kept_apart groups g.each g.apart;
        each = kept_each groups g.each;
        few = omega (arith, few, kept_few groups g.each);
      })
