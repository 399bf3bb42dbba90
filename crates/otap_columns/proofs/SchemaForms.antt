-- A schema says the forms of its columns, and they make it.
use Rattle.std.proofs.Common.{◌≡◌, ℕ, ◌<◌, Bool, true, false, List, [], ◌∷◌, ◌++◌, map, Option, None, Some, refl, sym, ap, ◌∙◌, inl, inr, arith}
use Rattle.std.specs.Prelude.{slice_get, if◌then◌else◌}
use Rattle.std.specs.List.{list_all, flat_map}
use Rattle.std.proofs.lemmas.Bool.{cases_Bool, and_parts, false≢true, true≢false}
use Rattle.std.proofs.lemmas.Option.{same_Some}
use Rattle.arrow_schema.specs.declared.spec.ArrowType.{ArrowType}
use Rattle.arrow_schema.specs.declared.spec.ArrowType.TheVariants as arrow
use Rattle.arrow_schema.specs.declared.spec.DictSpec.{DictSpec}
use Rattle.arrow_schema.specs.declared.spec.Encoding.TheVariants as encoding
use Rattle.arrow_schema.specs.declared.spec.FieldSpec.{FieldSpec}
use Rattle.arrow_schema.specs.Branches.{One, Under, branch_fields}
use Rattle.arrow_arrays.specs.declared.spec.ArraySpec.{ArraySpec}
use Rattle.arrow_arrays.specs.Arrays.{arrays_of}
use Rattle.otap_cells.specs.declared.payload.Kind.{Kind}
use Rattle.otap_cells.specs.declared.profile.Base.{Base}
use Rattle.otap_cells.specs.declared.profile.Base.TheVariants as base
use Rattle.otap_cells.specs.declared.profile.Coding.{Coding}
use Rattle.otap_cells.specs.declared.profile.Coding.TheVariants as coding
use Rattle.otap_cells.specs.Bases.{is_id}
use Rattle.otap_cells.specs.Columns.{ColumnSpec, columns_of, column_at, width_of}
use Rattle.otap_columns.specs.declared.forms.ColumnForm.{ColumnForm}
use Rattle.otap_columns.specs.declared.forms.ColumnForm.TheVariants as form
use Rattle.otap_columns.specs.Known.{place_at}
use Rattle.otap_cells.specs.Groups.{Member, Group, grouped}
use Rattle.otap_cells.specs.Groups as group
use Rattle.otap_columns.specs.Schemas.{Forms, is_present, fits_form, FormsFit, arrow_type_in, item_in, dict_for, encoding_of, encoding_for, leaf_in, members_there, branches_under, branches_in, branches_for, schema_for, IsFound}
use Rattle.otap_columns.proofs.Grouping.{under_tests, is_member, is_group, kinds_grouped}
use Rattle.otap_columns.proofs.Keeping.{member_below}
use Rattle.otap_columns.proofs.Located.{column_absent, column_found}

-- ---- a field says the form of its column

bits_in : ArrowType → ℕ
bits_in (arrow.Int bits signed) = bits
bits_in other = 0

plain_wide : (b : Base) → is_id b ≡ true → arrow_type_in b form.Plain ≡ arrow_type_in b form.Wide → ⊥
unfolding bits_in
plain_wide (base.Id wide) is same = let e : 16 ≡ 32 = ap bits_in same in absurd (omega (arith, e))
plain_wide other is same = absurd (false≢true is)

is_wide : Option DictSpec → Bool
is_wide None = false
is_wide (Some dict) = dict.wide

absent_is : (f : ColumnForm) → is_present f ≡ false → f ≡ form.Absent
absent_is form.Absent is = refl
absent_is other is = absurd (true≢false is)

-- the encodings of codings differ, and each is one
codings_told : (a b : Coding) → encoding_of a ≡ encoding_of b → a ≡ b
codings_told coding.Plain coding.Plain same = refl
codings_told coding.Plain coding.Delta same = absurd (cc (same))
codings_told coding.Plain coding.Run same = absurd (cc (same))
codings_told coding.Delta coding.Plain same = absurd (cc (same))
codings_told coding.Delta coding.Delta same = refl
codings_told coding.Delta coding.Run same = absurd (cc (same))
codings_told coding.Run coding.Plain same = absurd (cc (same))
codings_told coding.Run coding.Delta same = absurd (cc (same))
codings_told coding.Run coding.Run same = refl

names_one : (a : Coding) → encoding.None ≡ encoding_of a → ⊥
names_one coding.Plain same = cc (same)
names_one coding.Delta same = cc (same)
names_one coding.Run same = cc (same)

same_form : (c : ColumnSpec) (column : ℕ) (f g : ColumnForm) → is_present f ≡ true → is_present g ≡ true → fits_form c f ≡ true → fits_form c g ≡ true → arrow_type_in c.base f ≡ arrow_type_in c.base g
    → dict_for column f ≡ dict_for column g → encoding_for f ≡ encoding_for g → f ≡ g
unfolding is_wide
same_form c column form.Absent g there other fits also type dict named = absurd (false≢true there)
same_form c column form.Plain form.Absent there other fits also type dict named = absurd (false≢true other)
same_form c column form.Plain form.Plain there other fits also type dict named = refl
same_form c column form.Plain form.Dict8 there other fits also type dict named = absurd (cc (dict))
same_form c column form.Plain form.Dict16 there other fits also type dict named = absurd (cc (dict))
same_form c column form.Plain form.Wide there other fits also type dict named = absurd (plain_wide c.base also type)
same_form c column form.Plain (form.Coded b) there other fits also type dict named = absurd (names_one b named)
same_form c column form.Dict8 form.Absent there other fits also type dict named = absurd (false≢true other)
same_form c column form.Dict8 form.Plain there other fits also type dict named = absurd (cc (dict))
same_form c column form.Dict8 form.Dict8 there other fits also type dict named = refl
same_form c column form.Dict8 form.Dict16 there other fits also type dict named = absurd (false≢true (ap is_wide dict))
same_form c column form.Dict8 form.Wide there other fits also type dict named = absurd (cc (dict))
same_form c column form.Dict8 (form.Coded b) there other fits also type dict named = absurd (names_one b named)
same_form c column form.Dict16 form.Absent there other fits also type dict named = absurd (false≢true other)
same_form c column form.Dict16 form.Plain there other fits also type dict named = absurd (cc (dict))
same_form c column form.Dict16 form.Dict8 there other fits also type dict named = absurd (true≢false (ap is_wide dict))
same_form c column form.Dict16 form.Dict16 there other fits also type dict named = refl
same_form c column form.Dict16 form.Wide there other fits also type dict named = absurd (cc (dict))
same_form c column form.Dict16 (form.Coded b) there other fits also type dict named = absurd (names_one b named)
same_form c column form.Wide form.Absent there other fits also type dict named = absurd (false≢true other)
same_form c column form.Wide form.Plain there other fits also type dict named = absurd (plain_wide c.base fits (sym type))
same_form c column form.Wide form.Dict8 there other fits also type dict named = absurd (cc (dict))
same_form c column form.Wide form.Dict16 there other fits also type dict named = absurd (cc (dict))
same_form c column form.Wide form.Wide there other fits also type dict named = refl
same_form c column form.Wide (form.Coded b) there other fits also type dict named = absurd (names_one b named)
same_form c column (form.Coded a) form.Absent there other fits also type dict named = absurd (false≢true other)
same_form c column (form.Coded a) form.Plain there other fits also type dict named = absurd (names_one a (sym named))
same_form c column (form.Coded a) form.Dict8 there other fits also type dict named = absurd (names_one a (sym named))
same_form c column (form.Coded a) form.Dict16 there other fits also type dict named = absurd (names_one a (sym named))
same_form c column (form.Coded a) form.Wide there other fits also type dict named = absurd (names_one a (sym named))
same_form c column (form.Coded a) (form.Coded b) there other fits also type dict named = ap form.Coded (codings_told a b named)

module _ (kind : Kind) (f g : Forms) (fit : FormsFit kind f) (also : FormsFit kind g) where
  -- EQUAL SCHEMAS HAVE EQUAL FORMS
  both_there : (column : ℕ) → column < width_of kind → schema_for kind f ≡ schema_for kind g → IsFound kind f column → IsFound kind g column
      → is_present (f column) ≡ true → is_present (g column) ≡ true → f column ≡ g column
  both_there column below same one two there other =
      let e : arrays_of (schema_for kind f) ≡ arrays_of (schema_for kind g) = ap arrays_of same in
      let place : one.place ≡ two.place = same_Some one.place two.place (sym one.found ∙ ap (λ (arrays : List ArraySpec). place_at kind arrays column) e ∙ two.found) in
      let array : one.array ≡ two.array = same_Some one.array two.array (sym one.at ∙ (λ i. slice_get (e i) (place i)) ∙ two.at) in
      same_form (column_at kind column) column (f column) (g column) there other (fit column below) (also column below)
      (sym one.type ∙ ap (λ (a : ArraySpec). a.kind) array ∙ two.type) (sym one.dict ∙ ap (λ (a : ArraySpec). a.dict) array ∙ two.dict)
      (sym one.encoding ∙ ap (λ (a : ArraySpec). a.encoding) array ∙ two.encoding)

  not_one : (column : ℕ) (h k : Forms) → schema_for kind h ≡ schema_for kind k → IsFound kind h column → place_at kind (arrays_of (schema_for kind k)) column ≡ None → ⊥
  not_one column h k same one none =
      let some : Some one.place ≡ None = sym one.found ∙ ap (λ (fields : List FieldSpec). place_at kind (arrays_of fields) column) same ∙ none in
      cc (some)

  pub equal_forms : schema_for kind f ≡ schema_for kind g → (column : ℕ) → column < width_of kind → f column ≡ g column
  equal_forms same column below =
      elim (cases_Bool (is_present (f column))) [
        | inl there ↦
            elim (cases_Bool (is_present (g column))) [
              | inl other ↦ both_there column below same (column_found kind f fit column below there) (column_found kind g also column below other) there other
              | inr gone ↦ absurd (not_one column f g same (column_found kind f fit column below there) (column_absent kind g also column gone))
            ]
        | inr none ↦
            elim (cases_Bool (is_present (g column))) [
              | inl other ↦ absurd (not_one column g f (sym same) (column_found kind g also column below other) (column_absent kind f fit column none))
              | inr gone ↦ absent_is (f column) none ∙ sym (absent_is (g column) gone)
            ]
      ]

module _ (kind : Kind) (f g : Forms) (fit : FormsFit kind f) (same : (column : ℕ) → column < width_of kind → f column ≡ g column) where
  -- AND EQUAL FORMS EQUAL SCHEMAS
  AreAlike : List Member → Type 0
  AreAlike [] = Unit {0}
  AreAlike (m ∷ members) = (f m.column ≡ g m.column) × AreAlike members

  alike : (above : List (List ℕ)) (members : List Member) → list_all (is_member (columns_of kind) above) members ≡ true → AreAlike members
  unfolding AreAlike
  alike above [] all = tt
  alike above (m ∷ members) all =
      let parts = and_parts (is_member (columns_of kind) above m) (list_all (is_member (columns_of kind) above) members) all in
      (same m.column (member_below kind f fit above m parts.0), alike above members parts.1)

  same_leaf : (m : Member) → f m.column ≡ g m.column → leaf_in kind f m ≡ leaf_in kind g m
  same_leaf m is = λ i. record {
    name = m.name;
    kind = arrow_type_in (column_at kind m.column).base (is i);
    dict = dict_for m.column (is i);
    encoding = encoding_for (is i);
    item = item_in (column_at kind m.column).base;
  }

  same_there : (members : List Member) → AreAlike members → members_there f members ≡ members_there g members
  unfolding AreAlike
  same_there [] are = refl
  same_there (m ∷ members) are = λ i. if is_present (are.0 i) then m ∷ same_there members are.1 i else same_there members are.1 i

  alike_there : (members : List Member) → AreAlike members → AreAlike (members_there f members)
  unfolding AreAlike
  alike_there [] are = tt
  alike_there (m ∷ members) are =
      let rest = alike_there members are.1 in
      elim (cases_Bool (is_present (f m.column))) [
        | inl there ↦ rw there (are.0, rest)
        | inr gone ↦ rw gone rest
      ]

  same_leaves : (members : List Member) → AreAlike members → map (leaf_in kind f) members ≡ map (leaf_in kind g) members
  unfolding AreAlike
  same_leaves [] are = refl
  same_leaves (m ∷ members) are = λ i. same_leaf m are.0 i ∷ same_leaves members are.1 i

  same_under : (struct : List ℕ) (there : List Member) → AreAlike there → branches_under kind f struct there ≡ branches_under kind g struct there
  same_under struct [] are = refl
  same_under struct (m ∷ there) are = λ i. Under struct (same_leaves (m ∷ there) are i) ∷ []

  alone_there : (m : Member) → f m.column ≡ g m.column → (there : Bool) → is_present (f m.column) ≡ there → branches_in kind f (group.Alone m) ≡ branches_in kind g (group.Alone m)
  alone_there m e true there =
      let other : is_present (g m.column) ≡ true = ap is_present (sym e) ∙ there in
      rw (there, other) (λ i. One (same_leaf m e i) ∷ [])
  alone_there m e false there =
      let other : is_present (g m.column) ≡ false = ap is_present (sym e) ∙ there in
      rw (there, other) refl

  same_group : (g' : Group) → is_group (columns_of kind) g' ≡ true → branches_in kind f g' ≡ branches_in kind g g'
  same_group (group.Alone m) is =
      let e : f m.column ≡ g m.column = same m.column (member_below kind f fit [] m is) in
      alone_there m e (is_present (f m.column)) refl
  same_group (group.Under struct members) is =
      let tests = under_tests (columns_of kind) struct members is in
      let are = alike (struct ∷ []) members tests.each in
      same_under struct (members_there f members) (alike_there members are) ∙ ap (branches_under kind g struct) (same_there members are)

  same_groups : (groups : List Group) → list_all (is_group (columns_of kind)) groups ≡ true → flat_map (branches_in kind f) groups ≡ flat_map (branches_in kind g) groups
  same_groups [] all = refl
  same_groups (one ∷ groups) all =
      let tests = and_parts (is_group (columns_of kind) one) (list_all (is_group (columns_of kind)) groups) all in
      λ i. same_group one tests.0 i ++ same_groups groups tests.1 i

  pub same_schema : schema_for kind f ≡ schema_for kind g
  unfolding schema_for branches_for
  same_schema = ap branch_fields (same_groups (grouped (columns_of kind)) (kinds_grouped kind).each)
