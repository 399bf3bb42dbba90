-- Children that a field of its type may not have.
use Rattle.std.specs.Prelude.{◌≡◌, ◌⊎◌, ℕ, zero, suc, ◌<◌, ◌&&◌, ◌||◌, true, false, List, [], ◌∷◌, length, slice_index_or, Ok, Option, None, Some, pos}
use Rattle.std.proofs.Common.{refl, sym, ap, ◌∙◌, inl, inr, eqb, arith}
use Rattle.std.proofs.lemmas.Bool.{cases_Bool}
use Rattle.std.proofs.Math.Bool.{or-true}
use Rattle.lists.proofs.Truths.{and_true, or_false}
use Rattle.flat_tables.specs.Tables.{TableIn}
use Rattle.arrow_schema.specs.declared.spec.ArrowType.{ArrowType}
use Rattle.arrow_schema.specs.declared.spec.ArrowType.TheVariants.{Bool as Boolean, Int, Double, Utf8, Binary, Fixed, Timestamp, Duration, Struct, List as ListType}
use Rattle.arrow_schema.specs.declared.spec.DictSpec.{DictSpec}
use Rattle.arrow_schema.specs.declared.spec.FieldSpec.{FieldSpec}
use Rattle.arrow_schema.specs.Types.{type_number, is_struct, is_list, is_element_type}
use Rattle.arrow_schema.specs.Slots.{kind_slot, children_slot}
use Rattle.arrow_schema.specs.Trees.{kind_in, dict_in}
use Rattle.arrow_schema.specs.Says.{SaysNumbers, SaysDictionary, SaysField, says}
use Rattle.arrow_schema.specs.Readable.{are_readable, has_none, is_element, is_one_element, no_fields, fits_children}
use Rattle.arrow_schema.specs.Defects.{UnsupportedElement, other_element, narrow_element, signed_element, with_dictionary, UnsupportedField, with_children, no_child, other_count, IsChild}
use Rattle.arrow_schema.proofs.Found.{SlotSays}

no_struct_number : (kind : ArrowType) → is_struct kind ≡ false → type_number kind ≡ 13 → ⊥
no_struct_number Struct h e = cc (h)
no_struct_number kind h e = omega (arith, e)

no_list_number : (kind : ArrowType) → is_list kind ≡ false → type_number kind ≡ 12 → ⊥
no_list_number ListType h e = cc (h)
no_list_number kind h e = omega (arith, e)

list_number : (kind : ArrowType) → is_list kind ≡ true → type_number kind ≡ 12
list_number ListType h = refl
list_number kind h = cc (h)

no_int_or_double : (u : TableIn) (kind : ArrowType) → kind_slot u ≡ Ok (type_number kind) → SaysNumbers u kind → is_element_type kind ≡ false → UnsupportedElement u
no_int_or_double u (Int bits true) k numbers h = signed_element k numbers.1
no_int_or_double u (Int bits false) k numbers h = narrow_element (pos bits) k numbers.0 (no_width bits h)
  where
    no_width : (bits : ℕ) → (eqb bits 64 && true) ≡ false → eqb bits 64 ≡ false
    no_width bits h = sym (and_true (eqb bits 64)) ∙ h
no_int_or_double u Double k numbers h = cc (h)
no_int_or_double u (Fixed width) k numbers h = other_element 15 k (λ e. omega (arith, e)) (λ e. omega (arith, e))
no_int_or_double u Utf8 k numbers h = other_element 5 k (λ e. omega (arith, e)) (λ e. omega (arith, e))
no_int_or_double u Binary k numbers h = other_element 4 k (λ e. omega (arith, e)) (λ e. omega (arith, e))
no_int_or_double u Boolean k numbers h = other_element 6 k (λ e. omega (arith, e)) (λ e. omega (arith, e))
no_int_or_double u Timestamp k numbers h = other_element 10 k (λ e. omega (arith, e)) (λ e. omega (arith, e))
no_int_or_double u Duration k numbers h = other_element 18 k (λ e. omega (arith, e)) (λ e. omega (arith, e))
no_int_or_double u Struct k numbers h = other_element 13 k (λ e. omega (arith, e)) (λ e. omega (arith, e))
no_int_or_double u ListType k numbers h = other_element 12 k (λ e. omega (arith, e)) (λ e. omega (arith, e))

has_dictionary : (u : TableIn) (dict : Option DictSpec) → SaysDictionary u dict → has_none dict ≡ false → UnsupportedElement u
has_dictionary u None d h = cc (h)
has_dictionary u (Some dict) d h = with_dictionary d.0 d.1

no_element : (u : TableIn) (g : FieldSpec) → SaysField u g → is_element g ≡ false → UnsupportedElement u
no_element _ _ (says u g tables n k numbers d e has long each) h = elim (cases_Bool (is_element_type (kind_in g))) [
  | inr other ↦ no_int_or_double u (kind_in g) k numbers other
  | inl element ↦ has_dictionary u (dict_in g) d (rw element at h)
]

-- a list has a child that it can't have, which was read
pub record HasOtherChild (t : TableIn) (depth : ℕ) : Type 0 where
  pub list : kind_slot t ≡ Ok 12
  pub u : TableIn
  pub child : IsChild children_slot t u
  pub bad : UnsupportedElement u
  pub deep : 0 < depth

some_depth : (depth : ℕ) (g : FieldSpec) → are_readable depth (g ∷ []) ≡ true → 0 < depth
unfolding are_readable
some_depth zero g h = cc (h)
some_depth (suc depth) g h = omega arith

lacks_one : (t : TableIn) (children : List FieldSpec) (depth left rest : ℕ) → kind_slot t ≡ Ok 12 → is_one_element children ≡ false
    → SlotSays depth children_slot left t children rest → UnsupportedField t ⊎ HasOtherChild t depth
lacks_one t [] depth left rest read fits s = elim s.has [
  | inl empty ↦ inl (no_child read empty.0)
  | inr h ↦ inl (other_count h.0 read h.1 (λ one. omega (arith, one, h.2.count, s.say.long)))
]
lacks_one t (g ∷ []) depth left rest read fits s = elim s.has [
  | inl empty ↦ absurd (omega (arith, s.say.long, ap length empty.1))
  | inr h ↦
      let inside : 0 < length s.tables = omega (arith, s.say.long) in
      inr (record {
        list = read;
        u = slice_index_or s.tables 0 t;
        child = record { vector = h.0; has = h.1; place = 0; at = h.2.each 0 t inside };
        bad = no_element (slice_index_or s.tables 0 t) g (s.say.each 0 t g inside) fits;
        deep = some_depth depth g s.readable;
      })
]
lacks_one t (g ∷ h ∷ fields) depth left rest read fits s = elim s.has [
  | inl empty ↦ absurd (omega (arith, s.say.long, ap length empty.1))
  | inr v ↦ inl (other_count v.0 read v.1 (λ one. omega (arith, one, v.2.count, s.say.long)))
]

with_others : (t : TableIn) (kind : ArrowType) (children : List FieldSpec) (depth left rest : ℕ) → kind_slot t ≡ Ok (type_number kind) → is_list kind ≡ false
    → (is_struct kind || no_fields children) ≡ false → SlotSays depth children_slot left t children rest → UnsupportedField t
with_others t kind [] depth left rest read listless fits s = absurd (cc (fits, or-true (is_struct kind)))
with_others t kind (g ∷ fields) depth left rest read listless fits s = elim s.has [
  | inl empty ↦ absurd (omega (arith, s.say.long, ap length empty.1))
  | inr h ↦ with_children (type_number kind) h.0 read (no_list_number kind listless) (no_struct_number kind (sym (or_false (is_struct kind)) ∙ fits)) h.1
      (omega (arith, h.2.count, s.say.long))
]

pub lacks_children : (t : TableIn) (kind : ArrowType) (children : List FieldSpec) (depth left rest : ℕ) → kind_slot t ≡ Ok (type_number kind) → fits_children kind children ≡ false
    → SlotSays depth children_slot left t children rest → UnsupportedField t ⊎ HasOtherChild t depth
lacks_children t kind children depth left rest read fits s = elim (cases_Bool (is_list kind)) [
  | inl list ↦ lacks_one t children depth left rest (read ∙ ap Ok (list_number kind list)) (rw list at fits) s
  | inr listless ↦ inl (with_others t kind children depth left rest read listless (rw listless at fits) s)
]
