-- A field whose parts are read has no defect of its own.
use Rattle.std.specs.Prelude.{◌≡◌, ◌≢◌, ◌⊎◌, ℕ, ◌<◌, ◌&&◌, ◌||◌, not, Bool, true, false, List, [], ◌∷◌, slice_index_or, Ok, Option, None, Some, ℤ, pos}
use Rattle.std.specs.Str.{is_utf8}
use Rattle.std.proofs.Common.{length, if◌then◌else◌, eqb, inl, inr, refl, sym, ap, ◌∙◌, subst, arith}
use Rattle.std.proofs.lemmas.Bool.{eq-eqb, eqb-true, and_parts}
use Rattle.std.proofs.lemmas.Str.{IsUtf8-from_is_utf8}
use Rattle.lists.proofs.Truths.{and_false}
use Rattle.flat_tables.specs.declared.fault.FlatFault.{FlatFault}
use Rattle.flat_tables.specs.Tables.{TableIn, VectorIn, vector_slot}
use Rattle.arrow_schema.specs.declared.spec.ArrowType.{ArrowType}
use Rattle.arrow_schema.specs.declared.spec.ArrowType.TheVariants.{Bool as Boolean, Int, Double, Utf8, Binary, Fixed, Timestamp, Duration, Struct, List as ListType}
use Rattle.arrow_schema.specs.declared.spec.DictSpec.{DictSpec}
use Rattle.arrow_schema.specs.declared.spec.Encoding.{Encoding}
use Rattle.arrow_schema.specs.Types.{type_number, is_struct, is_list, is_element_type, takes_dictionary, is_number, is_int_width, is_fixed_width}
use Rattle.arrow_schema.specs.Slots.{name_slot, kind_slot, int_width, int_sign, precision, timestamp_unit, duration_unit, byte_width, dictionary_slot, index_slot, children_slot}
use Rattle.arrow_schema.specs.Says.{SaysNumbers, SaysIndex, SaysDict, SaysDictionary, SaysEncoding, HasTables, SaysField, SayFields}
use Rattle.arrow_schema.specs.Says as saying
use Rattle.arrow_schema.specs.Trees.{kind_in, dict_in}
use Rattle.arrow_schema.specs.Readable.{is_supported, fits_dictionary, has_none, is_element, is_one_element, no_fields, fits_children}
use Rattle.arrow_schema.proofs.Elements.{same_vector, one_of}
use Rattle.arrow_schema.proofs.Metadata.{no_metadata_fault}
use Rattle.arrow_schema.proofs.FieldParts.{OwnDefect, faulty, unsupported, no_text}
use Rattle.arrow_schema.specs.declared.refusal.SchemaRefusal.{SchemaRefusal}
use Rattle.arrow_schema.specs.declared.spec.FieldSpec.{FieldSpec}
use Rattle.arrow_schema.specs.Defects.{IsChild, TypeFault, DictionaryFault, FieldFault, UnsupportedType, UnsupportedElement, UnsupportedField, is_type_number, takes_no_dictionary}
use Rattle.arrow_schema.specs.Defects as defects

-- what is known of a field that is read
pub record IsClear (t : TableIn) (name : List ℕ) (kind : ArrowType) (dict : Option DictSpec) (encoding : Encoding) : Type 0 where
  pub has_name : name_slot t ≡ Ok name
  pub text : is_utf8 name ≡ true
  pub has_kind : kind_slot t ≡ Ok (type_number kind)
  pub numbers : SaysNumbers t kind
  pub supported : is_supported kind ≡ true
  pub has_dict : SaysDictionary t dict
  pub fits : fits_dictionary kind dict ≡ true
  pub has_encoding : SaysEncoding t encoding

same_kind : (t : TableIn) (m n : ℕ) → kind_slot t ≡ Ok m → kind_slot t ≡ Ok n → m ≡ n
same_kind t m n a b = cc (a, b)

-- ---- by the number of the type
width_read : (t : TableIn) (kind : ArrowType) → type_number kind ≡ 2 → SaysNumbers t kind → is_supported kind ≡ true → (z : ℤ) × (int_width t ≡ Ok z) × (is_int_width z ≡ true)
width_read t (Int bits signed) n h s = (pos bits, h.0, s)
width_read t kind n h s = absurd (omega arith)

sign_read : (t : TableIn) (kind : ArrowType) → type_number kind ≡ 2 → SaysNumbers t kind → (signed : Bool) × (int_sign t ≡ Ok signed)
sign_read t (Int bits signed) n h = (signed, h.1)
sign_read t kind n h = absurd (omega arith)

precision_read : (t : TableIn) (kind : ArrowType) → type_number kind ≡ 3 → SaysNumbers t kind → precision t ≡ Ok (pos 2)
precision_read t Double n h = h
precision_read t kind n h = absurd (omega arith)

timestamp_read : (t : TableIn) (kind : ArrowType) → type_number kind ≡ 10 → SaysNumbers t kind → timestamp_unit t ≡ Ok (pos 3)
timestamp_read t Timestamp n h = h
timestamp_read t kind n h = absurd (omega arith)

duration_read : (t : TableIn) (kind : ArrowType) → type_number kind ≡ 18 → SaysNumbers t kind → duration_unit t ≡ Ok (pos 3)
duration_read t Duration n h = h
duration_read t kind n h = absurd (omega arith)

fixed_read : (t : TableIn) (kind : ArrowType) → type_number kind ≡ 15 → SaysNumbers t kind → is_supported kind ≡ true → (z : ℤ) × (byte_width t ≡ Ok z) × (is_fixed_width z ≡ true)
fixed_read t (Fixed width) n h s = (pos width, h, s)
fixed_read t kind n h s = absurd (omega arith)

known_type : (kind : ArrowType) → is_type_number (type_number kind) ≡ true
known_type (Int bits signed) = refl
known_type (Fixed width) = refl
known_type Double = refl
known_type Utf8 = refl
known_type Binary = refl
known_type Boolean = refl
known_type Timestamp = refl
known_type Duration = refl
known_type Struct = refl
known_type ListType = refl

lacks_dictionary : (kind : ArrowType) → takes_no_dictionary (type_number kind) ≡ true → takes_dictionary kind ≡ false
lacks_dictionary Boolean h = refl
lacks_dictionary Struct h = refl
lacks_dictionary ListType h = refl
lacks_dictionary (Int bits signed) h = cc (h)
lacks_dictionary (Fixed width) h = cc (h)
lacks_dictionary Double h = cc (h)
lacks_dictionary Utf8 h = cc (h)
lacks_dictionary Binary h = cc (h)
lacks_dictionary Timestamp h = cc (h)
lacks_dictionary Duration h = cc (h)

pub no_struct : (kind : ArrowType) → type_number kind ≢ 13 → is_struct kind ≡ false
no_struct Struct h = absurd (h refl)
no_struct (Int bits signed) h = refl
no_struct (Fixed width) h = refl
no_struct Double h = refl
no_struct Utf8 h = refl
no_struct Binary h = refl
no_struct Boolean h = refl
no_struct Timestamp h = refl
no_struct Duration h = refl
no_struct ListType h = refl

-- ---- no faults
no_type_fault : (t : TableIn) (name : List ℕ) (kind : ArrowType) (dict : Option DictSpec) (encoding : Encoding) (f : FlatFault) → IsClear t name kind dict encoding → TypeFault f t → ⊥
no_type_fault t name kind dict encoding f c (defects.TypeFault.of_width k r) = let w = width_read t kind (same_kind t _ 2 c.has_kind k) c.numbers c.supported in cc (w.1, r)
no_type_fault t name kind dict encoding f c (defects.TypeFault.of_sign k r) = let w = sign_read t kind (same_kind t _ 2 c.has_kind k) c.numbers in cc (w.1, r)
no_type_fault t name kind dict encoding f c (defects.TypeFault.of_precision k r) = let w = precision_read t kind (same_kind t _ 3 c.has_kind k) c.numbers in cc (w, r)
no_type_fault t name kind dict encoding f c (defects.TypeFault.of_timestamp k r) = let w = timestamp_read t kind (same_kind t _ 10 c.has_kind k) c.numbers in cc (w, r)
no_type_fault t name kind dict encoding f c (defects.TypeFault.of_fixed k r) = let w = fixed_read t kind (same_kind t _ 15 c.has_kind k) c.numbers c.supported in cc (w.1, r)
no_type_fault t name kind dict encoding f c (defects.TypeFault.of_duration k r) = let w = duration_read t kind (same_kind t _ 18 c.has_kind k) c.numbers in cc (w, r)

-- a dictionary that is there is read
encoding_there : (t d : TableIn) (dict : Option DictSpec) → SaysDictionary t dict → dictionary_slot t ≡ Ok (Some d) → (e : DictSpec) × (dict ≡ Some e) × SaysDict d e
encoding_there t d None says slot = cc (says, slot)
encoding_there t d (Some e) says slot =
    let same : says.0 ≡ d = cc (says.1, slot) in
    (e, refl, subst (λ (d : TableIn). SaysDict d e) same says.2)

index_there : (d u : TableIn) (e : DictSpec) → SaysDict d e → index_slot d ≡ Ok (Some u) → SaysIndex u e.wide
index_there d u e says slot =
    let same : says.index ≡ u = cc (says.at, slot) in
    subst (λ (u : TableIn). SaysIndex u e.wide) same says.says

no_dictionary_fault : (t : TableIn) (dict : Option DictSpec) (f : FlatFault) → SaysDictionary t dict → DictionaryFault f t → ⊥
no_dictionary_fault t None f says (defects.DictionaryFault.of_table r) = cc (says, r)
no_dictionary_fault t (Some e) f says (defects.DictionaryFault.of_table r) = cc (says.1, r)
no_dictionary_fault t dict f says (defects.DictionaryFault.of_id d slot r) = let x = encoding_there t d dict says slot in cc (x.2.id, r)
no_dictionary_fault t dict f says (defects.DictionaryFault.of_index d slot r) = let x = encoding_there t d dict says slot in cc (x.2.at, r)
no_dictionary_fault t dict f says (defects.DictionaryFault.of_index_width d u slot index r) =
    let x = encoding_there t d dict says slot in
    let i = index_there d u x.0 x.2 index in
    cc (i.width, r)
no_dictionary_fault t dict f says (defects.DictionaryFault.of_index_sign d u slot index r) =
    let x = encoding_there t d dict says slot in
    let i = index_there d u x.0 x.2 index in
    cc (i.sign, r)

no_field_fault : (t : TableIn) (name : List ℕ) (kind : ArrowType) (dict : Option DictSpec) (encoding : Encoding) (f : FlatFault) → IsClear t name kind dict encoding → FieldFault f t → ⊥
no_field_fault t name kind dict encoding f c (defects.FieldFault.of_name r) = cc (c.has_name, r)
no_field_fault t name kind dict encoding f c (defects.FieldFault.of_kind r) = cc (c.has_kind, r)
no_field_fault t name kind dict encoding f c (defects.FieldFault.of_type r) = no_type_fault t name kind dict encoding f c r
no_field_fault t name kind dict encoding f c (defects.FieldFault.of_dictionary r) = no_dictionary_fault t dict f c.has_dict r
no_field_fault t name kind dict encoding f c (defects.FieldFault.of_metadata r) = no_metadata_fault t encoding f c.has_encoding r

-- ---- nothing that isn't supported
number_again : (n : ℕ) (z : ℤ) → z ≡ pos n → is_number n z ≡ false → ⊥
number_again n z is h =
    let e : eqb n n ≡ false = subst (λ (z : ℤ). is_number n z ≡ false) is h in
    cc (e, eq-eqb n n refl)

no_unsupported_type : (t : TableIn) (name : List ℕ) (kind : ArrowType) (dict : Option DictSpec) (encoding : Encoding) → IsClear t name kind dict encoding → UnsupportedType t → ⊥
no_unsupported_type t name kind dict encoding c (defects.UnsupportedType.other_type n k h) =
    let same = same_kind t _ n c.has_kind k in
    cc (ap is_type_number same, known_type kind, h)
no_unsupported_type t name kind dict encoding c (defects.UnsupportedType.other_width bits k r h) =
    let w = width_read t kind (same_kind t _ 2 c.has_kind k) c.numbers c.supported in
    let same : w.0 ≡ bits = cc (w.1, r) in
    cc (ap is_int_width same, w.2, h)
no_unsupported_type t name kind dict encoding c (defects.UnsupportedType.other_precision n k r h) =
    let w = precision_read t kind (same_kind t _ 3 c.has_kind k) c.numbers in
    number_again 2 n (cc (w, r)) h
no_unsupported_type t name kind dict encoding c (defects.UnsupportedType.other_timestamp n k r h) =
    let w = timestamp_read t kind (same_kind t _ 10 c.has_kind k) c.numbers in
    number_again 3 n (cc (w, r)) h
no_unsupported_type t name kind dict encoding c (defects.UnsupportedType.other_fixed n k r h) =
    let w = fixed_read t kind (same_kind t _ 15 c.has_kind k) c.numbers c.supported in
    let same : w.0 ≡ n = cc (w.1, r) in
    cc (ap is_fixed_width same, w.2, h)
no_unsupported_type t name kind dict encoding c (defects.UnsupportedType.other_duration n k r h) =
    let w = duration_read t kind (same_kind t _ 18 c.has_kind k) c.numbers in
    number_again 3 n (cc (w, r)) h

-- the children of a field that is read: one of a list, those of a struct, or none
list_kind : (kind : ArrowType) → type_number kind ≡ 12 → is_list kind ≡ true
list_kind ListType h = refl
list_kind kind h = absurd (omega (arith, h))

other_kind : (kind : ArrowType) → type_number kind ≢ 12 → is_list kind ≡ false
other_kind ListType h = absurd (h refl)
other_kind (Int bits signed) h = refl
other_kind (Fixed width) h = refl
other_kind Double h = refl
other_kind Utf8 h = refl
other_kind Binary h = refl
other_kind Boolean h = refl
other_kind Timestamp h = refl
other_kind Duration h = refl
other_kind Struct h = refl

has_no_fields : (fields : List FieldSpec) → no_fields fields ≡ true → length fields ≡ 0
has_no_fields [] h = refl
has_no_fields (f ∷ fields) h = cc (h)

counted : (slot : ℕ) (t : TableIn) (tables : List TableIn) (v : VectorIn) → HasTables slot t tables → vector_slot 4 t slot ≡ Ok (Some v) → v.count ≡ length tables
counted slot t tables v has at = (same_vector slot t v tables has at).count

no_children : (t : TableIn) (kind : ArrowType) (children : List FieldSpec) (tables : List TableIn) (v : VectorIn) (n : ℕ) → HasTables children_slot t tables
    → length tables ≡ length children → fits_children kind children ≡ true → type_number kind ≡ n → n ≢ 12 → n ≢ 13 → vector_slot 4 t children_slot ≡ Ok (Some v) → 0 < v.count → ⊥
no_children t kind children tables v n has long fits k no_list no_struct_number slot some =
    let listless = other_kind kind (λ e. no_list (sym k ∙ e)) in
    let structless = no_struct kind (λ e. no_struct_number (sym k ∙ e)) in
    let none : no_fields children ≡ true = rw (listless, structless) at fits in
    omega (arith, has_no_fields children none, long, counted children_slot t tables v has slot, some)

-- the one child of a list
pub element_is : (kind : ArrowType) → is_element_type kind ≡ true → (kind ≡ Int 64 false) ⊎ (kind ≡ Double)
element_is (Int bits signed) h = inl (int_is bits signed h)
  where
    width_is : (bits : ℕ) (signed : Bool) → eqb bits 64 ≡ true → signed ≡ false → Int bits signed ≡ Int 64 false
    width_is bits signed e f = let w : bits ≡ 64 = eqb-true bits 64 e in cc (w, f)

    int_is : (bits : ℕ) (signed : Bool) → (eqb bits 64 && not signed) ≡ true → Int bits signed ≡ Int 64 false
    int_is bits true h = absurd (cc (h, and_false (eqb bits 64)))
    int_is bits false h = width_is bits false ((and_parts (eqb bits 64) true h).0) refl
element_is Double h = inr refl
element_is kind h = cc (h)

pub has_no_dict : (dict : Option DictSpec) → has_none dict ≡ true → dict ≡ None
has_no_dict None h = refl
has_no_dict (Some dict) h = cc (h)

record Element (u : TableIn) (g : FieldSpec) : Type 0 where
  says_it : SaysField u g
  fits : is_element g ≡ true

one_child : (t u : TableIn) (children : List FieldSpec) (tables : List TableIn) → HasTables children_slot t tables → SayFields tables children → is_one_element children ≡ true
    → IsChild children_slot t u → (g : FieldSpec) × Element u g
one_child t u [] tables has say one c = cc (one)
one_child t u (g ∷ []) tables has say one c =
    let o = one_of children_slot t u tables has c in
    let zero_place : o.0 ≡ 0 = omega (arith, o.1, say.long) in
    let there : slice_index_or tables 0 t ≡ u = ap (λ (i : ℕ). slice_index_or tables i t) (sym zero_place) ∙ o.2 t in
    (g, record { says_it = subst (λ (u : TableIn). SaysField u g) there (say.each 0 t g (omega (arith, say.long))); fits = one })
one_child t u (g ∷ h ∷ fields) tables has say one c = cc (one)

no_bad_element : (u : TableIn) (g : FieldSpec) → SaysField u g → is_element_type (kind_in g) ≡ true → has_none (dict_in g) ≡ true → UnsupportedElement u → ⊥
no_bad_element _ _ (saying.SaysField.says u g tables n k numbers d encoding has long each) fits none (defects.UnsupportedElement.other_element m read no_int no_double) =
    elim (element_is (kind_in g) fits) [
      | inl int ↦ no_int (cc (k, read, ap type_number int))
      | inr double ↦ no_double (cc (k, read, ap type_number double))
    ]
no_bad_element _ _ (saying.SaysField.says u g tables n k numbers d encoding has long each) fits none (defects.UnsupportedElement.narrow_element bits read width other) =
    elim (element_is (kind_in g) fits) [
      | inl int ↦ let numbers_64 = subst (SaysNumbers u) int numbers in number_again 64 bits (cc (numbers_64.0, width)) other
      | inr double ↦ absurd (omega (arith, same_kind u _ 2 k read, ap type_number double))
    ]
no_bad_element _ _ (saying.SaysField.says u g tables n k numbers d encoding has long each) fits none (defects.UnsupportedElement.signed_element read sign) =
    elim (element_is (kind_in g) fits) [
      | inl int ↦ let numbers_64 = subst (SaysNumbers u) int numbers in cc (numbers_64.1, sign)
      | inr double ↦ absurd (omega (arith, same_kind u _ 2 k read, ap type_number double))
    ]
no_bad_element _ _ (saying.SaysField.says u g tables n k numbers d encoding has long each) fits none (defects.UnsupportedElement.with_dictionary table slot) =
    let absent = subst (SaysDictionary u) (has_no_dict (dict_in g) none) d in cc (absent, slot)

one_counts : (fields : List FieldSpec) → is_one_element fields ≡ true → length fields ≡ 1
one_counts [] h = cc (h)
one_counts (f ∷ []) h = refl
one_counts (f ∷ g ∷ fields) h = cc (h)

list_fits : (t : TableIn) (kind : ArrowType) (children : List FieldSpec) → kind_slot t ≡ Ok (type_number kind) → kind_slot t ≡ Ok 12 → fits_children kind children ≡ true
    → is_one_element children ≡ true
list_fits t kind children has_kind read fits = rw (list_kind kind (same_kind t (type_number kind) 12 has_kind read)) at fits

index_fits : (wide : Bool) (bits : ℤ) → pos (if wide then 16 else 8) ≡ bits → (is_number 8 bits || is_number 16 bits) ≡ false → ⊥
index_fits true bits is h = cc (ap (λ (z : ℤ). is_number 8 z || is_number 16 z) is, h)
index_fits false bits is h = cc (ap (λ (z : ℤ). is_number 8 z || is_number 16 z) is, h)

no_unsupported : (t : TableIn) (name : List ℕ) (kind : ArrowType) (dict : Option DictSpec) (children : List FieldSpec) (encoding : Encoding) (tables : List TableIn) → IsClear t name kind dict encoding
    → HasTables children_slot t tables → SayFields tables children → fits_children kind children ≡ true → UnsupportedField t → ⊥
no_unsupported t name kind dict children encoding tables c has say fits (defects.UnsupportedField.of_type u) = no_unsupported_type t name kind dict encoding c u
no_unsupported t name kind dict children encoding tables c has say fits (defects.UnsupportedField.of_dictionary n d k takes slot) =
    let same = same_kind t _ n c.has_kind k in
    let x = encoding_there t d dict c.has_dict slot in
    let lacks = lacks_dictionary kind (ap takes_no_dictionary same ∙ takes) in
    cc (ap (fits_dictionary kind) x.1, c.fits, lacks)
no_unsupported t name kind dict children encoding tables c has say fits (defects.UnsupportedField.no_index d slot index) =
    let x = encoding_there t d dict c.has_dict slot in cc (x.2.at, index)
no_unsupported t name kind dict children encoding tables c has say fits (defects.UnsupportedField.other_index d u bits slot index width h) =
    let x = encoding_there t d dict c.has_dict slot in
    let i = index_there d u x.0 x.2 index in
    index_fits x.0.wide bits (cc (i.width, width)) h
no_unsupported t name kind dict children encoding tables c has say fits (defects.UnsupportedField.signed_index d u slot index sign) =
    let x = encoding_there t d dict c.has_dict slot in
    let i = index_there d u x.0 x.2 index in
    cc (i.sign, sign)
no_unsupported t name kind dict children encoding tables c has say fits (defects.UnsupportedField.with_children n v k no_list lacks slot some) =
    no_children t kind children tables v n has say.long fits (same_kind t _ n c.has_kind k) no_list lacks slot some
no_unsupported t name kind dict children encoding tables c has say fits (defects.UnsupportedField.no_child k slot) =
    let one = one_counts children (list_fits t kind children c.has_kind k fits) in
    no_vector tables has (omega (arith, say.long, one)) slot
  where
    no_vector : (tables : List TableIn) → HasTables children_slot t tables → length tables ≡ 1 → vector_slot 4 t children_slot ≡ Ok None → ⊥
    no_vector tables (inl empty) one slot = omega (arith, one, ap length empty.1)
    no_vector tables (inr h) one slot = cc (h.1, slot)
no_unsupported t name kind dict children encoding tables c has say fits (defects.UnsupportedField.other_count v k slot other) =
    let one = one_counts children (list_fits t kind children c.has_kind k fits) in
    other (omega (arith, say.long, one, counted children_slot t tables v has slot))

-- nor does a list have another child
pub no_other_child : (t u : TableIn) (kind : ArrowType) (children : List FieldSpec) (tables : List TableIn) → kind_slot t ≡ Ok (type_number kind) → HasTables children_slot t tables
    → SayFields tables children → fits_children kind children ≡ true → kind_slot t ≡ Ok 12 → IsChild children_slot t u → UnsupportedElement u → ⊥
no_other_child t u kind children tables has_kind has say fits list child bad =
    let one = one_child t u children tables has say (list_fits t kind children has_kind list fits) child in
    let both = and_parts (is_element_type (kind_in one.0)) (has_none (dict_in one.0)) one.1.fits in
    no_bad_element u one.0 one.1.says_it both.0 both.1 bad

-- a field that is read has no defect of its own
pub no_own_defect : (t : TableIn) (name : List ℕ) (kind : ArrowType) (dict : Option DictSpec) (children : List FieldSpec) (encoding : Encoding) (tables : List TableIn) (e : SchemaRefusal)
    → IsClear t name kind dict encoding
    → HasTables children_slot t tables → SayFields tables children → fits_children kind children ≡ true → OwnDefect t e → ⊥
no_own_defect t name kind dict children encoding tables e c has say fits (faulty f h) = no_field_fault t name kind dict encoding f c h
no_own_defect t name kind dict children encoding tables e c has say fits (unsupported h) = no_unsupported t name kind dict children encoding tables c has say fits h
no_own_defect t name kind dict children encoding tables e c has say fits (no_text other read fails) =
    let same : name ≡ other = cc (c.has_name, read) in
    fails (IsUtf8-from_is_utf8 other (ap is_utf8 (sym same) ∙ c.text))
