-- The name, the type and the dictionary of a field: what is read is what the tables say, and a refusal is a defect.
use Rattle.std.specs.Prelude.{◌≡◌, ℕ, Bool, true, false, List, Result, Ok, Err, ℤ, pos, negsuc, unsigned_abs, IsUtf8}
use Rattle.std.specs.Str.{is_utf8}
use Rattle.std.proofs.Common.{refl, sym, ap, ◌∙◌, subst, inl, inr, eqb}
use Rattle.std.proofs.lemmas.Bool.{eqb-true}
use Rattle.std.proofs.lemmas.Bool.Decides.{eqb_tells}
use Rattle.std.proofs.lemmas.Str.{is_utf8-from_IsUtf8}
use Rattle.lists.proofs.Truths.{chosen}
use Rattle.flat_tables.specs.declared.fault.FlatFault.{FlatFault}
use Rattle.flat_tables.specs.Tables.{TableIn}
use Rattle.arrow_schema.specs.declared.spec.ArrowType.{ArrowType}
use Rattle.arrow_schema.specs.declared.spec.ArrowType.TheVariants.{Bool as Boolean, Int, Double, Utf8, Binary, Fixed, Timestamp, Duration, Struct, List as ListType}
use Rattle.arrow_schema.specs.declared.refusal.SchemaRefusal.{SchemaRefusal}
use Rattle.arrow_schema.specs.declared.refusal.SchemaRefusal.TheVariants.{Flat, Unsupported, BadName}
use Rattle.arrow_schema.specs.Types.{type_number, is_number, is_int_width, is_fixed_width}
use Rattle.arrow_schema.specs.Slots.{name_slot, kind_slot, int_width, int_sign, precision, timestamp_unit, duration_unit, byte_width}
use Rattle.arrow_schema.specs.Says.{SaysNumbers}
use Rattle.arrow_schema.specs.Readable.{is_supported}
use Rattle.arrow_schema.specs.Reading.{flat, name_of, int_type_of, fixed_type_of, numbered_type, type_with, type_of}
use Rattle.arrow_schema.specs.Defects.{TypeFault, of_width, of_sign, of_precision, of_timestamp, of_fixed, of_duration}
use Rattle.arrow_schema.specs.Defects.{FieldFault, of_name, of_kind, of_type, UnsupportedType, other_type, other_width, other_precision}
use Rattle.arrow_schema.specs.Defects.{other_timestamp, other_fixed, other_duration, UnsupportedField}
use Rattle.arrow_schema.specs.Defects as defects
use Rattle.arrow_schema.proofs.Steps.{bind_ok, bind_err, flat_ok, flat_err, supported_ok, supported_err}

-- a defect of one field, whatever is around it
pub data OwnDefect (t : TableIn) : SchemaRefusal → Type 0 where
  faulty : (f : FlatFault) → FieldFault f t → OwnDefect t (Flat f)
  unsupported : UnsupportedField t → OwnDefect t Unsupported
  no_text : (name : List ℕ) → name_slot t ≡ Ok name → (IsUtf8 name → ⊥) → OwnDefect t BadName

-- a fault of a part
pub own_fault : {A : Type 0} (t : TableIn) (r : Result A FlatFault) (e : SchemaRefusal) → ((f : FlatFault) → r ≡ Err f → FieldFault f t) → flat r ≡ Err e → OwnDefect t e
own_fault t r e fault h = let f = flat_err r e h in subst (OwnDefect t) (sym f.2) (faulty f.0 (fault f.0 f.1))

pub own_unsupported : (t : TableIn) (e : SchemaRefusal) → UnsupportedField t → e ≡ Unsupported → OwnDefect t e
own_unsupported t e h is = subst (OwnDefect t) (sym is) (unsupported h)

-- ---- the name

pub name_reads : (t : TableIn) (name : List ℕ) → name_of t ≡ Ok name → (name_slot t ≡ Ok name) × (is_utf8 name ≡ true)
unfolding name_of
name_reads t name h =
    let b = bind_ok (flat (name_slot t)) _ name h in
    elim (chosen (is_utf8 b.0) (Ok b.0) (Err BadName) (Ok name) b.2) [
      | inl c ↦
          let same : b.0 ≡ name = cc (c.1) in
          (flat_ok (name_slot t) name (b.1 ∙ ap Ok same), ap is_utf8 (sym same) ∙ c.0)
      | inr c ↦ cc (c.1)
    ]

pub name_says : (t : TableIn) (name : List ℕ) → name_slot t ≡ Ok name → is_utf8 name ≡ true → name_of t ≡ Ok name
unfolding name_of
name_says t name read text = rw (read, text) refl

not_text : (name : List ℕ) → is_utf8 name ≡ false → IsUtf8 name → ⊥
not_text name fails text = let passes = is_utf8-from_IsUtf8 name text in cc

pub name_refused : (t : TableIn) (e : SchemaRefusal) → name_of t ≡ Err e → OwnDefect t e
unfolding name_of
name_refused t e h = elim (bind_err (flat (name_slot t)) _ e h) [
  | inl fault ↦ own_fault t (name_slot t) e (λ f r. of_name r) fault
  | inr b ↦ elim (chosen (is_utf8 b.0) (Ok b.0) (Err BadName) (Err e) b.2) [
    | inl c ↦ cc (c.1)
    | inr c ↦
        let is : BadName ≡ e = cc (c.1) in
        subst (OwnDefect t) is (no_text b.0 (flat_ok (name_slot t) b.0 b.1) (not_text b.0 c.0))
  ]
]

-- ---- the type

-- the numbers of types, and any other
data KindView : ℕ → Type 0 where
  k2 : KindView 2
  k3 : KindView 3
  k4 : KindView 4
  k5 : KindView 5
  k6 : KindView 6
  k10 : KindView 10
  k12 : KindView 12
  k13 : KindView 13
  k15 : KindView 15
  k18 : KindView 18
  other : (n : ℕ) → eqb n 2 ≡ false → eqb n 3 ≡ false → eqb n 4 ≡ false → eqb n 5 ≡ false → eqb n 6 ≡ false → eqb n 10 ≡ false → eqb n 12 ≡ false → eqb n 13 ≡ false → eqb n 15 ≡ false → eqb n 18 ≡ false → KindView n

view_of : (n : ℕ) → KindView n
view_of n = elim (eqb_tells n 2) [
  | inl y ↦ subst KindView (sym y.1) k2
  | inr n2 ↦
      elim (eqb_tells n 3) [
        | inl y ↦ subst KindView (sym y.1) k3
        | inr n3 ↦
            elim (eqb_tells n 4) [
              | inl y ↦ subst KindView (sym y.1) k4
              | inr n4 ↦
                  elim (eqb_tells n 5) [
                    | inl y ↦ subst KindView (sym y.1) k5
                    | inr n5 ↦
                        elim (eqb_tells n 6) [
                          | inl y ↦ subst KindView (sym y.1) k6
                          | inr n6 ↦
                              elim (eqb_tells n 10) [
                                | inl y ↦ subst KindView (sym y.1) k10
                                | inr n10 ↦
                                    elim (eqb_tells n 12) [
                                      | inl y ↦ subst KindView (sym y.1) k12
                                      | inr n12 ↦
                                          elim (eqb_tells n 13) [
                                            | inl y ↦ subst KindView (sym y.1) k13
                                            | inr n13 ↦
                                                elim (eqb_tells n 15) [
                                                  | inl y ↦ subst KindView (sym y.1) k15
                                                  | inr n15 ↦
                                                      elim (eqb_tells n 18) [
                                                        | inl y ↦ subst KindView (sym y.1) k18
                                                        | inr n18 ↦
                                                            other n n2.0 n3.0 n4.0 n5.0 n6.0 n10.0 n12.0 n13.0 n15.0 n18.0
                                                      ]
                                                ]
                                          ]
                                    ]
                              ]
                        ]
                  ]
            ]
      ]
]

-- what a type says of itself
abbrev Typed : TableIn → ℕ → ArrowType → Type 0
Typed t n kind = (n ≡ type_number kind) × SaysNumbers t kind × (is_supported kind ≡ true)

int_reads : (t : TableIn) (kind : ArrowType) → int_type_of t ≡ Ok kind → Typed t 2 kind
unfolding int_type_of
int_reads t kind h =
    let a = bind_ok (flat (int_width t)) _ kind h in
    let b = bind_ok (flat (int_sign t)) _ kind a.2 in
    let s = supported_ok (is_int_width a.0) (Int (unsigned_abs a.0) b.0) kind b.2 in
    subst (Typed t 2) s.1 (int_typed t a.0 b.0 (flat_ok (int_width t) a.0 a.1) (flat_ok (int_sign t) b.0 b.1) s.0)
  where
    int_typed : (t : TableIn) (bits : ℤ) (signed : Bool) → int_width t ≡ Ok bits → int_sign t ≡ Ok signed → is_int_width bits ≡ true → Typed t 2 (Int (unsigned_abs bits) signed)
    int_typed t (pos n) signed width sign fits = (refl, (width, sign), fits)
    int_typed t (negsuc n) signed width sign fits = cc (fits)

fixed_reads : (t : TableIn) (kind : ArrowType) → fixed_type_of t ≡ Ok kind → Typed t 15 kind
unfolding fixed_type_of
fixed_reads t kind h =
    let a = bind_ok (flat (byte_width t)) _ kind h in
    let s = supported_ok (is_fixed_width a.0) (Fixed (unsigned_abs a.0)) kind a.2 in
    subst (Typed t 15) s.1 (fixed_typed t a.0 (flat_ok (byte_width t) a.0 a.1) s.0)
  where
    fixed_typed : (t : TableIn) (width : ℤ) → byte_width t ≡ Ok width → is_fixed_width width ≡ true → Typed t 15 (Fixed (unsigned_abs width))
    fixed_typed t (pos n) read fits = (refl, read, fits)
    fixed_typed t (negsuc n) read fits = cc (fits)

-- the one number of a type
pub number_is : (n : ℕ) (z : ℤ) → is_number n z ≡ true → z ≡ pos n
number_is n (pos m) h = ap pos (eqb-true m n h)
number_is n (negsuc m) h = cc (h)

number_reads : (n : ℕ) (kind found : ArrowType) (read : Result ℤ FlatFault) → numbered_type n kind read ≡ Ok found → (read ≡ Ok (pos n)) × (kind ≡ found)
unfolding numbered_type
number_reads n kind found read h =
    let a = bind_ok (flat read) _ found h in
    let s = supported_ok (is_number n a.0) kind found a.2 in
    (flat_ok read a.0 a.1 ∙ ap Ok (number_is n a.0 s.0), s.1)

with_reads : (t : TableIn) (n : ℕ) (kind : ArrowType) → KindView n → type_with t n ≡ Ok kind → Typed t n kind
unfolding type_with
with_reads t _ kind k2 h = int_reads t kind h
with_reads t _ kind k3 h = let r = number_reads 2 Double kind (precision t) h in subst (Typed t 3) r.1 (refl, r.0, refl)
with_reads t _ kind k4 h = let e : Binary ≡ kind = cc (h) in subst (Typed t 4) e (refl, tt, refl)
with_reads t _ kind k5 h = let e : Utf8 ≡ kind = cc (h) in subst (Typed t 5) e (refl, tt, refl)
with_reads t _ kind k6 h = let e : Boolean ≡ kind = cc (h) in subst (Typed t 6) e (refl, tt, refl)
with_reads t _ kind k10 h = let r = number_reads 3 Timestamp kind (timestamp_unit t) h in subst (Typed t 10) r.1 (refl, r.0, refl)
with_reads t _ kind k12 h = let e : ListType ≡ kind = cc (h) in subst (Typed t 12) e (refl, tt, refl)
with_reads t _ kind k13 h = let e : Struct ≡ kind = cc (h) in subst (Typed t 13) e (refl, tt, refl)
with_reads t _ kind k15 h = fixed_reads t kind h
with_reads t _ kind k18 h = let r = number_reads 3 Duration kind (duration_unit t) h in subst (Typed t 18) r.1 (refl, r.0, refl)
with_reads t _ kind (other n n2 n3 n4 n5 n6 n10 n12 n13 n15 n18) h = cc (rw (n2, n3, n4, n5, n6, n10, n12, n13, n15, n18) at h)

pub type_reads : (t : TableIn) (kind : ArrowType) → type_of t ≡ Ok kind → (kind_slot t ≡ Ok (type_number kind)) × SaysNumbers t kind × (is_supported kind ≡ true)
unfolding type_of
type_reads t kind h =
    let b = bind_ok (flat (kind_slot t)) (type_with t) kind h in
    let typed = with_reads t b.0 kind (view_of b.0) b.2 in
    (flat_ok (kind_slot t) b.0 b.1 ∙ ap Ok typed.0, typed.1, typed.2)

int_width_is : (bits : ℕ) (signed : Bool) → is_supported (Int bits signed) ≡ true → is_int_width (pos bits) ≡ true
int_width_is bits signed h = h

pub type_says : (t : TableIn) (kind : ArrowType) → kind_slot t ≡ Ok (type_number kind) → SaysNumbers t kind → is_supported kind ≡ true → type_of t ≡ Ok kind
unfolding type_of type_with int_type_of fixed_type_of numbered_type
type_says t (Int bits signed) read says fits = rw (read, says.0, says.1, int_width_is bits signed fits) refl
type_says t (Fixed width) read says fits = rw (read, says, fits) refl
type_says t Double read says fits = rw (read, says) refl
type_says t Timestamp read says fits = rw (read, says) refl
type_says t Duration read says fits = rw (read, says) refl
type_says t Binary read says fits = rw read refl
type_says t Utf8 read says fits = rw read refl
type_says t Boolean read says fits = rw read refl
type_says t Struct read says fits = rw read refl
type_says t ListType read says fits = rw read refl

own_type_fault : {A : Type 0} (t : TableIn) (r : Result A FlatFault) (e : SchemaRefusal) → ((f : FlatFault) → r ≡ Err f → TypeFault f t) → flat r ≡ Err e → OwnDefect t e
own_type_fault t r e fault h = own_fault t r e (λ f is. of_type (fault f is)) h

own_type : (t : TableIn) (e : SchemaRefusal) → UnsupportedType t → e ≡ Unsupported → OwnDefect t e
own_type t e h is = own_unsupported t e (defects.UnsupportedField.of_type h) is

int_refused : (t : TableIn) (e : SchemaRefusal) → kind_slot t ≡ Ok 2 → int_type_of t ≡ Err e → OwnDefect t e
unfolding int_type_of
int_refused t e kind h = elim (bind_err (flat (int_width t)) _ e h) [
  | inl fault ↦ own_type_fault t (int_width t) e (λ f r. of_width kind r) fault
  | inr a ↦ elim (bind_err (flat (int_sign t)) _ e a.2) [
    | inl fault ↦ own_type_fault t (int_sign t) e (λ f r. of_sign kind r) fault
    | inr b ↦
        let s = supported_err (is_int_width a.0) (Int (unsigned_abs a.0) b.0) e b.2 in
        own_type t e (other_width a.0 kind (flat_ok (int_width t) a.0 a.1) s.0) s.1
  ]
]

fixed_refused : (t : TableIn) (e : SchemaRefusal) → kind_slot t ≡ Ok 15 → fixed_type_of t ≡ Err e → OwnDefect t e
unfolding fixed_type_of
fixed_refused t e kind h = elim (bind_err (flat (byte_width t)) _ e h) [
  | inl fault ↦ own_type_fault t (byte_width t) e (λ f r. of_fixed kind r) fault
  | inr a ↦
      let s = supported_err (is_fixed_width a.0) (Fixed (unsigned_abs a.0)) e a.2 in
      own_type t e (other_fixed a.0 kind (flat_ok (byte_width t) a.0 a.1) s.0) s.1
]

number_refused : (t : TableIn) (n : ℕ) (kind : ArrowType) (read : Result ℤ FlatFault) (e : SchemaRefusal) → ((f : FlatFault) → read ≡ Err f → TypeFault f t)
    → ((z : ℤ) → read ≡ Ok z → is_number n z ≡ false → UnsupportedType t) → numbered_type n kind read ≡ Err e → OwnDefect t e
unfolding numbered_type
number_refused t n kind read e fault differs h = elim (bind_err (flat read) _ e h) [
  | inl f ↦ own_type_fault t read e fault f
  | inr a ↦
      let s = supported_err (is_number n a.0) kind e a.2 in
      own_type t e (differs a.0 (flat_ok read a.0 a.1) s.0) s.1
]

with_refused : (t : TableIn) (n : ℕ) (e : SchemaRefusal) → KindView n → kind_slot t ≡ Ok n → type_with t n ≡ Err e → OwnDefect t e
unfolding type_with
with_refused t _ e k2 kind h = int_refused t e kind h
with_refused t _ e k3 kind h = number_refused t 2 Double (precision t) e (λ f r. of_precision kind r) (λ z r x. other_precision z kind r x) h
with_refused t _ e k4 kind h = cc (h)
with_refused t _ e k5 kind h = cc (h)
with_refused t _ e k6 kind h = cc (h)
with_refused t _ e k10 kind h = number_refused t 3 Timestamp (timestamp_unit t) e (λ f r. of_timestamp kind r) (λ z r x. other_timestamp z kind r x) h
with_refused t _ e k12 kind h = cc (h)
with_refused t _ e k13 kind h = cc (h)
with_refused t _ e k15 kind h = fixed_refused t e kind h
with_refused t _ e k18 kind h = number_refused t 3 Duration (duration_unit t) e (λ f r. of_duration kind r) (λ z r x. other_duration z kind r x) h
with_refused t _ e (other n n2 n3 n4 n5 n6 n10 n12 n13 n15 n18) kind h =
    let is : Unsupported ≡ e = cc (rw (n2, n3, n4, n5, n6, n10, n12, n13, n15, n18) at h) in
    own_type t e (other_type n kind (rw (n2, n3, n4, n5, n6, n10, n12, n13, n15, n18) refl)) (sym is)

pub type_refused : (t : TableIn) (e : SchemaRefusal) → type_of t ≡ Err e → OwnDefect t e
unfolding type_of
type_refused t e h = elim (bind_err (flat (kind_slot t)) (type_with t) e h) [
  | inl fault ↦ own_fault t (kind_slot t) e (λ f r. of_kind r) fault
  | inr b ↦ with_refused t b.0 e (view_of b.0) (flat_ok (kind_slot t) b.0 b.1) b.2
]
