-- Names and uses of a list of fields.
use Rattle.std.specs.Prelude.{◌≡◌, ◌≢◌, ◌⊎◌, ℕ, zero, suc, ◌<◌, ◌==◌, ◌&&◌, not, Bool, true, false, List, [], ◌∷◌, ◌++◌, length, slice_index_or, bytes_eq}
use Rattle.std.specs.Ordering.{int_eq}
use Rattle.std.specs.List.{list_all}
use Rattle.std.proofs.Common.{refl, sym, ap, ◌∙◌, subst, inl, inr, arith}
use Rattle.std.proofs.lemmas.Bool.{eqb-true, eq-eqb, cases_Bool}
use Rattle.std.proofs.lemmas.Bool.Decides.{Decides-int_eq}
use Rattle.std.proofs.lemmas.Slice.Eq.{bytes_eq-Decides}
use Rattle.lists.proofs.Every.{all_pass_at}
use Rattle.arrow_schema.specs.declared.spec.ArrowType.{ArrowType}
use Rattle.arrow_schema.specs.declared.spec.ArrowType.TheVariants.{Bool as Boolean, Int, Double, Utf8, Binary, Fixed, Timestamp, Duration, Struct, List as ListType}
use Rattle.arrow_schema.specs.declared.spec.FieldSpec.{FieldSpec}
use Rattle.arrow_schema.specs.declared.agreement.Use.{Use}
use Rattle.lists.specs.Flags.{same_flag}
use Rattle.arrow_schema.specs.Types.{same_type}
use Rattle.arrow_schema.specs.Trees.{name_in, lacks_name, names_differ, uses_in, uses_of, agrees, agrees_with, uses_agree}

-- ---- names
pub record Twice (fields : List FieldSpec) : Type 0 where
  pub i : ℕ
  pub j : ℕ
  pub before : i < j
  pub inside : j < length fields
  pub same : (d : FieldSpec) → name_in (slice_index_or fields i d) ≡ name_in (slice_index_or fields j d)

found_name : (name : List ℕ) (fields : List FieldSpec) → lacks_name name fields ≡ false → (j : ℕ) × (j < length fields) × ((d : FieldSpec) → name ≡ name_in (slice_index_or fields j d))
found_name name [] h = cc (h)
found_name name (f ∷ fields) h = elim (cases_Bool (bytes_eq name (name_in f))) [
  | inl is ↦ (0, omega arith, λ d. (bytes_eq-Decides name (name_in f)).0 is)
  | inr differs ↦
      let r = found_name name fields (rw differs at h) in
      (suc r.0, omega (arith, r.1), λ d. r.2 d)
]

pub names_twice : (fields : List FieldSpec) → names_differ fields ≡ false → Twice fields
unfolding names_differ
names_twice [] h = cc (h)
names_twice (f ∷ fields) h = elim (cases_Bool (lacks_name (name_in f) fields)) [
  | inr found ↦
      let r = found_name (name_in f) fields found in
      record { i = 0; j = suc r.0; before = omega arith; inside = omega (arith, r.1); same = λ d. r.2 d }
  | inl lacks ↦
      let r = names_twice fields (rw lacks at h) in
      record { i = suc r.i; j = suc r.j; before = omega (arith, r.before); inside = omega (arith, r.inside); same = λ d. r.same d }
]

lacks_at : (name : List ℕ) (fields : List FieldSpec) (j : ℕ) (d : FieldSpec) → lacks_name name fields ≡ true → j < length fields → name ≡ name_in (slice_index_or fields j d) → ⊥
lacks_at name fields j d h lt same =
    let t = all_pass_at (λ f. not (bytes_eq name (name_in f))) fields j d h lt in
    let e = (bytes_eq-Decides name (name_in (slice_index_or fields j d))).1 same in
    cc (rw e at t)

pub names_once : (fields : List FieldSpec) (i j : ℕ) (d : FieldSpec) → names_differ fields ≡ true → i < j → j < length fields
    → name_in (slice_index_or fields i d) ≡ name_in (slice_index_or fields j d) → ⊥
unfolding names_differ
names_once [] i j d h lt within same = omega (arith, within)
names_once (f ∷ fields) i zero d h lt within same = omega (arith, lt)
names_once (f ∷ fields) zero (suc j) d h lt within same = elim (cases_Bool (lacks_name (name_in f) fields)) [
  | inl lacks ↦ lacks_at (name_in f) fields j d lacks (omega (arith, within)) same
  | inr found ↦ cc (rw found at h)
]
names_once (f ∷ fields) (suc i) (suc j) d h lt within same = elim (cases_Bool (lacks_name (name_in f) fields)) [
  | inl lacks ↦ names_once fields i j d (rw lacks at h) (omega (arith, lt)) (omega (arith, within)) same
  | inr found ↦ cc (rw found at h)
]

-- ---- types
same_flag_is : (a b : Bool) → same_flag a b ≡ true → a ≡ b
same_flag_is true true h = refl
same_flag_is true false h = cc (h)
same_flag_is false true h = cc (h)
same_flag_is false false h = refl

same_flag_refl : (a : Bool) → same_flag a a ≡ true
same_flag_refl true = refl
same_flag_refl false = refl

int_same : (a b : ℕ) (s t : Bool) → ((a == b) && same_flag s t) ≡ true → Int a s ≡ Int b t
int_same a b s t h = elim (cases_Bool (a == b)) [
  | inl same ↦ int_is a b s t (eqb-true a b same) (same_flag_is s t (rw same at h))
  | inr differs ↦ cc (rw differs at h)
]
  where
    int_is : (a b : ℕ) (s t : Bool) → a ≡ b → s ≡ t → Int a s ≡ Int b t
    int_is a b s t e f = cc

pub same_type_is : (a b : ArrowType) → same_type a b ≡ true → a ≡ b
same_type_is (Int a s) (Int b t) h = int_same a b s t h
same_type_is (Int a s) b h = cc (h)
same_type_is (Fixed a) (Fixed b) h = ap Fixed (eqb-true a b h)
same_type_is (Fixed a) b h = cc (h)
same_type_is Boolean Boolean h = refl
same_type_is Boolean b h = cc (h)
same_type_is Double Double h = refl
same_type_is Double b h = cc (h)
same_type_is Utf8 Utf8 h = refl
same_type_is Utf8 b h = cc (h)
same_type_is Binary Binary h = refl
same_type_is Binary b h = cc (h)
same_type_is Timestamp Timestamp h = refl
same_type_is Timestamp b h = cc (h)
same_type_is Duration Duration h = refl
same_type_is Duration b h = cc (h)
same_type_is Struct Struct h = refl
same_type_is Struct b h = cc (h)
same_type_is ListType ListType h = refl
same_type_is ListType b h = cc (h)

pub same_type_refl : (a : ArrowType) → same_type a a ≡ true
same_type_refl (Int a s) = rw (eq-eqb a a refl, same_flag_refl s) refl
same_type_refl (Fixed a) = eq-eqb a a refl
same_type_refl Boolean = refl
same_type_refl Double = refl
same_type_refl Utf8 = refl
same_type_refl Binary = refl
same_type_refl Timestamp = refl
same_type_refl Duration = refl
same_type_refl Struct = refl
same_type_refl ListType = refl

-- ---- uses
abbrev pub IsIn : {A : Type 0} → A → List A → Type 0
IsIn x [] = ⊥
IsIn x (y ∷ ys) = (x ≡ y) ⊎ IsIn x ys

pub in_left : {A : Type 0} (x : A) (xs ys : List A) → IsIn x xs → IsIn x (xs ++ ys)
in_left x [] ys h = absurd h
in_left x (y ∷ xs) ys (inl same) = inl same
in_left x (y ∷ xs) ys (inr h) = inr (in_left x xs ys h)

pub in_right : {A : Type 0} (x : A) (xs ys : List A) → IsIn x ys → IsIn x (xs ++ ys)
in_right x [] ys h = h
in_right x (y ∷ xs) ys h = inr (in_right x xs ys h)

pub in_either : {A : Type 0} (x : A) (xs ys : List A) → IsIn x (xs ++ ys) → IsIn x xs ⊎ IsIn x ys
in_either x [] ys h = inr h
in_either x (y ∷ xs) ys (inl same) = inl (inl same)
in_either x (y ∷ xs) ys (inr h) = elim (in_either x xs ys h) [ inl a ↦ inl (inr a) | inr b ↦ inr b ]

-- the uses of fields are those of each of them
pub use_at : (u : Use) (fields : List FieldSpec) → IsIn u (uses_of fields) → (i : ℕ) × (i < length fields) × ((d : FieldSpec) → IsIn u (uses_in (slice_index_or fields i d)))
use_at u [] h = absurd h
use_at u (f ∷ fields) h = elim (in_either u (uses_in f) (uses_of fields) h) [
  | inl here ↦ (0, omega arith, λ d. here)
  | inr there ↦ let r = use_at u fields there in (suc r.0, omega (arith, r.1), λ d. r.2 d)
]

pub use_in : (u : Use) (fields : List FieldSpec) (i : ℕ) (d : FieldSpec) → i < length fields → IsIn u (uses_in (slice_index_or fields i d)) → IsIn u (uses_of fields)
use_in u [] i d lt h = absurd (omega (arith, lt))
use_in u (f ∷ fields) zero d lt h = in_left u (uses_in f) (uses_of fields) h
use_in u (f ∷ fields) (suc i) d lt h = in_right u (uses_in f) (uses_of fields) (use_in u fields i d (omega (arith, lt)) h)

fails_somewhere : {A : Type 0} (p : A → Bool) (xs : List A) → list_all p xs ≡ false → (x : A) × IsIn x xs × (p x ≡ false)
fails_somewhere p [] h = cc (h)
fails_somewhere p (x ∷ xs) h = elim (cases_Bool (p x)) [
  | inl passes ↦ let r = fails_somewhere p xs (rw passes at h) in (r.0, inr r.1, r.2)
  | inr fails ↦ (x, inl refl, fails)
]

passes_everywhere : {A : Type 0} (p : A → Bool) (xs : List A) (x : A) → list_all p xs ≡ true → IsIn x xs → p x ≡ true
passes_everywhere p [] x h member = absurd member
passes_everywhere p (y ∷ ys) x h member = elim (cases_Bool (p y)) [
  | inl passes ↦ elim member [
    | inl same ↦ ap p same ∙ passes
    | inr later ↦ passes_everywhere p ys x (rw passes at h) later
  ]
  | inr fails ↦ cc (rw fails at h)
]

-- two uses of one dictionary with two types
pub record Disagree (uses : List Use) : Type 0 where
  pub a : Use
  pub b : Use
  pub a_in : IsIn a uses
  pub b_in : IsIn b uses
  pub same : a.id ≡ b.id
  pub differ : a.kind ≢ b.kind

disagreeing : (a b : Use) → agrees a b ≡ false → (a.id ≡ b.id) × (a.kind ≢ b.kind)
disagreeing a b h = elim (cases_Bool (int_eq a.id b.id)) [
  | inl same ↦ ((Decides-int_eq a.id b.id).0 same, λ e. kinds_differ a b e (rw same at h))
  | inr differs ↦ cc (rw differs at h)
]
  where
    kinds_differ : (a b : Use) → a.kind ≡ b.kind → same_type a.kind b.kind ≡ false → ⊥
    kinds_differ a b e g = cc (subst (λ (kind : ArrowType). same_type a.kind kind ≡ false) (sym e) g, same_type_refl a.kind)

pub uses_disagree : (uses : List Use) → uses_agree uses ≡ false → Disagree uses
unfolding uses_agree
uses_disagree uses h =
    let x = fails_somewhere (agrees_with uses) uses h in
    let y = fails_somewhere (agrees x.0) uses x.2 in
    let d = disagreeing x.0 y.0 y.2 in
    record { a = x.0; b = y.0; a_in = x.1; b_in = y.1; same = d.0; differ = d.1 }

pub uses_alike : (uses : List Use) (a b : Use) → uses_agree uses ≡ true → IsIn a uses → IsIn b uses → a.id ≡ b.id → a.kind ≡ b.kind
unfolding uses_agree
uses_alike uses a b h a_in b_in same =
    let with_a = passes_everywhere (agrees_with uses) uses a h a_in in
    let both = passes_everywhere (agrees a) uses b with_a b_in in
    let test = (Decides-int_eq a.id b.id).1 same in
    same_type_is a.kind b.kind (rw test at both)
