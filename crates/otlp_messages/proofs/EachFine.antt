-- What the fields of a message without a defect hold.
use Rattle.std.proofs.Common.{◌≡◌, ℕ, zero, suc, ◌%◌, true, false, List, [], ◌∷◌, ◌++◌, length, append_assoc, refl, sym, ◌∙◌, subst, inl, inr}
use Rattle.std.specs.Prelude.{fold, IsUtf8}
use Rattle.std.specs.List.{AllByRecursion}
use Rattle.std.specs.Str.{is_utf8}
use Rattle.std.proofs.lemmas.Bool.{cases_eq, cases_Bool, false≢true, eq-eqb, ne_eqb}
use Rattle.std.proofs.lemmas.Str.{IsUtf8-nil, IsUtf8-from_is_utf8, is_utf8-from_IsUtf8}
use Rattle.otlp_messages.specs.declared.messages.Message.{Message}
use Rattle.otlp_messages.specs.declared.messages.FieldKind.{FieldKind}
use Rattle.otlp_messages.specs.declared.messages.FieldKind.TheVariants.{Unknown, Varint, Fixed64, Fixed32, Packed64, Text, Octets, Id, Embedded, Member, Refused}
use Rattle.otlp_messages.specs.declared.messages.Defect.{Defect}
use Rattle.otlp_messages.specs.declared.messages.Defect.TheVariants.{BadMessage, BadUtf8, BadLength, Unsupported, TooDeep}
use Rattle.otlp_wire.specs.Wire as wire
use Rattle.otlp_wire.specs.Wire.{FieldValue, Entry}
use Rattle.otlp_wire.specs.Fields.{fields_of}
use Rattle.otlp_messages.specs.Table.{kind_of}
use Rattle.otlp_messages.specs.Defects.{has_type, Occurs, IsFine}
use Rattle.otlp_messages.specs.Fine.{FinePart, FineValue}
use Rattle.otlp_messages.specs.Rows.{only, said, bytes_in, parts_of}
use Rattle.otlp_messages.specs.Inside.{ValueStands}
use Rattle.otlp_messages.proofs.Steps.{AllFine, value_stands}

-- the value has no defect
None_in : FieldKind → ℕ → FieldValue → Type 0
None_in k l v = (e : Defect) → ValueStands k l v e → ⊥

other_type : (k : FieldKind) (l : ℕ) (part : List ℕ) → has_type k 2 ≡ false → None_in k l (wire.Bytes part) → ⊥
unfolding None_in
other_type k l part other none = none BadMessage (inl (inl (refl, other)))

fine_part : (k : FieldKind) (l : ℕ) (part : List ℕ) → None_in k l (wire.Bytes part) → FinePart k l part
unfolding None_in
fine_part Unknown l part none = tt
fine_part Octets l part none = tt
fine_part Packed64 l part none =
    elim (cases_eq (length part % 8) 0) [ inl whole ↦ whole | inr broken ↦ absurd (none BadMessage (inl (inr (refl, broken)))) ]
fine_part Text l part none =
    elim (cases_Bool (is_utf8 part)) [
      | inl text ↦ IsUtf8-from_is_utf8 part text
      | inr no_text ↦ absurd (none BadUtf8 (inl (inr (refl, λ text. false≢true (sym no_text ∙ is_utf8-from_IsUtf8 part text)))))
    ]
fine_part (Id size) l part none =
    elim (cases_eq (length part) 0) [
      | inl empty ↦ inl empty
      | inr some ↦ elim (cases_eq (length part) size) [ inl whole ↦ inr whole | inr other ↦ absurd (none BadLength (inl (inr (refl, some, other)))) ]
    ]
fine_part (Embedded m) l part none = record { none = λ e s. none e (inr s) }
fine_part (Member m) zero part none = absurd (none TooDeep (inl (inr (refl, refl))))
fine_part (Member m) (suc l) part none = record { none = λ e s. none e (inr s) }
fine_part Refused l part none = absurd (none Unsupported (inl (inr refl)))
fine_part Varint l part none = absurd (other_type Varint l part refl none)
fine_part Fixed64 l part none = absurd (other_type Fixed64 l part refl none)
fine_part Fixed32 l part none = absurd (other_type Fixed32 l part refl none)

fine_other : (k : FieldKind) (t : ℕ) → (has_type k t ≡ false → ⊥) → has_type k t ≡ true
fine_other k t some = elim (cases_Bool (has_type k t)) [ inl has ↦ has | inr has_not ↦ absurd (some has_not) ]

fine_value : (k : FieldKind) (l : ℕ) (v : FieldValue) → None_in k l v → FineValue k l v
unfolding None_in
fine_value k l (wire.Varint n) none = fine_other k 0 (λ h. none BadMessage (refl, h))
fine_value k l (wire.Fixed64 n) none = fine_other k 1 (λ h. none BadMessage (refl, h))
fine_value k l (wire.Fixed32 n) none = fine_other k 5 (λ h. none BadMessage (refl, h))
fine_value k l (wire.Bytes part) none = fine_part k l part none

pub fine_field : (m : Message) (l : ℕ) (bytes : List ℕ) (f : Entry) → IsFine m l bytes → Occurs bytes f → FineValue (kind_of m f.number) l f.value
unfolding None_in
fine_field m l bytes f fine occurs = fine_value (kind_of m f.number) l f.value (λ e s. fine.none e (value_stands m l bytes f.number f.value e occurs s))

-- what holds of each element, whatever comes before and after it
all_after : {X : Type 0} (P : X → Type 0) (front rest : List X) → ((before after : List X) (x : X) → front ++ rest ≡ before ++ x ∷ after → P x) → AllByRecursion P rest
all_after P front [] each = tt
all_after P front (x ∷ rest) each =
    (each front rest x refl, all_after P (front ++ x ∷ []) rest (λ before after y is. each before after y (sym (append_assoc front (x ∷ []) rest) ∙ is)))

pub fine_fields : (m : Message) (l : ℕ) (bytes : List ℕ) → IsFine m l bytes → AllFine m l (fields_of bytes)
fine_fields m l bytes fine =
    all_after (λ f. FineValue (kind_of m f.number) l f.value) [] (fields_of bytes) (λ before after f is. fine_field m l bytes f fine (before, after, is))

-- the values of one number
pub only_fine : (m : Message) (l n : ℕ) (fs : List Entry) → AllFine m l fs → AllByRecursion (FineValue (kind_of m n) l) (only n fs)
only_fine m l n [] fine = tt
only_fine m l n (f ∷ fs) fine =
    elim (cases_eq f.number n) [
      | inl same ↦ rw (eq-eqb f.number n same) (subst (λ (k : ℕ). FineValue (kind_of m k) l f.value) same fine.0, only_fine m l n fs fine.1)
      | inr other ↦ rw (ne_eqb f.number n other) (only_fine m l n fs fine.1)
    ]

pub fine_only : (m : Message) (l n : ℕ) (bytes : List ℕ) → IsFine m l bytes → AllByRecursion (FineValue (kind_of m n) l) (only n (fields_of bytes))
fine_only m l n bytes fine = only_fine m l n (fields_of bytes) (fine_fields m l bytes fine)

-- a text that is said is UTF-8
texts : (l : ℕ) (old : List ℕ) (vs : List FieldValue) → IsUtf8 old → AllByRecursion (FineValue Text l) vs → IsUtf8 (fold bytes_in old vs)
texts l old [] text fine = text
texts l old (wire.Bytes part ∷ vs) text fine = texts l part vs fine.0 fine.1
texts l old (wire.Varint n ∷ vs) text fine = texts l old vs text fine.1
texts l old (wire.Fixed64 n ∷ vs) text fine = texts l old vs text fine.1
texts l old (wire.Fixed32 n ∷ vs) text fine = texts l old vs text fine.1

pub text_said : (m : Message) (l n : ℕ) (bytes : List ℕ) → kind_of m n ≡ Text → IsFine m l bytes → IsUtf8 (said n bytes_in [] bytes)
text_said m l n bytes is fine =
    texts l [] (only n (fields_of bytes)) IsUtf8-nil (subst (λ (k : FieldKind). AllByRecursion (FineValue k l) (only n (fields_of bytes))) is (fine_only m l n bytes fine))

-- the messages of a number
pub parts_fine : (k : FieldKind) (l : ℕ) (vs : List FieldValue) → AllByRecursion (FineValue k l) vs → AllByRecursion (FinePart k l) (parts_of vs)
parts_fine k l [] fine = tt
parts_fine k l (wire.Bytes part ∷ vs) fine = (fine.0, parts_fine k l vs fine.1)
parts_fine k l (wire.Varint n ∷ vs) fine = parts_fine k l vs fine.1
parts_fine k l (wire.Fixed64 n ∷ vs) fine = parts_fine k l vs fine.1
parts_fine k l (wire.Fixed32 n ∷ vs) fine = parts_fine k l vs fine.1
