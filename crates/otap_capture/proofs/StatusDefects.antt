-- The defects that can be in a status.
use Rattle.std.proofs.Common.{◌≡◌, ◌⊎◌, inl, inr, ℕ, true, false, List, Some, None, refl}
use Rattle.std.specs.Prelude.{nat_eq}
use Rattle.std.specs.declared.option.Option.{Option}
use Rattle.std.proofs.lemmas.Bool.{cases_Bool}
use Rattle.otlp_messages.specs.declared.messages.Message.{Message}
use Rattle.otlp_messages.specs.declared.messages.Message.TheVariants.{BatchStatus}
use Rattle.otlp_messages.specs.declared.messages.FieldKind.{FieldKind}
use Rattle.otlp_messages.specs.declared.messages.FieldKind.TheVariants.{Unknown, Varint, Text}
use Rattle.otlp_messages.specs.declared.messages.Defect.{Defect}
use Rattle.otlp_messages.specs.declared.messages.Defect.TheVariants as defects
use Rattle.otlp_messages.specs.Defects.{Stands, wire_error, twice, in_value, within, ValueFaults, PartFaults, inside}
use Rattle.otlp_messages.specs.Table.{kind_of}
use Rattle.otlp_messages.proofs.Deciding.{decided}
use Rattle.otlp_wire.specs.Wire as wire
use Rattle.otlp_wire.specs.Wire.{FieldValue}
use Rattle.otap_capture.specs.declared.batch.BatchRefusal.{BatchRefusal}
use Rattle.otap_capture.specs.declared.batch.BatchRefusal.TheVariants as refusals
use Rattle.otap_capture.specs.BatchScanning.{IsOfBatch}
use Rattle.otap_capture.specs.Statuses.{StatusContent, ReadsStatus, RefusesStatus, status_in}
use Rattle.otap_capture.proofs.BatchDefects.{bad_message, bad_text}

-- the kinds of its fields
abbrev Plain : FieldKind → Type 0
Plain k = (k ≡ Unknown) ⊎ ((k ≡ Varint) ⊎ (k ≡ Text))

plain : (n : ℕ) → Plain (kind_of BatchStatus n)
plain n = by_number (cases_Bool (nat_eq n 1)) (cases_Bool (nat_eq n 2)) (cases_Bool (nat_eq n 3))
  where
    by_number : (nat_eq n 1 ≡ true) ⊎ (nat_eq n 1 ≡ false) → (nat_eq n 2 ≡ true) ⊎ (nat_eq n 2 ≡ false) → (nat_eq n 3 ≡ true) ⊎ (nat_eq n 3 ≡ false)
        → Plain (kind_of BatchStatus n)
    by_number (inl one) second third = rw (one, kind_of) (inr (inl refl))
    by_number (inr not_one) (inl two) third = rw (not_one, two, kind_of) (inr (inl refl))
    by_number (inr not_one) (inr not_two) (inl three) = rw (not_one, not_two, three, kind_of) (inr (inr refl))
    by_number (inr not_one) (inr not_two) (inr not_three) = rw (not_one, not_two, not_three, kind_of) (inl refl)

plain_of : (m : Message) → m ≡ BatchStatus → (n : ℕ) → Plain (kind_of m n)
plain_of m is n = rw is (plain n)

of_part : (k : FieldKind) → Plain k → (levels : ℕ) (part : List ℕ) (e : Defect) → PartFaults k levels part e → IsOfBatch e
of_part k (inl is) levels part e fault = absurd (rw is at fault)
of_part k (inr (inl is)) levels part e fault = absurd (rw is at fault)
of_part k (inr (inr is)) levels part e fault = let text = rw is at fault in bad_text e text.0

of_value : (k : FieldKind) → Plain k → (levels : ℕ) (value : FieldValue) (e : Defect) → ValueFaults k levels value e → IsOfBatch e
of_value k s levels (wire.Varint v) e fault = bad_message e fault.0
of_value k s levels (wire.Fixed64 v) e fault = bad_message e fault.0
of_value k s levels (wire.Fixed32 v) e fault = bad_message e fault.0
of_value k s levels (wire.Bytes part) e (inl fault) = bad_message e fault.0
of_value k s levels (wire.Bytes part) e (inr fault) = of_part k s levels part e fault

-- no message is inside
none_inside : (k : FieldKind) → Plain k → (levels : ℕ) (p : Message × ℕ) → inside k levels ≡ Some p → ⊥
none_inside k (inl is) levels p at = let clash : ◌≡◌ {A = Option (Message × ℕ)} None (Some p) = rw is at at in cc
none_inside k (inr (inl is)) levels p at = let clash : ◌≡◌ {A = Option (Message × ℕ)} None (Some p) = rw is at at in cc
none_inside k (inr (inr is)) levels p at = let clash : ◌≡◌ {A = Option (Message × ℕ)} None (Some p) = rw is at at in cc

by_cases : (m : Message) (levels : ℕ) (bytes : List ℕ) (e : Defect) → m ≡ BatchStatus → Stands m levels bytes e → IsOfBatch e
by_cases m levels bytes e is (wire_error _ _ _ w h) = tt
by_cases m levels bytes e is (twice _ _ _ mark some h) = tt
by_cases m levels bytes e is (in_value _ _ _ f _ occurs h) = of_value (kind_of m f.number) (plain_of m is f.number) levels f.value e h
by_cases m levels bytes e is (within _ _ _ n part next deep _ occurs at h) = absurd (none_inside (kind_of m n) (plain_of m is n) levels (next, deep) at)

pub of_status : (levels : ℕ) (bytes : List ℕ) (e : Defect) → Stands BatchStatus levels bytes e → IsOfBatch e
of_status levels bytes e stands = by_cases BatchStatus levels bytes e refl stands

-- a defect in a status is named by a refusal
refused : (bytes : List ℕ) (e : Defect) → IsOfBatch e → Stands BatchStatus 0 bytes e → (refusal : BatchRefusal) × RefusesStatus bytes refusal
refused bytes defects.BadMessage of stands = (refusals.BadMessage, stands)
refused bytes defects.Repeated of stands = (refusals.Repeated, stands)
refused bytes defects.BadUtf8 of stands = (refusals.BadUtf8, stands)
refused bytes defects.BadLength of stands = absurd of
refused bytes defects.Unsupported of stands = absurd of
refused bytes defects.TooDeep of stands = absurd of

pub status_or_refused : (bytes : List ℕ) → ((refusal : BatchRefusal) → RefusesStatus bytes refusal → ⊥) → ReadsStatus bytes (status_in bytes)
status_or_refused bytes none = (record { none = λ e stands. let r = refused bytes e (of_status 0 bytes e stands) stands in none r.0 r.1 }, refl)

-- each list of bytes is read or refused
pub status_or_not : (bytes : List ℕ) → ((status : StatusContent) × ReadsStatus bytes status) ⊎ ((refusal : BatchRefusal) × RefusesStatus bytes refusal)
status_or_not bytes =
    elim (decided BatchStatus 0 bytes) [
      | inl fine ↦ inl (status_in bytes, (fine, refl))
      | inr d ↦ inr (refused bytes d.0 (of_status 0 bytes d.0 d.1) d.1)
    ]
