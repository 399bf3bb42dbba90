-- The defects that can be in a batch message.
use Rattle.std.proofs.Common.{◌≡◌, ◌⊎◌, inl, inr, ℕ, true, false, List, Some, None, refl, sym, ap}
use Rattle.std.specs.Prelude.{nat_eq}
use Rattle.std.specs.declared.option.Option.{Option}
use Rattle.std.proofs.lemmas.Bool.{cases_Bool}
use Rattle.otlp_messages.specs.declared.messages.Message.{Message}
use Rattle.otlp_messages.specs.declared.messages.Message.TheVariants.{BatchArrowRecords, ArrowPayload}
use Rattle.otlp_messages.specs.declared.messages.FieldKind.{FieldKind}
use Rattle.otlp_messages.specs.declared.messages.FieldKind.TheVariants.{Unknown, Varint, Text, Octets, Embedded}
use Rattle.otlp_messages.specs.declared.messages.Defect.{Defect}
use Rattle.otlp_messages.specs.declared.messages.Defect.TheVariants as defects
use Rattle.otlp_messages.specs.Defects.{Stands, wire_error, twice, in_value, within, ValueFaults, PartFaults, inside}
use Rattle.otlp_messages.specs.Table.{kind_of}
use Rattle.otlp_messages.proofs.Deciding.{decided}
use Rattle.otlp_wire.specs.Wire as wire
use Rattle.otlp_wire.specs.Wire.{FieldValue}
use Rattle.otap_capture.specs.declared.batch.BatchRefusal.{BatchRefusal}
use Rattle.otap_capture.specs.declared.batch.BatchRefusal.TheVariants as refusals
use Rattle.otap_capture.specs.Batch.{BatchContent, ReadsBatch, RefusesBatch, batch_content}
use Rattle.otap_capture.specs.BatchScanning.{IsOfBatch}

-- the messages of a batch, and the kinds of their fields
abbrev InBatch : Message → Type 0
InBatch m = (m ≡ BatchArrowRecords) ⊎ (m ≡ ArrowPayload)

abbrev Simple : FieldKind → Type 0
Simple k = (k ≡ Unknown) ⊎ ((k ≡ Varint) ⊎ ((k ≡ Text) ⊎ ((k ≡ Octets) ⊎ (k ≡ Embedded ArrowPayload))))

simple_of_batch : (n : ℕ) → Simple (kind_of BatchArrowRecords n)
simple_of_batch n = by_number (cases_Bool (nat_eq n 1)) (cases_Bool (nat_eq n 2))
  where
    by_number : (nat_eq n 1 ≡ true) ⊎ (nat_eq n 1 ≡ false) → (nat_eq n 2 ≡ true) ⊎ (nat_eq n 2 ≡ false) → Simple (kind_of BatchArrowRecords n)
    by_number (inl one) second = rw (one, kind_of) (inr (inl refl))
    by_number (inr not_one) (inl two) = rw (not_one, two, kind_of) (inr (inr (inr (inr refl))))
    by_number (inr not_one) (inr not_two) = rw (not_one, not_two, kind_of) (inl refl)

simple_of_payload : (n : ℕ) → Simple (kind_of ArrowPayload n)
simple_of_payload n = by_number (cases_Bool (nat_eq n 1)) (cases_Bool (nat_eq n 2)) (cases_Bool (nat_eq n 3))
  where
    by_number : (nat_eq n 1 ≡ true) ⊎ (nat_eq n 1 ≡ false) → (nat_eq n 2 ≡ true) ⊎ (nat_eq n 2 ≡ false) → (nat_eq n 3 ≡ true) ⊎ (nat_eq n 3 ≡ false)
        → Simple (kind_of ArrowPayload n)
    by_number (inl one) second third = rw (one, kind_of) (inr (inr (inl refl)))
    by_number (inr not_one) (inl two) third = rw (not_one, two, kind_of) (inr (inl refl))
    by_number (inr not_one) (inr not_two) (inl three) = rw (not_one, not_two, three, kind_of) (inr (inr (inr (inl refl))))
    by_number (inr not_one) (inr not_two) (inr not_three) = rw (not_one, not_two, not_three, kind_of) (inl refl)

simple : (m : Message) → InBatch m → (n : ℕ) → Simple (kind_of m n)
simple m (inl batch) n = rw batch (simple_of_batch n)
simple m (inr payload) n = rw payload (simple_of_payload n)

pub bad_message : (e : Defect) → e ≡ defects.BadMessage → IsOfBatch e
bad_message e is = rw is tt

pub bad_text : (e : Defect) → e ≡ defects.BadUtf8 → IsOfBatch e
bad_text e is = rw is tt

part_of_batch : (k : FieldKind) → Simple k → (levels : ℕ) (part : List ℕ) (e : Defect) → PartFaults k levels part e → IsOfBatch e
part_of_batch k (inl is) levels part e fault = absurd (rw is at fault)
part_of_batch k (inr (inl is)) levels part e fault = absurd (rw is at fault)
part_of_batch k (inr (inr (inl is))) levels part e fault = let text = rw is at fault in bad_text e text.0
part_of_batch k (inr (inr (inr (inl is)))) levels part e fault = absurd (rw is at fault)
part_of_batch k (inr (inr (inr (inr is)))) levels part e fault = absurd (rw is at fault)

value_of_batch : (k : FieldKind) → Simple k → (levels : ℕ) (value : FieldValue) (e : Defect) → ValueFaults k levels value e → IsOfBatch e
value_of_batch k s levels (wire.Varint v) e fault = bad_message e fault.0
value_of_batch k s levels (wire.Fixed64 v) e fault = bad_message e fault.0
value_of_batch k s levels (wire.Fixed32 v) e fault = bad_message e fault.0
value_of_batch k s levels (wire.Bytes part) e (inl fault) = bad_message e fault.0
value_of_batch k s levels (wire.Bytes part) e (inr fault) = part_of_batch k s levels part e fault

-- the message of a pair
pub first : {m n : Message} {a b : ℕ} → ◌≡◌ {A = Option (Message × ℕ)} (Some (m, a)) (Some (n, b)) → m ≡ n
first {m} both = ap message both
  where
    message : Option (Message × ℕ) → Message
    message None = m
    message (Some p) = p.0

-- only payloads are inside
payload_inside : (k : FieldKind) → Simple k → (levels : ℕ) (next : Message) (deep : ℕ) → inside k levels ≡ Some (next, deep) → InBatch next
payload_inside k (inl is) levels next deep at = let clash : ◌≡◌ {A = Option (Message × ℕ)} None (Some (next, deep)) = rw is at at in cc
payload_inside k (inr (inl is)) levels next deep at = let clash : ◌≡◌ {A = Option (Message × ℕ)} None (Some (next, deep)) = rw is at at in cc
payload_inside k (inr (inr (inl is))) levels next deep at = let clash : ◌≡◌ {A = Option (Message × ℕ)} None (Some (next, deep)) = rw is at at in cc
payload_inside k (inr (inr (inr (inl is)))) levels next deep at = let clash : ◌≡◌ {A = Option (Message × ℕ)} None (Some (next, deep)) = rw is at at in cc
payload_inside k (inr (inr (inr (inr is)))) levels next deep at =
    let both : ◌≡◌ {A = Option (Message × ℕ)} (Some (ArrowPayload, levels)) (Some (next, deep)) = rw is at at in
    inr (sym (first both))

of_batch : (m : Message) (levels : ℕ) (bytes : List ℕ) (e : Defect) → InBatch m → Stands m levels bytes e → IsOfBatch e
of_batch m levels bytes e is (wire_error _ _ _ w h) = tt
of_batch m levels bytes e is (twice _ _ _ mark some h) = tt
of_batch m levels bytes e is (in_value _ _ _ f _ occurs h) = value_of_batch (kind_of m f.number) (simple m is f.number) levels f.value e h
of_batch m levels bytes e is (within _ _ _ n part next deep _ occurs at h) = of_batch next deep part e (payload_inside (kind_of m n) (simple m is n) levels next deep at) h

-- a defect in a batch is named by a refusal
refused : (bytes : List ℕ) (e : Defect) → IsOfBatch e → Stands BatchArrowRecords 0 bytes e → (refusal : BatchRefusal) × RefusesBatch bytes refusal
refused bytes defects.BadMessage of stands = (refusals.BadMessage, stands)
refused bytes defects.Repeated of stands = (refusals.Repeated, stands)
refused bytes defects.BadUtf8 of stands = (refusals.BadUtf8, stands)
refused bytes defects.BadLength of stands = absurd of
refused bytes defects.Unsupported of stands = absurd of
refused bytes defects.TooDeep of stands = absurd of

pub read_or_refused : (bytes : List ℕ) → ((refusal : BatchRefusal) → RefusesBatch bytes refusal → ⊥) → ReadsBatch bytes (batch_content bytes)
read_or_refused bytes none = (record { none = λ e stands. let r = refused bytes e (of_batch BatchArrowRecords 0 bytes e (inl refl) stands) stands in none r.0 r.1 }, refl)

-- all bytes are read, or refused
pub read_or_not : (bytes : List ℕ) → ((batch : BatchContent) × ReadsBatch bytes batch) ⊎ ((refusal : BatchRefusal) × RefusesBatch bytes refusal)
read_or_not bytes =
    elim (decided BatchArrowRecords 0 bytes) [
      | inl fine ↦ inl (batch_content bytes, (fine, refl))
      | inr d ↦ inr (refused bytes d.0 (of_batch BatchArrowRecords 0 bytes d.0 (inl refl) d.1) d.1)
    ]
