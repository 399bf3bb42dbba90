-- The defects that can be in an event, and its one field.
use Rattle.std.proofs.Common.{◌≡◌, ◌⊎◌, inl, inr, ℕ, suc, ◌+◌, ◌≤◌, true, false, cond, List, [], ◌∷◌, length, Option, Some, None, refl, sym, ap, ◌∙◌, subst, arith}
use Rattle.std.specs.Prelude.{nat_eq}
use Rattle.std.specs.List.{AllByRecursion}
use Rattle.std.proofs.lemmas.Bool.{cases_Bool, cases_lt, eqb-true, eq-eqb}
use Rattle.otlp_messages.specs.declared.messages.Message.{Message}
use Rattle.otlp_messages.specs.declared.messages.Message.TheVariants as messages
use Rattle.otlp_messages.specs.declared.messages.FieldKind.{FieldKind}
use Rattle.otlp_messages.specs.declared.messages.FieldKind.TheVariants.{Unknown, Octets, Embedded}
use Rattle.otlp_messages.specs.declared.messages.Defect.{Defect}
use Rattle.otlp_messages.specs.declared.messages.Defect.TheVariants as defects
use Rattle.otlp_messages.specs.Defects.{Stands, IsFine, wire_error, twice, in_value, within, ValueFaults, PartFaults, inside}
use Rattle.otlp_messages.specs.Fine.{FinePart}
use Rattle.otlp_messages.specs.Rows.{only, parts_of}
use Rattle.otlp_messages.specs.Table.{kind_of, mark_of}
use Rattle.otlp_messages.proofs.Deciding.{decided}
use Rattle.otlp_messages.proofs.EachFine.{fine_only, parts_fine}
use Rattle.otlp_messages.proofs.Steps.{marked, count-one}
use Rattle.otlp_wire.specs.Fields.{fields_of}
use Rattle.otlp_wire.specs.Wire as wire
use Rattle.otlp_wire.specs.Wire.{FieldValue, Entry}
use Rattle.otap_capture.specs.declared.batch.BatchRefusal.{BatchRefusal}
use Rattle.otap_capture.specs.declared.batch.BatchRefusal.TheVariants as refusals
use Rattle.otap_capture.specs.BatchScanning.{IsOfBatch}
use Rattle.otap_capture.specs.SendEvents.{EventContent, Request, Status, ReadsEvent, RefusesEvent, parts}
use Rattle.otap_capture.specs.Statuses.{status_in}
use Rattle.otap_capture.specs.Batch.{defect_of}
use Rattle.otap_capture.proofs.BatchDefects.{bad_message, first}
use Rattle.otap_capture.proofs.StatusDefects.{of_status}

-- the kinds of its fields
abbrev OfEvent : FieldKind → Type 0
OfEvent k = (k ≡ Unknown) ⊎ ((k ≡ Octets) ⊎ (k ≡ Embedded messages.BatchStatus))

of_event_field : (n : ℕ) → OfEvent (kind_of messages.SendEvent n)
of_event_field n = by_number (cases_Bool (nat_eq n 1)) (cases_Bool (nat_eq n 2))
  where
    by_number : (nat_eq n 1 ≡ true) ⊎ (nat_eq n 1 ≡ false) → (nat_eq n 2 ≡ true) ⊎ (nat_eq n 2 ≡ false) → OfEvent (kind_of messages.SendEvent n)
    by_number (inl one) second = rw (one, kind_of) (inr (inl refl))
    by_number (inr not_one) (inl two) = rw (not_one, two, kind_of) (inr (inr refl))
    by_number (inr not_one) (inr not_two) = rw (not_one, not_two, kind_of) (inl refl)

part_of_event : (k : FieldKind) → OfEvent k → (levels : ℕ) (part : List ℕ) (e : Defect) → PartFaults k levels part e → IsOfBatch e
part_of_event k (inl is) levels part e fault = absurd (rw is at fault)
part_of_event k (inr (inl is)) levels part e fault = absurd (rw is at fault)
part_of_event k (inr (inr is)) levels part e fault = absurd (rw is at fault)

value_of_event : (k : FieldKind) → OfEvent k → (levels : ℕ) (value : FieldValue) (e : Defect) → ValueFaults k levels value e → IsOfBatch e
value_of_event k s levels (wire.Varint v) e fault = bad_message e fault.0
value_of_event k s levels (wire.Fixed64 v) e fault = bad_message e fault.0
value_of_event k s levels (wire.Fixed32 v) e fault = bad_message e fault.0
value_of_event k s levels (wire.Bytes part) e (inl fault) = bad_message e fault.0
value_of_event k s levels (wire.Bytes part) e (inr fault) = part_of_event k s levels part e fault

-- only a status is inside
status_inside : (k : FieldKind) → OfEvent k → (levels : ℕ) (next : Message) (deep : ℕ) → inside k levels ≡ Some (next, deep) → messages.BatchStatus ≡ next
status_inside k (inl is) levels next deep at = let clash : ◌≡◌ {A = Option (Message × ℕ)} None (Some (next, deep)) = rw is at at in cc
status_inside k (inr (inl is)) levels next deep at = let clash : ◌≡◌ {A = Option (Message × ℕ)} None (Some (next, deep)) = rw is at at in cc
status_inside k (inr (inr is)) levels next deep at =
    let both : ◌≡◌ {A = Option (Message × ℕ)} (Some (messages.BatchStatus, levels)) (Some (next, deep)) = rw is at at in
    first both

by_cases : (m : Message) (levels : ℕ) (bytes : List ℕ) (e : Defect) → m ≡ messages.SendEvent → Stands m levels bytes e → IsOfBatch e
by_cases m levels bytes e is (wire_error _ _ _ w h) = tt
by_cases m levels bytes e is (twice _ _ _ mark some h) = tt
by_cases m levels bytes e is (in_value _ _ _ f _ occurs h) = value_of_event (kind_of m f.number) (rw is (of_event_field f.number)) levels f.value e h
by_cases m levels bytes e is (within _ _ _ n part next deep _ occurs at h) =
    let of_kind : OfEvent (kind_of m n) = rw is (of_event_field n) in
    of_status deep part e (subst (λ (x : Message). Stands x deep part e) (sym (status_inside (kind_of m n) of_kind levels next deep at)) h)

-- the defects that can be in an event are those of batch messages
pub of_event : (levels : ℕ) (bytes : List ℕ) (e : Defect) → Stands messages.SendEvent levels bytes e → IsOfBatch e
of_event levels bytes e stands = by_cases messages.SendEvent levels bytes e refl stands

-- a defect in an event is named by a refusal
refused : (bytes : List ℕ) (e : Defect) → IsOfBatch e → Stands messages.SendEvent 0 bytes e → (refusal : BatchRefusal) × RefusesEvent bytes refusal
refused bytes defects.BadMessage of stands = (refusals.BadMessage, inl stands)
refused bytes defects.Repeated of stands = (refusals.Repeated, inl stands)
refused bytes defects.BadUtf8 of stands = (refusals.BadUtf8, inl stands)
refused bytes defects.BadLength of stands = absurd of
refused bytes defects.Unsupported of stands = absurd of
refused bytes defects.TooDeep of stands = absurd of

-- ---- one field at most

-- the fields with the mark are those with the numbers 1 and 2
mark_of_one : (n : ℕ) → nat_eq n 1 ≡ true → mark_of messages.SendEvent n ≡ 1
mark_of_one n one = rw (one, mark_of) refl

mark_of_two : (n : ℕ) → nat_eq n 1 ≡ false → nat_eq n 2 ≡ true → mark_of messages.SendEvent n ≡ 1
mark_of_two n not_one two = rw (not_one, two, mark_of) refl

mark_of_other : (n : ℕ) → nat_eq n 1 ≡ false → nat_eq n 2 ≡ false → mark_of messages.SendEvent n ≡ 0
mark_of_other n not_one not_two = rw (not_one, not_two, mark_of) refl

marked_more : (f : Entry) (fs : List Entry) (mark : ℕ) → mark_of messages.SendEvent f.number ≡ mark
    → marked messages.SendEvent 1 (f ∷ fs) ≡ cond (nat_eq mark 1) 1 0 + marked messages.SendEvent 1 fs
marked_more f fs mark is = count-one (λ g. nat_eq (mark_of messages.SendEvent g.number) 1) f fs ∙ ap (λ m. cond (nat_eq m 1) 1 0 + marked messages.SendEvent 1 fs) is

marked_fields : (fs : List Entry) → marked messages.SendEvent 1 fs ≡ length (only 1 fs) + length (only 2 fs)
marked_fields [] = refl
marked_fields (f ∷ fs) = by_number (cases_Bool (nat_eq f.number 1)) (cases_Bool (nat_eq f.number 2)) (marked_fields fs)
  where
    by_number : (nat_eq f.number 1 ≡ true) ⊎ (nat_eq f.number 1 ≡ false) → (nat_eq f.number 2 ≡ true) ⊎ (nat_eq f.number 2 ≡ false)
        → marked messages.SendEvent 1 fs ≡ length (only 1 fs) + length (only 2 fs)
        → marked messages.SendEvent 1 (f ∷ fs) ≡ length (only 1 (f ∷ fs)) + length (only 2 (f ∷ fs))
    by_number (inl one) (inl two) rest = let one_is = eqb-true f.number 1 one in let two_is = eqb-true f.number 2 two in absurd (omega (arith, one_is, two_is))
    by_number (inl one) (inr not_two) rest = marked_more f fs 1 (mark_of_one f.number one) ∙ rw (only, one, not_two) (omega (arith, rest))
    by_number (inr not_one) (inl two) rest = marked_more f fs 1 (mark_of_two f.number not_one two) ∙ rw (only, not_one, two) (omega (arith, rest))
    by_number (inr not_one) (inr not_two) rest = marked_more f fs 0 (mark_of_other f.number not_one not_two) ∙ rw (only, not_one, not_two) (omega (arith, rest))

one_field : (bytes : List ℕ) → IsFine messages.SendEvent 0 bytes → length (only 1 (fields_of bytes)) + length (only 2 (fields_of bytes)) ≤ 1
one_field bytes fine = elim (cases_lt 1 (marked messages.SendEvent 1 (fields_of bytes))) [
  | inl two ↦ absurd (fine.none defects.Repeated (twice messages.SendEvent 0 bytes 1 (omega arith) two))
  | inr few ↦ (let all = marked_fields (fields_of bytes) in omega (arith, few, all))
]

few_parts : (vs : List FieldValue) → length (parts_of vs) ≤ length vs
few_parts [] = omega arith
few_parts (wire.Bytes part ∷ vs) = let rest = few_parts vs in omega (arith, rest)
few_parts (wire.Varint n ∷ vs) = let rest = few_parts vs in omega (arith, rest)
few_parts (wire.Fixed64 n ∷ vs) = let rest = few_parts vs in omega (arith, rest)
few_parts (wire.Fixed32 n ∷ vs) = let rest = few_parts vs in omega (arith, rest)

pub one_part : (bytes : List ℕ) → IsFine messages.SendEvent 0 bytes → length (parts 1 bytes) + length (parts 2 bytes) ≤ 1
one_part bytes fine =
    let few = one_field bytes fine in
    let requests = few_parts (only 1 (fields_of bytes)) in
    let statuses = few_parts (only 2 (fields_of bytes)) in
    omega (arith, few, requests, statuses)

-- the part of a status has no defect
pub status_fine : (bytes part : List ℕ) (others : List (List ℕ)) → IsFine messages.SendEvent 0 bytes → parts 2 bytes ≡ part ∷ others → IsFine messages.BatchStatus 0 part
status_fine bytes part others fine is =
    let all : AllByRecursion (FinePart (Embedded messages.BatchStatus) 0) (part ∷ others) =
    subst (AllByRecursion (FinePart (Embedded messages.BatchStatus) 0)) is (parts_fine (Embedded messages.BatchStatus) 0 (only 2 (fields_of bytes)) (fine_only messages.SendEvent 0 2 bytes fine)) in
    all.0

-- the first field of a number that has bytes is the only one
first_part : (n : ℕ) (f : Entry) (fs : List Entry) (part : List ℕ) → f ≡ record { number = n; value = wire.Bytes part } → parts_of (only n (f ∷ fs)) ≡ part ∷ parts_of (only n fs)
first_part n f fs part is = rw (is, only, eq-eqb n n refl) refl

alone : (all others : List (List ℕ)) (part : List ℕ) → all ≡ part ∷ others → length all ≤ 1 → all ≡ part ∷ []
alone all [] part is few = is
alone all (other ∷ others) part is few = let size : length all ≡ suc (suc (length others)) = ap length is in absurd (omega (arith, size, few))

pub the_request : (bytes rest new part : List ℕ) → IsFine messages.SendEvent 0 bytes → parts 1 rest ≡ parts 1 bytes
    → fields_of rest ≡ record { number = 1; value = wire.Bytes part } ∷ fields_of new → parts 1 bytes ≡ part ∷ []
the_request bytes rest new part fine same first =
    alone (parts 1 bytes) (parts 1 new) part (sym same ∙ ap (λ fs. parts_of (only 1 fs)) first ∙ first_part 1 _ (fields_of new) part refl)
    (let few = one_part bytes fine in omega (arith, few))

pub the_status : (bytes rest new part : List ℕ) → IsFine messages.SendEvent 0 bytes → parts 2 rest ≡ parts 2 bytes
    → fields_of rest ≡ record { number = 2; value = wire.Bytes part } ∷ fields_of new → parts 2 bytes ≡ part ∷ []
the_status bytes rest new part fine same first =
    alone (parts 2 bytes) (parts 2 new) part (sym same ∙ ap (λ fs. parts_of (only 2 fs)) first ∙ first_part 2 _ (fields_of new) part refl)
    (let few = one_part bytes fine in omega (arith, few))

-- ---- the laws

pub event_once : (bytes : List ℕ) (a b : EventContent) → ReadsEvent bytes a → ReadsEvent bytes b → a ≡ b
event_once bytes (Request p) (Request q) x y = let same : p ∷ [] ≡ q ∷ [] = sym x.1 ∙ y.1 in cc
event_once bytes (Request p) (Status s) x y =
    let few = one_part bytes x.0 in
    let request : length (parts 1 bytes) ≡ 1 = ap length x.1 in
    let status : length (parts 2 bytes) ≡ 1 = ap length y.1.1 in
    absurd (omega (arith, few, request, status))
event_once bytes (Status s) (Request p) x y =
    let few = one_part bytes x.0 in
    let request : length (parts 1 bytes) ≡ 1 = ap length y.1 in
    let status : length (parts 2 bytes) ≡ 1 = ap length x.1.1 in
    absurd (omega (arith, few, request, status))
event_once bytes (Status s) (Status t) x y =
    let same : x.1.0 ∷ [] ≡ y.1.0 ∷ [] = sym x.1.1 ∙ y.1.1 in
    let part : x.1.0 ≡ y.1.0 = cc in
    ap Status (x.1.2.1 ∙ ap status_in part ∙ sym y.1.2.1)

pub not_refused : (bytes : List ℕ) (event : EventContent) (refusal : BatchRefusal) → ReadsEvent bytes event → RefusesEvent bytes refusal → ⊥
not_refused bytes (Request p) refusal reads (inl stands) = reads.0.none (defect_of refusal) stands
not_refused bytes (Status s) refusal reads (inl stands) = reads.0.none (defect_of refusal) stands
not_refused bytes (Request p) refusal reads (inr empty) = let clash : p ∷ [] ≡ [] = sym reads.1 ∙ empty.1.0 in cc
not_refused bytes (Status s) refusal reads (inr empty) = let clash : reads.1.0 ∷ [] ≡ [] = sym reads.1.1 ∙ empty.1.1 in cc

Decided : List ℕ → Type 0
Decided bytes = ((event : EventContent) × ReadsEvent bytes event) ⊎ ((refusal : BatchRefusal) × RefusesEvent bytes refusal)

by_fields : (bytes : List ℕ) → IsFine messages.SendEvent 0 bytes → (requests statuses : List (List ℕ)) → parts 1 bytes ≡ requests → parts 2 bytes ≡ statuses
    → length requests + length statuses ≤ 1 → Decided bytes
unfolding Decided
by_fields bytes fine [] [] one two few = inr (refusals.BadMessage, inr (refl, (one, two)))
by_fields bytes fine (request ∷ []) [] one two few = inl (Request request, (fine, one))
by_fields bytes fine [] (part ∷ []) one two few = inl (Status (status_in part), (fine, (part, two, (status_fine bytes part [] fine two, refl))))
by_fields bytes fine (v ∷ w ∷ requests) statuses one two few = absurd (omega (arith, few))
by_fields bytes fine [] (v ∷ w ∷ statuses) one two few = absurd (omega (arith, few))
by_fields bytes fine (v ∷ []) (w ∷ statuses) one two few = absurd (omega (arith, few))

-- all bytes are read, or refused
pub event_or_not : (bytes : List ℕ) → ((event : EventContent) × ReadsEvent bytes event) ⊎ ((refusal : BatchRefusal) × RefusesEvent bytes refusal)
unfolding Decided
event_or_not bytes =
    elim (decided messages.SendEvent 0 bytes) [
      | inl fine ↦ by_fields bytes fine (parts 1 bytes) (parts 2 bytes) refl refl (one_part bytes fine)
      | inr d ↦ inr (refused bytes d.0 (of_event 0 bytes d.0 d.1) d.1)
    ]
