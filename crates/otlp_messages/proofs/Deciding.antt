-- Whatever the bytes are, they are the message, or a defect is in them.
use Rattle.std.proofs.Common.{◌≡◌, ℕ, zero, suc, ◌+◌, ◌%◌, ◌<◌, ◌≤◌, Bool, cond, List, [], ◌∷◌, ◌++◌, length, append_assoc, append-nil, Option, Some, None, refl, sym, ap, ◌∙◌, subst, ◌⊎◌, inl, inr, arith}
use Rattle.std.specs.Prelude.{◌==◌}
use Rattle.std.specs.Str.{is_utf8}
use Rattle.std.proofs.lemmas.Bool.{cases_eq, cases_lt, cases_Bool, eq-eqb, ne_eqb, false≢true, cond-true, cond-false}
use Rattle.std.proofs.lemmas.Str.{IsUtf8-from_is_utf8, is_utf8-from_IsUtf8}
use Rattle.lists.proofs.Every.{every_append}
use Rattle.otlp_messages.specs.declared.messages.Message.{Message}
use Rattle.otlp_messages.specs.declared.messages.FieldKind.{FieldKind}
use Rattle.otlp_messages.specs.declared.messages.FieldKind.TheVariants.{Unknown, Varint, Fixed64, Fixed32, Packed64, Text, Octets, Id, Embedded, Member, Refused}
use Rattle.otlp_messages.specs.declared.messages.Defect.{Defect}
use Rattle.otlp_messages.specs.declared.messages.Defect.TheVariants.{BadMessage, Repeated, BadUtf8, BadLength, Unsupported, TooDeep}
use Rattle.otlp_wire.specs.declared.parts.WireError.{WireError}
use Rattle.otlp_wire.specs.Wire as wire
use Rattle.otlp_wire.specs.Wire.{FieldValue, Entry}
use Rattle.otlp_wire.specs.Fields.{fields_of, end_of}
use Rattle.otlp_wire.proofs.Readings.{part_len}
use Rattle.otlp_messages.specs.Table.{kind_of, mark_of}
use Rattle.otlp_messages.specs.Defects.{has_type, Stands, wire_error, twice, FineOrDefect}
use Rattle.otlp_messages.specs.Fine.{FinePart, FineValue}
use Rattle.otlp_messages.specs.Inside.{ValueStands}
use Rattle.otlp_messages.proofs.Steps.{marked, count-append, count-one, count-last, AllFine, value_stands, fine_of, value_is_shorter}

-- bytes of a kind have no defect, or one
PartDecided : FieldKind → ℕ → List ℕ → Type 0
PartDecided k l part = FinePart k l part ⊎ ((e : Defect) × ValueStands k l (wire.Bytes part) e)

part_decided : (k : FieldKind) (l : ℕ) (part : List ℕ) → ((next : Message) (deep : ℕ) → FineOrDefect next deep part) → PartDecided k l part
unfolding PartDecided
part_decided Unknown l part inner = inl tt
part_decided Octets l part inner = inl tt
part_decided Varint l part inner = inr (BadMessage, inl (inl (refl, refl)))
part_decided Fixed64 l part inner = inr (BadMessage, inl (inl (refl, refl)))
part_decided Fixed32 l part inner = inr (BadMessage, inl (inl (refl, refl)))
part_decided Packed64 l part inner =
    elim (cases_eq (length part % 8) 0) [ inl whole ↦ inl whole | inr broken ↦ inr (BadMessage, inl (inr (refl, broken))) ]
part_decided Text l part inner =
    elim (cases_Bool (is_utf8 part)) [
      | inl text ↦ inl (IsUtf8-from_is_utf8 part text)
      | inr other ↦ inr (BadUtf8, inl (inr (refl, λ text. false≢true (sym other ∙ is_utf8-from_IsUtf8 part text))))
    ]
part_decided (Id size) l part inner =
    elim (cases_eq (length part) 0) [
      | inl none ↦ inl (inl none)
      | inr some ↦ elim (cases_eq (length part) size) [ inl whole ↦ inl (inr whole) | inr other ↦ inr (BadLength, inl (inr (refl, some, other))) ]
    ]
part_decided (Embedded m) l part inner = elim (inner m l) [ inl fine ↦ inl fine | inr d ↦ inr (d.0, inr d.1) ]
part_decided (Member m) zero part inner = inr (TooDeep, inl (inr (refl, refl)))
part_decided (Member m) (suc l) part inner = elim (inner m l) [ inl fine ↦ inl fine | inr d ↦ inr (d.0, inr d.1) ]
part_decided Refused l part inner = inr (Unsupported, inl (inr refl))

-- so has a value
ValueDecided : FieldKind → ℕ → FieldValue → Type 0
ValueDecided k l v = FineValue k l v ⊎ ((e : Defect) × ValueStands k l v e)

value_decided : (k : FieldKind) (l : ℕ) (v : FieldValue) → ((part : List ℕ) → v ≡ wire.Bytes part → (next : Message) (deep : ℕ) → FineOrDefect next deep part) → ValueDecided k l v
unfolding ValueDecided PartDecided
value_decided k l (wire.Varint n) inner = elim (cases_Bool (has_type k 0)) [ inl has ↦ inl has | inr other ↦ inr (BadMessage, (refl, other)) ]
value_decided k l (wire.Fixed64 n) inner = elim (cases_Bool (has_type k 1)) [ inl has ↦ inl has | inr other ↦ inr (BadMessage, (refl, other)) ]
value_decided k l (wire.Fixed32 n) inner = elim (cases_Bool (has_type k 5)) [ inl has ↦ inl has | inr other ↦ inr (BadMessage, (refl, other)) ]
value_decided k l (wire.Bytes part) inner = part_decided k l part (inner part refl)

-- no field has a defect, and no mark occurs twice; or a defect is in the bytes
record AreFine (m : Message) (l : ℕ) (fs : List Entry) : Type 0 where
  each : AllFine m l fs
  once : (k : ℕ) → 0 < k → marked m k fs ≤ 1

FieldsDecided : Message → ℕ → List ℕ → Type 0
FieldsDecided m l bytes = AreFine m l (fields_of bytes) ⊎ ((e : Defect) × Stands m l bytes e)

-- one more field without a defect
one_fine : (m : Message) (l : ℕ) (done : List Entry) (f : Entry) → AreFine m l done → FineValue (kind_of m f.number) l f.value → (0 < mark_of m f.number → marked m (mark_of m f.number) done ≡ 0)
    → AreFine m l (done ++ f ∷ [])
one_fine m l done f h fine first = record {
  each = every_append (λ g. FineValue (kind_of m g.number) l g.value) done (f ∷ []) h.each (fine, tt);
  once = λ q above.
      let all : marked m q (done ++ f ∷ []) ≡ marked m q done + cond (mark_of m f.number == q) 1 0 =
      count-append (λ g. mark_of m g.number == q) done (f ∷ []) ∙ count-last m q f (marked m q done) in
      elim (cases_eq (mark_of m f.number) q) [
        | inl same ↦
            let none : marked m q done ≡ 0 = subst (λ (k : ℕ). 0 < k → marked m k done ≡ 0) same first above in
            omega (arith, all, none, cond-true {A = ℕ} (mark_of m f.number == q) 1 0 (eq-eqb (mark_of m f.number) q same))
        | inr other ↦
            omega (arith, all, cond-false {A = ℕ} (mark_of m f.number == q) 1 0 (ne_eqb (mark_of m f.number) q other), h.once q above)
      ];
}

-- a mark that occurs again
again : (m : Message) (l : ℕ) (bytes : List ℕ) (done rest : List Entry) (f : Entry) → fields_of bytes ≡ done ++ f ∷ rest → 0 < mark_of m f.number → 0 < marked m (mark_of m f.number) done → Stands m l bytes Repeated
again m l bytes done rest f is above seen =
    let k = mark_of m f.number in
    let p : Entry → Bool = λ g. mark_of m g.number == k in
    let all : marked m k (fields_of bytes) ≡ marked m k done + marked m k (f ∷ rest) = ap (marked m k) is ∙ count-append p done (f ∷ rest) in
    twice m l bytes k above (omega (arith, all, count-one p f rest, cond-true {A = ℕ} (p f) 1 0 (eq-eqb k k refl), seen))

fields_decided : (m : Message) (l : ℕ) (bytes : List ℕ) → ((part : List ℕ) → length part < length bytes → (next : Message) (deep : ℕ) → FineOrDefect next deep part)
    → (done rest : List Entry) → fields_of bytes ≡ done ++ rest → AreFine m l done → FieldsDecided m l bytes
unfolding FieldsDecided ValueDecided
fields_decided m l bytes inner done [] is h = inl (subst (AreFine m l) (sym (is ∙ append-nil done)) h)
fields_decided m l bytes inner done (f ∷ rest) is h =
    let k = mark_of m f.number in
    let shorter = value_is_shorter bytes f (done, rest, is) in
    let longer : fields_of bytes ≡ (done ++ f ∷ []) ++ rest = is ∙ sym (append_assoc done (f ∷ []) rest) in
    elim (value_decided (kind_of m f.number) l f.value (λ part own next deep. inner part (subst (λ (v : FieldValue). part_len v < length bytes) own shorter) next deep)) [
      | inr d ↦ inr (d.0, value_stands m l bytes f.number f.value d.0 (done, rest, is) d.1)
      | inl fine ↦
          elim (cases_lt 0 k) [
            | inr unmarked ↦ fields_decided m l bytes inner (done ++ f ∷ []) rest longer (one_fine m l done f h fine (λ above. absurd (omega (arith, above, unmarked))))
            | inl above ↦
                elim (cases_lt 0 (marked m k done)) [
                  | inl seen ↦ inr (Repeated, again m l bytes done rest f is above seen)
                  | inr fresh ↦ fields_decided m l bytes inner (done ++ f ∷ []) rest longer (one_fine m l done f h fine (λ _. omega (arith, fresh)))
                ]
          ]
    ]

-- the whole message
end_decided : (m : Message) (l : ℕ) (bytes : List ℕ) (end : Option WireError) → end_of bytes ≡ end → FieldsDecided m l bytes → FineOrDefect m l bytes
unfolding FieldsDecided
end_decided m l bytes (Some e) is fields = inr (BadMessage, wire_error m l bytes e is)
end_decided m l bytes None is (inl fine) = inl (fine_of m l bytes (fields_of bytes) refl is fine.each fine.once)
end_decided m l bytes None is (inr d) = inr d

none_fine : (m : Message) (l : ℕ) → AreFine m l []
none_fine m l = record { each = tt; once = λ k above. omega arith }

decided_within : (most : ℕ) (m : Message) (l : ℕ) (bytes : List ℕ) → length bytes ≤ most → FineOrDefect m l bytes
decided_within zero m l bytes within =
    end_decided m l bytes (end_of bytes) refl (fields_decided m l bytes (λ part short next deep. absurd (omega (arith, short, within))) [] (fields_of bytes) refl (none_fine m l))
decided_within (suc most) m l bytes within =
    end_decided m l bytes (end_of bytes) refl
    (fields_decided m l bytes (λ part short next deep. decided_within most next deep part (omega (arith, short, within))) [] (fields_of bytes) refl (none_fine m l))

pub decided : (m : Message) (l : ℕ) (bytes : List ℕ) → FineOrDefect m l bytes
decided m l bytes = decided_within (length bytes) m l bytes (omega arith)
