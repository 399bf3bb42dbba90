-- What a stream does with a payload.
use Rattle.std.proofs.Common.{◌≡◌, ℕ, Bool, true, false, List, [], ◌∷◌, ◌++◌, Option, Some, None, ℤ, if◌then◌else◌, refl, sym, ap, ◌∙◌, subst}
use Rattle.std.specs.Prelude.{bytes_eq}
use Rattle.std.specs.Ordering.{int_eq}
use Rattle.std.proofs.lemmas.Bool.{both_ways}
use Rattle.std.proofs.lemmas.Bool.Decides.{Decides-int_eq}
use Rattle.std.proofs.lemmas.Slice.Eq.{bytes_eq-Decides}
use Rattle.lists.specs.Payloads.{PayloadIn}
use Rattle.arrow_ipc.specs.declared.messages.IpcMessage.{IpcMessage}
use Rattle.arrow_ipc.specs.Fronts.{front_of}
use Rattle.otap_cells.specs.declared.payload.Kind.{Kind}
use Rattle.otap_columns.specs.declared.refusal.ColumnRefusal.{ColumnRefusal}
use Rattle.otap_columns.specs.declared.refusal.ColumnRefusal.TheVariants as refusal
use Rattle.otap_columns.specs.Records as records
use Rattle.otap_columns.specs.Streams.{opens_after, opens, last_of, stream_of}
use Rattle.otap_columns.specs.Views as views
use Rattle.otap_columns.specs.Views.{ReaderIn, StandsFor, StandsForRecord, Shows}
use Rattle.otap_consume.specs.Defects.{is_open_id}
use Rattle.otap_consume.specs.Payloads.{payload_type_of, messages_before}
use Rattle.otap_consume.specs.Streams.{OpenIn, StreamIn, IsOpenAfter, IsAfter}
use Rattle.otap_consume.specs.StreamSteps.{Takes, DoesNotTake, RefusesFor, id_if, schema_id_of}
use Rattle.otap_columns.proofs.Openings.{stream_of-other, stream_of-own}
use Rattle.otap_consume.proofs.Substreams.{last_of-other, last_of-own}

-- what is open stays open after a payload of another type
moved : (past : List PayloadIn) (p : PayloadIn) (kind : Kind) → int_eq p.kind (payload_type_of kind) ≡ false → (last : Option PayloadIn) (current : Option OpenIn)
    → IsOpenAfter past kind last current → IsOpenAfter (past ++ p ∷ []) kind last current
moved past p kind other None None h = tt
moved past p kind other None (Some current) h = absurd h
moved past p kind other (Some last) None h = absurd h
moved past p kind other (Some last) (Some current) h = record {
  id = h.id;
  stands = subst (λ (ms : List IpcMessage). StandsForRecord ms last.bytes current.reader) (sym (stream_of-other (payload_type_of kind) past p other)) h.stands;
  shows = h.shows;
}

pub passes : (s : StreamIn) (p : PayloadIn) → int_eq p.kind (payload_type_of s.kind) ≡ false → Takes s p s
passes s p other = record {
  kind = refl;
  other = λ _. refl;
  shows = λ own. absurd (both_ways (int_eq p.kind (payload_type_of s.kind)) other own);
  reads = λ past is own. absurd (both_ways (int_eq p.kind (payload_type_of s.kind)) other own);
  after = λ past is. record {
    current = subst (λ (last : Option PayloadIn). IsOpenAfter (past ++ p ∷ []) s.kind last s.current) (sym (last_of-other (payload_type_of s.kind) past p other))
        (moved past p s.kind other (last_of (payload_type_of s.kind) past) s.current is.current);
  };
}

-- the payload's type is that of the kind
same_type : (p : PayloadIn) (kind : Kind) → int_eq p.kind (payload_type_of kind) ≡ true → p.kind ≡ payload_type_of kind
same_type p kind own = (Decides-int_eq p.kind (payload_type_of kind)).0 own

-- where the payload opens, its record comes after no messages; else after those of the sub-stream
before_open : (past : List PayloadIn) (p : PayloadIn) (kind : Kind) (b : Bool) → p.kind ≡ payload_type_of kind → opens_after (last_of (payload_type_of kind) past) p ≡ b
    → messages_before past p ≡ (if b then [] else stream_of (payload_type_of kind) past)
unfolding opens
before_open past p kind b same is =
    let here : opens past p ≡ b = ap (λ (type : ℤ). opens_after (last_of type past) p) same ∙ is in
    rw (here, same) refl

-- a further record of the sub-stream that is open
pub record GoesOn (past : List PayloadIn) (p : PayloadIn) (kind : Kind) (current : OpenIn) : Type 0 where
  pub before : messages_before past p ≡ stream_of (payload_type_of kind) past
  pub after : stream_of (payload_type_of kind) (past ++ p ∷ []) ≡ stream_of (payload_type_of kind) past ++ front_of p.bytes
  pub stands : StandsFor (stream_of (payload_type_of kind) past) current.reader

going : (past : List PayloadIn) (p : PayloadIn) (kind : Kind) (current : OpenIn) → int_eq p.kind (payload_type_of kind) ≡ true → bytes_eq current.schema_id p.schema_id ≡ true
    → (last : Option PayloadIn) → last_of (payload_type_of kind) past ≡ last → IsOpenAfter past kind last (Some current) → GoesOn past p kind current
going past p kind current own same None is h = absurd h
going past p kind current own same (Some last) is h =
    let stays : opens_after (last_of (payload_type_of kind) past) p ≡ false = rw (is, ← h.id, same) refl in
    record {
      before = before_open past p kind false (same_type p kind own) stays;
      after = stream_of-own (payload_type_of kind) past p own ∙ rw stays refl;
      stands = h.stands.stands;
    }

-- one that opens another sub-stream
pub record Begins (past : List PayloadIn) (p : PayloadIn) (kind : Kind) : Type 0 where
  pub before : messages_before past p ≡ []
  pub after : stream_of (payload_type_of kind) (past ++ p ∷ []) ≡ front_of p.bytes

beginning : (past : List PayloadIn) (p : PayloadIn) (kind : Kind) (current : Option OpenIn) → int_eq p.kind (payload_type_of kind) ≡ true → is_open_id p.schema_id (id_if current) ≡ false
    → (last : Option PayloadIn) → last_of (payload_type_of kind) past ≡ last → IsOpenAfter past kind last current → Begins past p kind
beginning past p kind None own other None is h =
    let opens : opens_after (last_of (payload_type_of kind) past) p ≡ true = rw is refl in
    record { before = before_open past p kind true (same_type p kind own) opens; after = stream_of-own (payload_type_of kind) past p own ∙ rw opens refl }
beginning past p kind (Some current) own other None is h = absurd h
beginning past p kind None own other (Some last) is h = absurd h
beginning past p kind (Some current) own other (Some last) is h =
    let opens : opens_after (last_of (payload_type_of kind) past) p ≡ true = rw (is, ← h.id, other) refl in
    record { before = before_open past p kind true (same_type p kind own) opens; after = stream_of-own (payload_type_of kind) past p own ∙ rw opens refl }

-- the sub-stream that the payload belongs to is open, and read to it
read_to : (past : List PayloadIn) (p : PayloadIn) (kind : Kind) (id : List ℕ) (reader : ReaderIn) → int_eq p.kind (payload_type_of kind) ≡ true → id ≡ p.schema_id
    → StandsForRecord (stream_of (payload_type_of kind) (past ++ p ∷ [])) p.bytes reader → Shows reader p.bytes
    → IsAfter (past ++ p ∷ []) (record { kind = kind; current = Some (record { schema_id = id; reader = reader }) })
read_to past p kind id reader own same stands shows = record {
  current = subst (λ (last : Option PayloadIn). IsOpenAfter (past ++ p ∷ []) kind last (Some (record { schema_id = id; reader = reader }))) (sym (last_of-own (payload_type_of kind) past p own))
      (record { id = same; stands = stands; shows = shows });
}

pub goes_on : (s : StreamIn) (current : OpenIn) (p : PayloadIn) (kind : Kind) (id : List ℕ) (reader : ReaderIn) → s.kind ≡ kind → s.current ≡ Some current → id ≡ current.schema_id
    → current.reader.kind ≡ s.kind → int_eq p.kind (payload_type_of s.kind) ≡ true → is_open_id p.schema_id (schema_id_of s) ≡ true → views.Takes current.reader p.bytes reader → Shows reader p.bytes
    → Takes s p (record { kind = kind; current = Some (record { schema_id = id; reader = reader }) })
goes_on s current p kind id reader kept there same of own has takes shows =
    let named : bytes_eq current.schema_id p.schema_id ≡ true = subst (λ (o : Option OpenIn). is_open_id p.schema_id (id_if o) ≡ true) there has in
    let is_open : (past : List PayloadIn) → IsAfter past s → IsOpenAfter past s.kind (last_of (payload_type_of s.kind) past) (Some current)
    = λ past is. subst (λ (o : Option OpenIn). IsOpenAfter past s.kind (last_of (payload_type_of s.kind) past) o) there is.current in
    subst (λ (k : Kind). Takes s p (record { kind = k; current = Some (record { schema_id = id; reader = reader }) })) kept
    (record {
      kind = refl;
      other = λ other. absurd (both_ways (int_eq p.kind (payload_type_of s.kind)) other own);
      shows = λ _. shows;
      reads = λ past is _.
          let on : GoesOn past p s.kind current = going past p s.kind current own named (last_of (payload_type_of s.kind) past) refl (is_open past is) in
          subst (λ (k : Kind). records.IsRead k (messages_before past p) p.bytes) of
          (subst (λ (ms : List IpcMessage). records.IsRead current.reader.kind ms p.bytes) (sym on.before) (takes (stream_of (payload_type_of s.kind) past) on.stands).0);
      after = λ past is.
          let on : GoesOn past p s.kind current = going past p s.kind current own named (last_of (payload_type_of s.kind) past) refl (is_open past is) in
          read_to past p s.kind id reader own (same ∙ (bytes_eq-Decides current.schema_id p.schema_id).0 named)
          (subst (λ (ms : List IpcMessage). StandsForRecord ms p.bytes reader) (sym on.after) (takes (stream_of (payload_type_of s.kind) past) on.stands).1) shows;
    })

pub begins : (s : StreamIn) (p : PayloadIn) (kind : Kind) (id : List ℕ) (reader : ReaderIn) → s.kind ≡ kind → id ≡ p.schema_id → int_eq p.kind (payload_type_of s.kind) ≡ true
    → is_open_id p.schema_id (schema_id_of s) ≡ false → records.IsRead kind [] p.bytes → StandsForRecord (front_of p.bytes) p.bytes reader → Shows reader p.bytes
    → Takes s p (record { kind = kind; current = Some (record { schema_id = id; reader = reader }) })
begins s p kind id reader kept same own new read stands shows =
    let opening : (past : List PayloadIn) → IsAfter past s → Begins past p s.kind = λ past is. beginning past p s.kind s.current own new (last_of (payload_type_of s.kind) past) refl is.current in
    subst (λ (k : Kind). Takes s p (record { kind = k; current = Some (record { schema_id = id; reader = reader }) })) kept
    (record {
      kind = refl;
      other = λ other. absurd (both_ways (int_eq p.kind (payload_type_of s.kind)) other own);
      shows = λ _. shows;
      reads = λ past is _.
          subst (λ (ms : List IpcMessage). records.IsRead s.kind ms p.bytes) (sym (opening past is).before) (subst (λ (k : Kind). records.IsRead k [] p.bytes) (sym kept) read);
      after = λ past is. read_to past p s.kind id reader own same (subst (λ (ms : List IpcMessage). StandsForRecord ms p.bytes reader) (sym (opening past is).after) stands) shows;
    })

-- ---- refusals

refuses_for : (past : List PayloadIn) (kind : Kind) (p : PayloadIn) (why : ColumnRefusal) → int_eq p.kind (payload_type_of kind) ≡ true
    → records.Refuses kind (messages_before past p) p.bytes why → RefusesFor past kind p why
refuses_for past kind p refusal.Order own h = (own, h)
refuses_for past kind p (refusal.Ipc fault) own h = (own, h)
refuses_for past kind p refusal.Column own h = (own, h)
refuses_for past kind p (refusal.Buffers fault) own h = (own, h)
refuses_for past kind p refusal.BadIndex own h = (own, h)
refuses_for past kind p refusal.DictionarySize own h = (own, h)
refuses_for past kind p (refusal.Memory e) own h = tt

pub goes_on_not : (s : StreamIn) (current : OpenIn) (p : PayloadIn) (why : ColumnRefusal) → s.current ≡ Some current → current.reader.kind ≡ s.kind
    → int_eq p.kind (payload_type_of s.kind) ≡ true → is_open_id p.schema_id (schema_id_of s) ≡ true
    → ((past : List IpcMessage) → StandsFor past current.reader → records.Refuses current.reader.kind past p.bytes why) → DoesNotTake s p why
goes_on_not s current p why there of own has refuses past is =
    let named : bytes_eq current.schema_id p.schema_id ≡ true = subst (λ (o : Option OpenIn). is_open_id p.schema_id (id_if o) ≡ true) there has in
    let is_open : IsOpenAfter past s.kind (last_of (payload_type_of s.kind) past) (Some current)
    = subst (λ (o : Option OpenIn). IsOpenAfter past s.kind (last_of (payload_type_of s.kind) past) o) there is.current in
    let on : GoesOn past p s.kind current = going past p s.kind current own named (last_of (payload_type_of s.kind) past) refl is_open in
    refuses_for past s.kind p why own
    (subst (λ (k : Kind). records.Refuses k (messages_before past p) p.bytes why) of
    (subst (λ (ms : List IpcMessage). records.Refuses current.reader.kind ms p.bytes why) (sym on.before) (refuses (stream_of (payload_type_of s.kind) past) on.stands)))

pub begins_not : (s : StreamIn) (p : PayloadIn) (why : ColumnRefusal) (kind : Kind) → s.kind ≡ kind → int_eq p.kind (payload_type_of s.kind) ≡ true
    → is_open_id p.schema_id (schema_id_of s) ≡ false → records.Refuses kind [] p.bytes why → DoesNotTake s p why
begins_not s p why kind kept own new refuses past is =
    refuses_for past s.kind p why own
    (subst (λ (ms : List IpcMessage). records.Refuses s.kind ms p.bytes why) (sym (beginning past p s.kind s.current own new (last_of (payload_type_of s.kind) past) refl is.current).before)
    (subst (λ (k : Kind). records.Refuses k [] p.bytes why) (sym kept) refuses))
