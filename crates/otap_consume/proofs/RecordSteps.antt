-- The streams take one more payload.
use Rattle.std.proofs.Common.{◌≡◌, ◌⊎◌, inl, inr, ℕ, ◌<◌, true, false, List, [], ◌∷◌, ◌++◌, length, get_or, map, Option, Some, None, refl, sym, ap, ◌∙◌, subst, append_assoc, append-nil, arith}
use Rattle.std.specs.Prelude.{slice_set, zero, suc}
use Rattle.std.specs.Ordering.{int_eq}
use Rattle.std.proofs.lemmas.Bool.{cases_Bool}
use Rattle.std.proofs.lemmas.List.{get_or-map, length-map, same_lists}
use Rattle.otlp_model.specs.declared.request.Signal.{Signal}
use Rattle.otap_cells.specs.declared.payload.Kind.{Kind}
use Rattle.otap_cells.specs.declared.payload.Kind.TheVariants.{Logs}
use Rattle.otap_cells.specs.Payload.{kinds_of, kind_numbered}
use Rattle.otap_columns.specs.declared.refusal.ColumnRefusal.{ColumnRefusal}
use Rattle.otap_columns.specs.declared.refusal.ColumnRefusal.TheVariants as refusal
use Rattle.otap_columns.specs.Records.{IsRead, Stands}
use Rattle.otap_consume.specs.declared.refusal.Cause.TheVariants.{Column}
use Rattle.otap_consume.specs.declared.not_taken.NotTaken.{NotTaken}
use Rattle.otap_consume.specs.declared.not_taken.NotTaken.TheVariants.{Defect}
use Rattle.otap_consume.specs.Defects.{IsReadAfter, IsDefectOfRecord}
use Rattle.otap_consume.specs.Payloads.{payload_type_of, messages_before}
use Rattle.otap_consume.specs.Records.{EachTakes, OneRefuses, TakesPayloads}
use Rattle.otap_consume.specs.Untaken.{SaysDefect, IsUntakenFor, IsOfRecord}
use Rattle.otap_consume.specs.Streams.{StreamIn, AreAfter, IsAfter, kinds_in, ShowsLast, ShowsAfter}
use Rattle.otap_consume.specs.StreamSteps.{Takes, RefusesFor, closed}
use Rattle.otap_consume.proofs.IdSteps.{kind_at, count_of}
use Rattle.otap_consume.proofs.KindNumbers.{HasNumber, has_number, numbered, same_kind_number}
use Rattle.lists.proofs.Growing.{all_after-push}
use Rattle.lists.specs.Payloads.{PayloadIn}
use Rattle.otap_consume.proofs.Substreams.{last_of-other, last_of-own}

-- nothing is taken yet
pub takes_none : (streams : List StreamIn) → TakesPayloads streams [] streams
takes_none streams = record {
  kinds = refl;
  shows = λ k d inside. tt;
  reads = λ signal past kinds are. tt;
  after = λ past are k d inside. subst (λ (ps : List PayloadIn). IsAfter ps (get_or streams k d)) (sym (append-nil past)) (are k d inside);
}

-- what is shown after one more payload
shown : (done : List PayloadIn) (p : PayloadIn) (old new : StreamIn) → ShowsAfter done old → Takes old p new → ShowsAfter (done ++ p ∷ []) new
shown done p old new before takes = go (cases_Bool (int_eq p.kind (payload_type_of old.kind)))
  where
    go : (int_eq p.kind (payload_type_of old.kind) ≡ true) ⊎ (int_eq p.kind (payload_type_of old.kind) ≡ false) → ShowsAfter (done ++ p ∷ []) new
    go (inl own) =
        subst (λ (last : Option PayloadIn). ShowsLast last new.current)
        (sym (last_of-own (payload_type_of new.kind) done p (subst (λ (kind : Kind). int_eq p.kind (payload_type_of kind) ≡ true) (sym takes.kind) own))) (takes.shows own)
    go (inr other) =
        let same : new ≡ old = takes.other other in
        subst (λ (s : StreamIn). ShowsAfter (done ++ p ∷ []) s) (sym same)
        (subst (λ (last : Option PayloadIn). ShowsLast last old.current) (sym (last_of-other (payload_type_of old.kind) done p other)) before)

pub takes_more : (old mid new : List StreamIn) (done : List PayloadIn) (p : PayloadIn) → TakesPayloads old done mid → EachTakes mid p new → kinds_in new ≡ kinds_in mid
    → TakesPayloads old (done ++ p ∷ []) new
takes_more old mid new done p before takes kinds = record {
  kinds = kinds ∙ before.kinds;
  shows = λ k d inside.
      let inside' : k < length mid = omega (arith, takes.long) in
      shown done p (get_or mid k d) (get_or new k d) (before.shows k d inside') (takes.each k d inside');
  reads = λ signal past same are.
      all_after-push (IsReadAfter signal) past done p (before.reads signal past same are)
      (λ kind found.
      let number : HasNumber signal p.kind kind = has_number signal p.kind kind found in
      read signal past same are kind number);
  after = λ past are k d inside.
      let inside' : k < length mid = omega (arith, takes.long) in
      subst (λ (ps : List PayloadIn). IsAfter ps (get_or new k d)) (append_assoc past done (p ∷ []))
      ((takes.each k d inside').after (past ++ done) (before.after past are k d inside'));
}
  where
    read : (signal : Signal) (past : List PayloadIn) → kinds_in old ≡ kinds_of signal → AreAfter past old → (kind : Kind) → HasNumber signal p.kind kind
        → IsRead kind (messages_before (past ++ done) p) p.bytes
    read signal past same are kind number =
        let d : StreamIn = record { kind = kind; current = None } in
        let same' : kinds_in mid ≡ kinds_of signal = before.kinds ∙ same in
        let inside : number.at < length mid = omega (arith, count_of signal mid same', number.inside) in
        let is : (get_or mid number.at d).kind ≡ kind = sym (kind_at signal mid number.at d kind same' inside) ∙ number.is kind in
        let own : int_eq p.kind (payload_type_of (get_or mid number.at d).kind) ≡ true = subst (λ (k : Kind). int_eq p.kind (payload_type_of k) ≡ true) (sym is) number.same in
        subst (λ (k : Kind). IsRead k (messages_before (past ++ done) p) p.bytes) is
        ((takes.each number.at d inside).reads (past ++ done) (before.after past are number.at d inside) own)

-- ---- a record that is refused

-- the defect that a stream found in the payload after those that were taken
defect_at : (signal : Signal) (past done rest payloads : List PayloadIn) (p : PayloadIn) (why : ColumnRefusal) (mid : List StreamIn) (i : ℕ) (d : StreamIn)
    → payloads ≡ done ++ p ∷ rest → kinds_in mid ≡ kinds_of signal → i < length mid
    → (int_eq p.kind (payload_type_of (get_or mid i d).kind) ≡ true) × Stands (get_or mid i d).kind (messages_before (past ++ done) p) p.bytes why
    → IsDefectOfRecord signal past payloads why (Some p.kind)
defect_at signal past done rest payloads p why mid i d whole same inside stands =
    let is : get_or (kinds_of signal) i d.kind ≡ (get_or mid i d).kind = kind_at signal mid i d d.kind same inside in
    let known : kind_numbered signal (payload_type_of (get_or mid i d).kind) ≡ Some (get_or mid i d).kind
    = subst (λ (k : Kind). kind_numbered signal (payload_type_of k) ≡ Some k) is (numbered signal i d.kind (omega (arith, count_of signal mid same))) in
    record {
      p = p;
      has = record { before = done; after = rest; is = whole };
      kind = (get_or mid i d).kind;
      known = rw (same_kind_number p.kind (payload_type_of (get_or mid i d).kind) stands.0) known;
      stands = stands.1;
      named = refl;
    }

a_stream : StreamIn
a_stream = record { kind = Logs; current = None }

-- where a stream refuses the record of a payload, it has a defect, or memory ran out
pub stops_at : (old mid : List StreamIn) (done rest payloads : List PayloadIn) (p : PayloadIn) (why : ColumnRefusal) (stop : NotTaken)
    → TakesPayloads old done mid → payloads ≡ done ++ p ∷ rest → OneRefuses mid p why → IsUntakenFor why p.kind stop
    → (signal : Signal) (past : List PayloadIn) → kinds_in old ≡ kinds_of signal → AreAfter past old → SaysDefect (IsOfRecord signal past payloads) stop
stops_at old mid done rest payloads p why stop before whole refuses of signal past same are =
    go why of (refuses.refuses a_stream (past ++ done) (before.after past are refuses.i a_stream refuses.inside))
  where
    here : (why : ColumnRefusal)
        → (int_eq p.kind (payload_type_of (get_or mid refuses.i a_stream).kind) ≡ true) × Stands (get_or mid refuses.i a_stream).kind (messages_before (past ++ done) p) p.bytes why
        → stop ≡ Defect (Column why) (Some p.kind) → SaysDefect (IsOfRecord signal past payloads) stop
    here why stands is =
        subst (SaysDefect (IsOfRecord signal past payloads)) (sym is)
        (defect_at signal past done rest payloads p why mid refuses.i a_stream whole (before.kinds ∙ same) refuses.inside stands)

    go : (why : ColumnRefusal) → IsUntakenFor why p.kind stop → RefusesFor (past ++ done) (get_or mid refuses.i a_stream).kind p why → SaysDefect (IsOfRecord signal past payloads) stop
    go (refusal.Memory e) is stands = subst (SaysDefect (IsOfRecord signal past payloads)) (sym is) tt
    go refusal.Order is stands = here refusal.Order stands is
    go (refusal.Ipc fault) is stands = here (refusal.Ipc fault) stands is
    go refusal.Column is stands = here refusal.Column stands is
    go (refusal.Buffers fault) is stands = here (refusal.Buffers fault) stands is
    go refusal.BadIndex is stands = here refusal.BadIndex stands is
    go refusal.DictionarySize is stands = here refusal.DictionarySize stands is

-- ---- the loop over the streams

pub kinds_set : (streams : List StreamIn) (k : ℕ) (d x : StreamIn) → k < length streams → x.kind ≡ (get_or streams k d).kind → kinds_in (slice_set streams k x) ≡ kinds_in streams
kinds_set [] k d x inside same = absurd (omega arith)
kinds_set (s ∷ streams) zero d x inside same = λ i. same i ∷ kinds_in streams
kinds_set (s ∷ streams) (suc k) d x inside same = λ i. s.kind ∷ kinds_set streams k d x (omega arith) same i

-- ---- streams in which none is open

closed_after : (s : StreamIn) → IsAfter [] (closed s)
closed_after s = record { current = tt }

pub closed_all : (old new : List StreamIn) → length new ≡ length old → ((i : ℕ) (d : StreamIn) → i < length old → get_or new i d ≡ closed (get_or old i d)) → new ≡ map closed old
closed_all old new long same =
    same_lists new (map closed old) (long ∙ sym (length-map old closed))
    (λ k d inside. same k d (omega (arith, long)) ∙ sym (get_or-map closed old k d d (omega (arith, long))))

pub closed_new : (old new : List StreamIn) → new ≡ map closed old → AreAfter [] new
closed_new old new is k d inside =
    let within : k < length old = omega (arith, ap length is, length-map old closed) in
    subst (λ (s : StreamIn). IsAfter [] s) (sym (ap (λ (ss : List StreamIn). get_or ss k d) is ∙ get_or-map closed old k d d within)) (closed_after (get_or old k d))
