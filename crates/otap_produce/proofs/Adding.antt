-- A payload is added to a batch, and those of tables one after the other.
use Rattle.std.proofs.Common.{◌≡◌, ℕ, ◌+◌, ◌<◌, ◌≤◌, ◌^◌, Bool, true, false, List, [], ◌∷◌}
use Rattle.std.proofs.Common.{◌++◌, length, get_or, set, take, if◌then◌else◌, refl, sym, ap, ◌∙◌, subst, arith, length-take}
use Rattle.std.specs.Prelude.{FitsSigned, IsUtf8}
use Rattle.std.specs.Int.{w32}
use Rattle.std.proofs.Math.Seq.{map-set_same}
use Rattle.std.proofs.lemmas.Fmt.{length-decimal-le}
use Rattle.std.proofs.lemmas.List.{get_or-map, length-map, map-append, take_more}
use Rattle.lists.specs.Payloads.{PayloadIn}
use Rattle.otlp_model.specs.declared.request.Signal.{Signal}
use Rattle.otap_capture.specs.Batch.{BatchContent}
use Rattle.otap_capture.specs.BatchWriting.{with_payload}
use Rattle.otap_cells.specs.declared.payload.Kind.{Kind}
use Rattle.otap_cells.specs.Payload.{kinds_of}
use Rattle.otap_cells.specs.Sets.{tables_in}
use Rattle.otap_cells.specs.Tables.{Table}
use Rattle.otap_produce.specs.Senders.{SenderIn, SendersIn, kinds_in}
use Rattle.otap_produce.specs.SentMessages.{Adds, AreReady, AreReadyForEach, CanSend}
use Rattle.otap_columns.specs.Limits.{record_limit}
use Rattle.otap_produce.proofs.Batches.{adds_more, history_after}
use Rattle.otap_produce.proofs.OneMore.{sends_one}
use Rattle.otap_produce.proofs.Stepping.{SendsOne}

-- a sender that changes stays of its kind
pub kinds_set : (senders : List SenderIn) (place : ℕ) (s new : SenderIn) → s ≡ get_or senders place s → new.writer.kind ≡ s.writer.kind → kinds_in (set senders place new) ≡ kinds_in senders
kinds_set senders place s new is kind = map-set_same (λ (x : SenderIn). x.writer.kind) senders place new s (kind ∙ ap (λ (x : SenderIn). x.writer.kind) is)

counted : (b : Bool) (n : ℕ) → (if b then n + 1 else n) ≤ n + 1
counted true n = omega arith
counted false n = omega arith

module _ (signal : Signal) (old new : SendersIn) (place : ℕ) (s changed : SenderIn) (t : Table) (opened : Bool) (p : PayloadIn) (batch grown : BatchContent)
    (kinds : kinds_in old.senders ≡ kinds_of signal) (inside : place < length old.senders) (is : s ≡ get_or old.senders place s)
    (one : SendsOne s changed old.openings t opened p) (senders : new.senders ≡ set old.senders place changed)
    (count : new.openings ≡ (if opened then old.openings + 1 else old.openings)) where
  pub adds_one : grown ≡ with_payload batch p → IsUtf8 p.schema_id → FitsSigned w32 p.kind → length p.bytes ≤ record_limit t → changed.last < 2 ^ 64 → Adds (t ∷ []) old new batch grown
  adds_one more utf8 fits limit small =
      let digits : length p.schema_id ≤ 20 = omega (arith, ap length one.schema_id, length-decimal-le 20 changed.last (omega arith) (omega (arith, small)) small) in
      record {
        payloads = p ∷ [];
        id = ap (λ (b : BatchContent). b.id) more;
        are = ap (λ (b : BatchContent). b.payloads) more;
        real = (record { schema_id = utf8; kind = fits }, tt);
        sends =
            sends_one signal old new place s changed t opened p kinds inside
            (subst (λ (x : SenderIn). SendsOne x changed old.openings t opened p) is one) senders count;
        openings = omega (arith, count, counted opened old.openings);
        size = omega (arith, digits, limit);
        count = refl;
      }

-- ---- tables one after the other

abbrev pub tables : List (Kind × Table) → List Table
tables pairs = tables_in (λ t. t) pairs

module _ (pairs : List (Kind × Table)) (i : ℕ) (d : Kind × Table) (first now : SendersIn) (batch grown : BatchContent) (inside : i < length pairs)
    (adds : Adds (tables (take i pairs)) first now batch grown) where
  pub ready_at : AreReadyForEach (tables pairs) first → kinds_in now.senders ≡ kinds_in first.senders → AreReady (get_or pairs i d).1 now
  ready_at ready kinds =
      let at : get_or (tables pairs) i d.1 ≡ (get_or pairs i d).1 = get_or-map (λ (pair : Kind × Table). pair.1) pairs i d d.1 inside in
      let long : length (tables pairs) ≡ length pairs = length-map pairs (λ (pair : Kind × Table). pair.1) in
      let done : length (tables (take i pairs)) ≡ length (take i pairs) = length-map (take i pairs) (λ (pair : Kind × Table). pair.1) in
      let can : CanSend (kinds_in first.senders) (get_or (tables pairs) i d.1) = ready.each i d.1 (omega (arith, long, inside)) in
      record {
        signal = ready.signal;
        kinds = kinds ∙ ready.kinds;
        history = history_after (tables (take i pairs)) first now adds.payloads ready.history adds.sends;
        can = subst (λ (ks : List Kind). CanSend ks (get_or pairs i d).1) (sym kinds) (subst (CanSend (kinds_in first.senders)) at can);
        room = omega (arith, adds.openings, ready.room, long, done, length-take i pairs, inside);
      }

  pub adds_at : (next : SendersIn) (more : BatchContent) → Adds ((get_or pairs i d).1 ∷ []) now next grown more → Adds (tables (take (i + 1) pairs)) first next batch more
  adds_at next more one =
      let split : tables (take (i + 1) pairs) ≡ tables (take i pairs) ++ (get_or pairs i d).1 ∷ [] =
      ap tables (take_more pairs i d inside) ∙ map-append (λ (pair : Kind × Table). pair.1) (take i pairs) (get_or pairs i d ∷ []) in
      subst (λ (ts : List Table). Adds ts first next batch more) (sym split)
      (adds_more (tables (take i pairs)) ((get_or pairs i d).1 ∷ []) first now next batch grown more adds one)
