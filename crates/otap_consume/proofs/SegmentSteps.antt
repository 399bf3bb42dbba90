-- The next frame of a segment.
use Rattle.std.proofs.Common.{◌≡◌, ℕ, Bool, true, false, List, [], ◌∷◌, ◌++◌, Option, Some, None, ℤ, Ok, refl, sym, ap, ◌∙◌, subst, append-nil}
use Rattle.std.specs.Prelude.{MatchBool, if◌then◌else◌}
use Rattle.std.specs.List.{flat_map, list_any}
use Rattle.std.proofs.lemmas.Bool.{both_ways}
use Rattle.std.proofs.lemmas.Grind.{flat_map-append}
use Rattle.std.proofs.lemmas.List.Folds.{list_any-append}
use Rattle.std.proofs.Math.Bool.{or-true, or-false}
use Rattle.lists.proofs.Latest.{since-append}
use Rattle.lists.specs.Payloads.{PayloadIn}
use Rattle.otlp_model.specs.declared.request.Signal.{Signal}
use Rattle.otap_capture.specs.declared.batch.BatchRefusal.{BatchRefusal}
use Rattle.otap_capture.specs.Batch.{BatchContent, RefusesBatch}
use Rattle.otap_capture.specs.Capture.{Frame, Message, Packed}
use Rattle.otap_capture.specs.Capture as capture
use Rattle.otap_cells.specs.Tables.{Table}
use Rattle.otap_consume.specs.declared.refusal.Cause.{Cause}
use Rattle.otap_consume.specs.declared.refusal.Cause.TheVariants.{Compressed, Broken}
use Rattle.otap_consume.specs.declared.refusal.Refusal.{Refusal}
use Rattle.otap_consume.specs.declared.seen.Seen.TheVariants as seen
use Rattle.otap_consume.specs.declared.not_taken.NotTaken.{NotTaken}
use Rattle.otap_consume.specs.declared.not_taken.NotTaken.TheVariants.{Defect, Memory}
use Rattle.otap_consume.specs.Defects.{Refuses, tables_of}
use Rattle.otap_consume.specs.Outcomes.{Outcome, Accepted, Refused, Reset, GivesOutcome, StaysBroken, OutcomeAfter, is_reset, is_refused, payloads_if, segment, is_broken, payloads_after, refused, refusal_of}
use Rattle.otap_consume.specs.Outcomes.{unread_cause}
use Rattle.otap_consume.specs.Opening.{OpensAfter, OpensBatch, refusal_by}
use Rattle.otap_consume.specs.Segments.{SegmentIn, StandsFor, HasNext, Next, IsNew, CanShow}
use Rattle.otap_consume.specs.Untaken.{SaysDefect}
use Rattle.otap_consume.specs.Streams.{StreamIn, AreAfter}
use Rattle.otap_consume.specs.Taking.{AcceptsAfter, NextBatch}

-- ---- one more outcome

-- one that is no reset is in the segment of those before it
more : (outcomes : List Outcome) (o : Outcome) → is_reset o ≡ false → segment (outcomes ++ o ∷ []) ≡ segment outcomes ++ o ∷ []
more outcomes o stays = since-append is_reset outcomes (o ∷ []) ∙ rw stays refl

pub payloads_accepted : (outcomes : List Outcome) (batch : BatchContent) (tables : List Table)
    → payloads_after (outcomes ++ Accepted batch tables ∷ []) ≡ payloads_after outcomes ++ batch.payloads
unfolding payloads_after
payloads_accepted outcomes batch tables =
    ap (flat_map payloads_if) (more outcomes (Accepted batch tables) refl) ∙ flat_map-append payloads_if (segment outcomes) (Accepted batch tables ∷ [])
    ∙ ap (λ (ps : List PayloadIn). flat_map payloads_if (segment outcomes) ++ ps) (append-nil batch.payloads)

pub broken_accepted : (outcomes : List Outcome) (batch : BatchContent) (tables : List Table) → is_broken (outcomes ++ Accepted batch tables ∷ []) ≡ is_broken outcomes
unfolding is_broken
broken_accepted outcomes batch tables =
    ap (list_any is_refused) (more outcomes (Accepted batch tables) refl) ∙ list_any-append is_refused (segment outcomes) (Accepted batch tables ∷ [])
    ∙ or-false (list_any is_refused (segment outcomes))

pub broken_refused : (outcomes : List Outcome) (refusal : Refusal) → is_broken (outcomes ++ Refused refusal ∷ []) ≡ true
unfolding is_broken
broken_refused outcomes refusal =
    ap (list_any is_refused) (more outcomes (Refused refusal) refl) ∙ list_any-append is_refused (segment outcomes) (Refused refusal ∷ [])
    ∙ or-true (list_any is_refused (segment outcomes))

pub broken_reset : (outcomes : List Outcome) → is_broken (outcomes ++ Reset ∷ []) ≡ false
unfolding is_broken
broken_reset outcomes = ap (list_any is_refused) (since-append is_reset outcomes (Reset ∷ []))

pub payloads_reset : (outcomes : List Outcome) → payloads_after (outcomes ++ Reset ∷ []) ≡ []
unfolding payloads_after
payloads_reset outcomes = ap (flat_map payloads_if) (since-append is_reset outcomes (Reset ∷ []))

-- ---- the segment after them

-- a segment of which a frame was refused
pub stands_broken : (signal : Signal) (outcomes : List Outcome) (refusal : Refusal) (s : SegmentIn) → s.signal ≡ signal → s.broken ≡ true
    → StandsFor signal (outcomes ++ Refused refusal ∷ []) s
stands_broken signal outcomes refusal s same broken = record {
  same = same;
  broken = broken ∙ sym (broken_refused outcomes refusal);
  streams = λ whole. absurd (both_ways s.broken whole broken);
}

pub stands_new : (signal : Signal) (outcomes : List Outcome) (s : SegmentIn) → IsNew signal s → StandsFor signal (outcomes ++ Reset ∷ []) s
stands_new signal outcomes s new = record {
  same = new.same;
  broken = new.whole ∙ sym (broken_reset outcomes);
  streams = λ whole. subst (λ (ps : List PayloadIn). AreAfter ps s.streams) (sym (payloads_reset outcomes)) new.empty;
}

pub stands_first : (signal : Signal) (s : SegmentIn) → IsNew signal s → StandsFor signal [] s
unfolding is_broken payloads_after
stands_first signal s new = record { same = new.same; broken = new.whole; streams = λ whole. new.empty }

-- ---- what a frame gives

when_broken : (signal : Signal) (outcomes : List Outcome) (frame : Frame) (o : Outcome) → is_broken outcomes ≡ true → StaysBroken frame o → OutcomeAfter signal outcomes frame o
when_broken signal outcomes frame o broken stays =
    subst (λ (b : Bool). MatchBool b (StaysBroken frame o) (GivesOutcome signal (payloads_after outcomes) frame o)) (sym broken) stays

pub when_whole : (signal : Signal) (outcomes : List Outcome) (frame : Frame) (o : Outcome) → is_broken outcomes ≡ false → GivesOutcome signal (payloads_after outcomes) frame o
    → OutcomeAfter signal outcomes frame o
when_whole signal outcomes frame o whole gives =
    subst (λ (b : Bool). MatchBool b (StaysBroken frame o) (GivesOutcome signal (payloads_after outcomes) frame o)) (sym whole) gives

either : (signal : Signal) (outcomes : List Outcome) (frame : Frame) (o : Outcome) → StaysBroken frame o → GivesOutcome signal (payloads_after outcomes) frame o
    → OutcomeAfter signal outcomes frame o
either signal outcomes frame o stays gives = go (is_broken outcomes)
  where
    go : (b : Bool) → MatchBool b (StaysBroken frame o) (GivesOutcome signal (payloads_after outcomes) frame o)
    go true = stays
    go false = gives

-- ---- resets

pub next_reset : (old new : SegmentIn) → IsNew old.signal new → Next old capture.Reset new seen.Reset
next_reset old new is = record {
  at = λ signal outcomes stands. record {
    outcome = Reset;
    gives = either signal outcomes capture.Reset Reset StaysBroken.resets GivesOutcome.resets;
    reports = tt;
    stands = stands_new signal outcomes new (subst (λ (s : Signal). IsNew s new) stands.same is);
  };
}

-- ---- frames whose message can't be read

unread : (frame : Frame) (cause : Cause) (old new : SegmentIn) → new ≡ record old { broken = true } → StaysBroken frame (refused None Broken None)
    → ((signal : Signal) (past : List PayloadIn) → GivesOutcome signal past frame (refused None cause None))
    → Next old frame new (seen.Refused (refusal_of None (if old.broken then Broken else cause) None))
unread frame cause old new is stays gives = record { at = λ signal outcomes stands. go signal outcomes stands old.broken refl }
  where
    go : (signal : Signal) (outcomes : List Outcome) → StandsFor signal outcomes old → (b : Bool) → old.broken ≡ b
        → HasNext signal outcomes frame (seen.Refused (refusal_of None (if old.broken then Broken else cause) None)) new
    go signal outcomes stands true broken = record {
      outcome = refused None Broken None;
      gives = when_broken signal outcomes frame (refused None Broken None) (sym stands.broken ∙ broken) stays;
      reports = rw broken refl;
      stands = stands_broken signal outcomes (refusal_of None Broken None) new (rw is stands.same) (rw is refl);
    }
    go signal outcomes stands false whole = record {
      outcome = refused None cause None;
      gives = when_whole signal outcomes frame (refused None cause None) (sym stands.broken ∙ whole) (gives signal (payloads_after outcomes));
      reports = rw whole refl;
      stands = stands_broken signal outcomes (refusal_of None cause None) new (rw is stands.same) (rw is refl);
    }

pub next_packed : (old new : SegmentIn) → new ≡ record old { broken = true } → Next old Packed new (seen.Refused (refusal_of None (if old.broken then Broken else Compressed) None))
next_packed old new is = unread Packed Compressed old new is StaysBroken.compressed (λ signal past. GivesOutcome.compressed)

pub next_unreadable : (bytes : List ℕ) (refusal : BatchRefusal) (old new : SegmentIn) → RefusesBatch bytes refusal → new ≡ record old { broken = true }
    → Next old (Message bytes) new (seen.Refused (refusal_of None (if old.broken then Broken else unread_cause refusal) None))
next_unreadable bytes refusal old new stands is =
    unread (Message bytes) (unread_cause refusal) old new is (StaysBroken.unreadable bytes refusal stands) (λ signal past. GivesOutcome.unreadable bytes refusal stands)

-- ---- batches

pub next_broken : (old : SegmentIn) (batch : BatchContent) → old.broken ≡ true → NextBatch old batch old (seen.Refused (refusal_of (Some batch.id) Broken None))
next_broken old batch broken = record {
  at = λ bytes reads. record {
    at = λ signal outcomes stands. record {
      outcome = refused (Some batch.id) Broken None;
      gives = when_broken signal outcomes (Message bytes) (refused (Some batch.id) Broken None) (sym stands.broken ∙ broken) (StaysBroken.readable bytes batch reads);
      reports = refl;
      stands = stands_broken signal outcomes (refusal_of (Some batch.id) Broken None) old stands.same broken;
    };
  };
}

pub next_refused : (old new : SegmentIn) (batch : BatchContent) (cause : Cause) (payload : Option ℤ) → old.broken ≡ false → new.broken ≡ true → new.signal ≡ old.signal
    → ((past : List PayloadIn) → AreAfter past old.streams → Refuses old.signal past batch.payloads cause payload)
    → NextBatch old batch new (seen.Refused (refusal_of (Some batch.id) cause payload))
next_refused old new batch cause payload whole broken same refuses = record {
  at = λ bytes reads. record {
    at = λ signal outcomes stands. record {
      outcome = refused (Some batch.id) cause payload;
      gives = when_whole signal outcomes (Message bytes) (refused (Some batch.id) cause payload) (sym stands.broken ∙ whole)
          (GivesOutcome.refuses bytes batch cause payload reads
          (subst (λ (s : Signal). Refuses s (payloads_after outcomes) batch.payloads cause payload) stands.same (refuses (payloads_after outcomes) (stands.streams whole))));
      reports = refl;
      stands = stands_broken signal outcomes (refusal_of (Some batch.id) cause payload) new (same ∙ stands.same) broken;
    };
  };
}

pub next_accepted : (old new : SegmentIn) (batch : BatchContent) (rows : ℕ) → old.broken ≡ false → new.broken ≡ false → new.signal ≡ old.signal
    → ((past : List PayloadIn) → AreAfter past old.streams → AcceptsAfter old.signal past batch.payloads new.streams rows)
    → NextBatch old batch new (seen.Batch batch.id rows)
next_accepted old new batch rows whole whole' same accepts = record {
  at = λ bytes reads. record {
    at = λ signal outcomes stands.
        let past : List PayloadIn = payloads_after outcomes in
        let tables : List Table = tables_of signal past batch.payloads in
        let a : AcceptsAfter signal past batch.payloads new.streams rows
        = subst (λ (s : Signal). AcceptsAfter s past batch.payloads new.streams rows) stands.same (accepts past (stands.streams whole)) in
        record {
          outcome = Accepted batch tables;
          gives = when_whole signal outcomes (Message bytes) (Accepted batch tables) (sym stands.broken ∙ whole) (GivesOutcome.accepts bytes batch reads a.accepts);
          reports = (refl, a.rows);
          stands = record {
            same = same ∙ stands.same;
            broken = whole' ∙ sym (broken_accepted outcomes batch tables ∙ sym stands.broken ∙ whole);
            streams = λ _. subst (λ (ps : List PayloadIn). AreAfter ps new.streams) (sym (payloads_accepted outcomes batch tables)) a.after;
          };
        };
  };
}

-- ---- the same, whatever the parts are called

pub opened_parts : (old new : SegmentIn) (batch : BatchContent) (signal : Signal) (streams streams' : List StreamIn)
    → signal ≡ old.signal → streams ≡ old.streams → streams' ≡ new.streams
    → old.broken ≡ false → new.broken ≡ false → new.signal ≡ old.signal
    → CanShow streams' batch.payloads
    → ((past : List PayloadIn) → AreAfter past streams → OpensAfter signal past batch.payloads streams')
    → OpensBatch old batch new
opened_parts old new batch signal streams streams' same are are' whole whole' kept shows opens = record {
  was_whole = whole;
  whole = whole';
  same = kept;
  shows = subst (λ (ss : List StreamIn). CanShow ss batch.payloads) are' shows;
  opens = λ past after.
      let before : AreAfter past streams = subst (λ (ss : List StreamIn). AreAfter past ss) (sym are) after in
      subst (λ (s : Signal). OpensAfter s past batch.payloads new.streams) same
      (subst (λ (ss : List StreamIn). OpensAfter signal past batch.payloads ss) are' (opens past before));
}

refused_parts : (old new : SegmentIn) (batch : BatchContent) (cause : Cause) (payload : Option ℤ) (signal : Signal) (streams : List StreamIn) → signal ≡ old.signal → streams ≡ old.streams
    → old.broken ≡ false → new.broken ≡ true → new.signal ≡ old.signal
    → ((past : List PayloadIn) → AreAfter past streams → Refuses signal past batch.payloads cause payload)
    → NextBatch old batch new (seen.Refused (refusal_of (Some batch.id) cause payload))
refused_parts old new batch cause payload signal streams same are whole broken kept refuses =
    next_refused old new batch cause payload whole broken kept
    (λ past after.
    subst (λ (s : Signal). Refuses s past batch.payloads cause payload) same (refuses past (subst (λ (ss : List StreamIn). AreAfter past ss) (sym are) after)))

-- a batch whose payloads are not taken
pub stopped_parts : (old new : SegmentIn) (batch : BatchContent) (why : NotTaken) (refusal : Refusal)
    (signal : Signal) (streams : List StreamIn) → signal ≡ old.signal → streams ≡ old.streams → old.broken ≡ false → new.broken ≡ true → new.signal ≡ old.signal
    → refusal_by batch why ≡ Ok refusal
    → ((past : List PayloadIn) → AreAfter past streams → SaysDefect (Refuses signal past batch.payloads) why)
    → NextBatch old batch new (seen.Refused refusal)
stopped_parts old new batch (Defect cause payload) refusal signal streams same are whole broken kept is refuses =
    subst (λ (r : Refusal). NextBatch old batch new (seen.Refused r)) (cc is)
    (refused_parts old new batch cause payload signal streams same are whole broken kept refuses)
stopped_parts old new batch (Memory e) refusal signal streams same are whole broken kept is refuses = absurd (cc is)
