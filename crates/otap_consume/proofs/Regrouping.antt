-- The batch that a segment accepted, and the outcome of a frame that the segment refuses, or of a reset.
use Rattle.std.proofs.Common.{◌≡◌, Bool, true, false, List, ◌∷◌, ◌++◌, [], refl, sym, ap, ◌∙◌, subst, ℕ}
use Rattle.std.specs.Prelude.{MatchBool}
use Rattle.lists.specs.Payloads.{PayloadIn}
use Rattle.otlp_model.specs.declared.request.Signal.{Signal}
use Rattle.otap_capture.specs.Batch.{BatchContent, ReadsBatch}
use Rattle.otap_capture.specs.Capture.{Frame, Message}
use Rattle.otap_cells.specs.Tables.{Table}
use Rattle.otap_consume.specs.declared.refusal.Refusal.{Refusal}
use Rattle.otap_consume.specs.declared.seen.Seen.TheVariants as seen
use Rattle.otap_consume.specs.declared.taken.Taken.TheVariants as taken
use Rattle.otap_consume.specs.Defects.{Accepts, tables_of}
use Rattle.otap_signals.specs.Meanings.{Meaning}
use Rattle.otap_consume.specs.Outcomes.{Outcome, Accepted, Refused, Reset, GivesOutcome, StaysBroken, OutcomeAfter, is_broken, payloads_after}
use Rattle.otap_consume.specs.Opening.{LeadsTo, NextOutcome}
use Rattle.otap_consume.specs.Receivers.{Receives, taken_of}
use Rattle.otap_consume.specs.Receiving.{Settles}
use Rattle.otap_consume.specs.Segments.{SegmentIn, StandsFor, ReportsOutcome, HasNext, Next}

-- ---- the batch that was accepted last

-- a frame that gives an accepted batch
pub record GivesBatch (signal : Signal) (past : List PayloadIn) (frame : Frame) (batch : BatchContent) (tables : List Table) : Type 0 where
  pub bytes : List ℕ
  pub message : frame ≡ Message bytes
  pub reads : ReadsBatch bytes batch
  pub accepts : Accepts signal past batch.payloads
  pub are : tables ≡ tables_of signal past batch.payloads

not_broken : (frame : Frame) (o : Outcome) (batch : BatchContent) (tables : List Table) → o ≡ Accepted batch tables → StaysBroken frame o → ⊥
not_broken frame o batch tables is StaysBroken.compressed = cc is
not_broken frame o batch tables is (StaysBroken.unreadable bytes refusal stands) = cc is
not_broken frame o batch tables is (StaysBroken.readable bytes other reads) = cc is
not_broken frame o batch tables is StaysBroken.resets = cc is

batch_given : (signal : Signal) (past : List PayloadIn) (frame : Frame) (o : Outcome) (batch : BatchContent) (tables : List Table) → o ≡ Accepted batch tables → GivesOutcome signal past frame o
    → GivesBatch signal past frame batch tables
batch_given signal past frame o batch tables is GivesOutcome.compressed = absurd (cc is)
batch_given signal past frame o batch tables is (GivesOutcome.unreadable bytes refusal stands) = absurd (cc is)
batch_given signal past frame o batch tables is (GivesOutcome.refuses bytes other cause payload reads refuses) = absurd (cc is)
batch_given signal past frame o batch tables is (GivesOutcome.accepts bytes other reads accepts) =
    let one : other ≡ batch = cc is in
    record {
      bytes = bytes;
      message = refl;
      reads = subst (ReadsBatch bytes) one reads;
      accepts = subst (λ (b : BatchContent). Accepts signal past b.payloads) one accepts;
      are = sym (cc is) ∙ ap (λ (b : BatchContent). tables_of signal past b.payloads) one;
    }
batch_given signal past frame o batch tables is GivesOutcome.resets = absurd (cc is)

-- so no frame of the segment was refused before it
pub accepted_batch : (signal : Signal) (outcomes : List Outcome) (frame : Frame) (batch : BatchContent) (tables : List Table) → OutcomeAfter signal outcomes frame (Accepted batch tables)
    → (is_broken outcomes ≡ false) × GivesBatch signal (payloads_after outcomes) frame batch tables
accepted_batch signal outcomes frame batch tables after = go (is_broken outcomes) refl after
  where
    go : (b : Bool) → is_broken outcomes ≡ b
        → MatchBool b (StaysBroken frame (Accepted batch tables)) (GivesOutcome signal (payloads_after outcomes) frame (Accepted batch tables))
        → (is_broken outcomes ≡ false) × GivesBatch signal (payloads_after outcomes) frame batch tables
    go true is stays = absurd (not_broken frame (Accepted batch tables) batch tables refl stays)
    go false is gives = (is, batch_given signal (payloads_after outcomes) frame (Accepted batch tables) batch tables refl gives)

-- ---- the next frame, where no batch is opened

from_refused : (m : Meaning) (outcomes : List Outcome) (frame : Frame) (outcome : Outcome) (refusal : Refusal) (new : SegmentIn)
    → OutcomeAfter m.signal outcomes frame outcome → ReportsOutcome outcome (seen.Refused refusal) → StandsFor m.signal (outcomes ++ outcome ∷ []) new
    → LeadsTo m outcomes frame (Refused refusal) new
from_refused m outcomes frame (Accepted batch tables) refusal new after reports stands = absurd reports
from_refused m outcomes frame (Refused reported) refusal new after reports stands =
    subst (λ (r : Refusal). LeadsTo m outcomes frame (Refused r) new) (sym reports)
    (record { gives = record { seen = Refused reported; gives = after; settles = Settles.stays_refused reported }; stands = stands })
from_refused m outcomes frame Reset refusal new after reports stands = absurd reports

pub outcome_refused : (m : Meaning) (frame : Frame) (refusal : Refusal) (old new : SegmentIn) → Next old frame new (seen.Refused refusal)
    → NextOutcome m old frame (Refused refusal) new
outcome_refused m frame refusal old new next = record {
  at = λ outcomes stands.
      let n : HasNext m.signal outcomes frame (seen.Refused refusal) new = next.at m.signal outcomes stands in
      from_refused m outcomes frame n.outcome refusal new n.gives n.reports n.stands;
}

from_reset : (m : Meaning) (outcomes : List Outcome) (frame : Frame) (outcome : Outcome) (new : SegmentIn)
    → OutcomeAfter m.signal outcomes frame outcome → ReportsOutcome outcome seen.Reset → StandsFor m.signal (outcomes ++ outcome ∷ []) new
    → LeadsTo m outcomes frame Reset new
from_reset m outcomes frame (Accepted batch tables) new after reports stands = absurd reports
from_reset m outcomes frame (Refused reported) new after reports stands = absurd reports
from_reset m outcomes frame Reset new after reports stands =
    record { gives = record { seen = Reset; gives = after; settles = Settles.resets }; stands = stands }

pub outcome_reset : (m : Meaning) (frame : Frame) (old new : SegmentIn) → Next old frame new seen.Reset → NextOutcome m old frame Reset new
outcome_reset m frame old new next = record {
  at = λ outcomes stands.
      let n : HasNext m.signal outcomes frame seen.Reset new = next.at m.signal outcomes stands in
      from_reset m outcomes frame n.outcome new n.gives n.reports n.stands;
}

-- ---- the next frame of a receiver

-- it returns what is returned for the outcome
pub receives_outcome : (m : Meaning) (frame : Frame) (outcome : Outcome) (old new : SegmentIn) → NextOutcome m old frame outcome new
    → Receives m old frame new (taken_of m outcome)
receives_outcome m frame outcome old new next = record {
  at = λ outcomes stands.
      let l : LeadsTo m outcomes frame outcome new = next.at outcomes stands in
      record { outcome = outcome; gives = l.gives; reports = refl; stands = l.stands };
}

pub receives_refused : (m : Meaning) (frame : Frame) (refusal : Refusal) (seg old new : SegmentIn) → seg ≡ old
    → Next seg frame new (seen.Refused refusal) → Receives m old frame new (taken.Refused refusal)
receives_refused m frame refusal seg old new view next =
    subst (λ (s : SegmentIn). Receives m s frame new (taken.Refused refusal)) view
    (receives_outcome m frame (Refused refusal) seg new (outcome_refused m frame refusal seg new next))

pub receives_reset : (m : Meaning) (frame : Frame) (seg old new : SegmentIn) → seg ≡ old → Next seg frame new seen.Reset
    → Receives m old frame new taken.Reset
receives_reset m frame seg old new view next =
    subst (λ (s : SegmentIn). Receives m s frame new taken.Reset) view
    (receives_outcome m frame Reset seg new (outcome_reset m frame seg new next))
