-- What a receiver gives a message that is accepted, and a reset.
use Rattle.std.proofs.Common.{◌≡◌, ℕ, Bool, false, List, refl, sym, ap, ◌∙◌, subst}
use Rattle.std.specs.Prelude.{MatchBool}
use Rattle.lists.specs.Payloads.{PayloadIn}
use Rattle.otap_capture.specs.Batch.{BatchContent, ReadsBatch, batch_content}
use Rattle.otap_capture.specs.Capture.{Frame, Message}
use Rattle.otap_capture.specs.Capture as capture
use Rattle.otap_cells.specs.Tables.{Table}
use Rattle.otlp_model.specs.declared.request.Signal.{Signal}
use Rattle.otap_consume.specs.Defects.{Accepts, tables_of}
use Rattle.otap_signals.specs.Meanings.{Meaning}
use Rattle.otap_consume.specs.LateStages.{HasFineRows}
use Rattle.otap_consume.specs.Outcomes.{Outcome, Accepted, Refused, Reset, GivesOutcome, StaysBroken, OutcomeAfter, is_broken, payloads_after}
use Rattle.otap_consume.specs.Receiving.{Settles, ReceivedAfter, HasDefect, IsInFormat}
use Rattle.otap_consume.proofs.Formats.{named, settles_accepted}
use Rattle.otap_consume.proofs.Regrouping.{GivesBatch, accepted_batch}
use Rattle.otap_consume.proofs.SegmentSteps.{when_whole}
use Rattle.otap_transit.proofs.InFormat.{in_format_by}

given_whole : (signal : Signal) (returned : List Outcome) (frame : Frame) (o : Outcome) → is_broken returned ≡ false → OutcomeAfter signal returned frame o → GivesOutcome signal (payloads_after returned) frame o
given_whole signal returned frame o whole after = subst (λ (b : Bool). MatchBool b (StaysBroken frame o) (GivesOutcome signal (payloads_after returned) frame o)) whole after

-- ---- a message

pub gives_accepted : (m : Meaning) (returned : List Outcome) (past : List PayloadIn) (message : List ℕ) → is_broken returned ≡ false → payloads_after returned ≡ past → ReadsBatch message (batch_content message)
    → Accepts m.signal past (batch_content message).payloads → HasFineRows m (tables_of m.signal past (batch_content message).payloads)
    → ReceivedAfter m returned (Message message) (Accepted (batch_content message) (tables_of m.signal past (batch_content message).payloads))
gives_accepted m returned past message whole payloads reads accepts fine =
    let batch : BatchContent = batch_content message in
    let tables : List Table = tables_of m.signal past batch.payloads in
    let here : GivesOutcome m.signal past (Message message) (Accepted batch tables) = GivesOutcome.accepts message batch reads accepts in
    record {
      seen = Accepted batch tables;
      gives = when_whole m.signal returned (Message message) (Accepted batch tables) whole
          (subst (λ (now : List PayloadIn). GivesOutcome m.signal now (Message message) (Accepted batch tables)) (sym payloads) here);
      settles = Settles.accepted batch tables fine;
    }

not_reset : (signal : Signal) (past : List PayloadIn) (message : List ℕ) (frame : Frame) (o : Outcome) → frame ≡ Message message → o ≡ Reset → GivesOutcome signal past frame o → ⊥
not_reset signal past message frame o is same GivesOutcome.compressed = cc is
not_reset signal past message frame o is same (GivesOutcome.unreadable bytes refusal bad) = cc same
not_reset signal past message frame o is same (GivesOutcome.refuses bytes batch cause payload reads bad) = cc same
not_reset signal past message frame o is same (GivesOutcome.accepts bytes batch reads accepts) = cc same
not_reset signal past message frame o is same GivesOutcome.resets = cc is

settles_reset : (m : Meaning) (seen o : Outcome) → o ≡ Reset → Settles m seen o → seen ≡ Reset
settles_reset m seen o same (Settles.accepted batch tables fine) = absurd (cc same)
settles_reset m seen o same (Settles.refuses batch tables cause payload stands) = absurd (cc same)
settles_reset m seen o same (Settles.stays_refused refusal) = absurd (cc same)
settles_reset m seen o same Settles.resets = refl

pub only_accepted : (m : Meaning) (returned : List Outcome) (past : List PayloadIn) (message : List ℕ) (outcome : Outcome) → is_broken returned ≡ false → payloads_after returned ≡ past
    → ReadsBatch message (batch_content message) → Accepts m.signal past (batch_content message).payloads → HasFineRows m (tables_of m.signal past (batch_content message).payloads)
    → ReceivedAfter m returned (Message message) outcome → outcome ≡ Accepted (batch_content message) (tables_of m.signal past (batch_content message).payloads)
only_accepted m returned past message (Accepted batch tables) whole payloads reads accepts fine after =
    let seen : after.seen ≡ Accepted batch tables = (settles_accepted m after.seen (Accepted batch tables) batch tables refl after.settles).0 in
    let given : GivesBatch m.signal (payloads_after returned) (Message message) batch tables
    = (accepted_batch m.signal returned (Message message) batch tables (subst (OutcomeAfter m.signal returned (Message message)) seen after.gives)).1 in
    let bytes : message ≡ given.bytes = cc given.message in
    let one : batch ≡ batch_content message = given.reads.1 ∙ ap batch_content (sym bytes) in
    let are : tables ≡ tables_of m.signal past (batch_content message).payloads
    = given.are ∙ ap (λ (now : List PayloadIn). tables_of m.signal now batch.payloads) payloads ∙ ap (λ (b : BatchContent). tables_of m.signal past b.payloads) one in
    λ i. Accepted (one i) (are i)
only_accepted m returned past message (Refused refusal) whole payloads reads accepts fine after =
    let format : IsInFormat m past (Message message) = in_format_by m past message (batch_content message) reads accepts fine in
    let bad : HasDefect m past (Message message) refusal.cause refusal.payload
    = subst (λ (now : List PayloadIn). HasDefect m now (Message message) refusal.cause refusal.payload) payloads (named m returned (Message message) refusal after whole).0 in
    absurd (format.fine refusal.cause refusal.payload bad)
only_accepted m returned past message Reset whole payloads reads accepts fine after =
    let seen : after.seen ≡ Reset = settles_reset m after.seen Reset refl after.settles in
    absurd (not_reset m.signal (payloads_after returned) message (Message message) after.seen refl seen (given_whole m.signal returned (Message message) after.seen whole after.gives))

-- ---- a reset

pub gives_reset : (m : Meaning) (returned : List Outcome) → is_broken returned ≡ false → ReceivedAfter m returned capture.Reset Reset
gives_reset m returned whole = record {
  seen = Reset;
  gives = when_whole m.signal returned capture.Reset Reset whole GivesOutcome.resets;
  settles = Settles.resets;
}

reset_given : (signal : Signal) (past : List PayloadIn) (frame : Frame) (o : Outcome) → frame ≡ capture.Reset → GivesOutcome signal past frame o → o ≡ Reset
reset_given signal past frame o is GivesOutcome.compressed = absurd (cc is)
reset_given signal past frame o is (GivesOutcome.unreadable bytes refusal bad) = absurd (cc is)
reset_given signal past frame o is (GivesOutcome.refuses bytes batch cause payload reads bad) = absurd (cc is)
reset_given signal past frame o is (GivesOutcome.accepts bytes batch reads accepts) = absurd (cc is)
reset_given signal past frame o is GivesOutcome.resets = refl

reset_settled : (m : Meaning) (seen o : Outcome) → seen ≡ Reset → Settles m seen o → o ≡ Reset
reset_settled m seen o same (Settles.accepted batch tables fine) = absurd (cc same)
reset_settled m seen o same (Settles.refuses batch tables cause payload stands) = absurd (cc same)
reset_settled m seen o same (Settles.stays_refused refusal) = absurd (cc same)
reset_settled m seen o same Settles.resets = refl

pub only_reset : (m : Meaning) (returned : List Outcome) (outcome : Outcome) → is_broken returned ≡ false → ReceivedAfter m returned capture.Reset outcome → outcome ≡ Reset
only_reset m returned outcome whole after =
    let seen : after.seen ≡ Reset = reset_given m.signal (payloads_after returned) capture.Reset after.seen refl (given_whole m.signal returned capture.Reset after.seen whole after.gives) in
    reset_settled m after.seen outcome seen after.settles
