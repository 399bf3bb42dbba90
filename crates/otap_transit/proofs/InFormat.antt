-- An accepted batch whose rows are fine is in the format.
use Rattle.std.proofs.Common.{◌≡◌, ℕ, false, List, [], ◌∷◌, pos, sym, subst}
use Rattle.std.specs.Prelude.{MatchBool, Bool}
use Rattle.lists.specs.Payloads.{PayloadIn}
use Rattle.otap_capture.specs.Batch.{BatchContent, ReadsBatch}
use Rattle.otap_capture.specs.Capture.{Message}
use Rattle.otap_cells.specs.Tables.{Table}
use Rattle.otap_consume.specs.Defects.{Accepts, tables_of}
use Rattle.otap_signals.specs.Meanings.{Meaning}
use Rattle.otap_consume.specs.LateStages.{HasFineRows}
use Rattle.otap_consume.specs.Outcomes.{Outcome, Accepted, GivesOutcome, StaysBroken, is_broken, payloads_after}
use Rattle.otap_consume.specs.Receiving.{IsInFormat, ReceivedAfter, Settles}
use Rattle.otap_consume.proofs.Formats.{in_format}
use Rattle.otap_consume.proofs.SegmentSteps.{payloads_accepted, broken_accepted}

-- one batch that had all payloads so far
abbrev one_before : List PayloadIn → List Outcome
one_before past = Accepted (record { id = pos 0; payloads = past }) [] ∷ []

payloads_before : (past : List PayloadIn) → payloads_after (one_before past) ≡ past
unfolding payloads_after
payloads_before past = payloads_accepted [] (record { id = pos 0; payloads = past }) []

whole_before : (past : List PayloadIn) → is_broken (one_before past) ≡ false
unfolding is_broken
whole_before past = broken_accepted [] (record { id = pos 0; payloads = past }) []

pub in_format_by : (m : Meaning) (past : List PayloadIn) (bytes : List ℕ) (batch : BatchContent) → ReadsBatch bytes batch → Accepts m.signal past batch.payloads
    → HasFineRows m (tables_of m.signal past batch.payloads) → IsInFormat m past (Message bytes)
in_format_by m past bytes batch reads accepts fine =
    let tables : List Table = tables_of m.signal past batch.payloads in
    let here : GivesOutcome m.signal (payloads_after (one_before past)) (Message bytes) (Accepted batch tables)
    = subst (λ (now : List PayloadIn). GivesOutcome m.signal now (Message bytes) (Accepted batch tables)) (sym (payloads_before past)) (GivesOutcome.accepts bytes batch reads accepts) in
    let after : ReceivedAfter m (one_before past) (Message bytes) (Accepted batch tables) = record {
      seen = Accepted batch tables;
      gives = subst (λ (b : Bool). MatchBool b (StaysBroken (Message bytes) (Accepted batch tables)) (GivesOutcome m.signal (payloads_after (one_before past)) (Message bytes) (Accepted batch tables)))
          (sym (whole_before past)) here;
      settles = Settles.accepted batch tables fine;
    } in
    subst (λ (now : List PayloadIn). IsInFormat m now (Message bytes)) (payloads_before past) (in_format m (one_before past) (Message bytes) batch tables after).1
