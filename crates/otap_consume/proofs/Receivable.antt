-- Each frame gives a receiver an outcome, where its bytes and those of the frames before it are bytes.
use Rattle.std.proofs.Common.{◌≡◌, ◌<◌, ◌≤◌, false, List, [], ◌∷◌, ◌++◌, Some, None, refl, sym, subst, ◌∙◌, append-nil, append_assoc, inl, inr, ◌⊎◌}
use Rattle.std.specs.List.{AllByRecursion}
use Rattle.std.proofs.lemmas.Bool.{both_ways, cases_lt}
use Rattle.lists.specs.EachAfter.{EachAfter}
use Rattle.lists.proofs.Every.{every_append}
use Rattle.lists.proofs.AllBytes.{IsBytes-from_all}
use Rattle.otlp_model.specs.Limits.{weight_limit}
use Rattle.otlp_model.specs.Weight.{weight_of}
use Rattle.otap_capture.specs.Batch.{BatchContent}
use Rattle.otap_capture.specs.Capture.{Frame}
use Rattle.otap_cells.specs.Tables.{Table}
use Rattle.otap_checks.specs.Deciding.{CleanOrWrong, HaveByteCells}
use Rattle.otap_consume.specs.declared.refusal.Cause.TheVariants.{Row, TreeTooHeavy}
use Rattle.otap_consume.specs.Bytes.{IsOfBytes}
use Rattle.otap_signals.specs.Meanings.{Meaning}
use Rattle.otap_consume.specs.Outcomes.{Outcome, Accepted, Refused, Reset, OutcomeAfter, refused, is_broken, payloads_after}
use Rattle.otap_consume.specs.Payloads.{payload_type_of}
use Rattle.otap_consume.specs.Receiving.{Settles, ReceivedAfter, Received}
use Rattle.otap_consume.proofs.ByteFrames.{payloads_bytes}
use Rattle.otap_consume.proofs.ByteTables.{PayloadBytes, tables_bytes}
use Rattle.otap_consume.proofs.Following.{Taken, is_read_or_refused, by_break, none_taken}
use Rattle.otap_consume.proofs.Formats.{settles_accepted, still_taken, taken_received}
use Rattle.otap_consume.proofs.Regrouping.{GivesBatch, accepted_batch}
use Rattle.otap_consume.proofs.SegmentSteps.{payloads_accepted, broken_accepted, broken_refused, payloads_reset}

-- ---- the payloads of accepted batches are bytes

abbrev Held : List Outcome → Type 0
Held outcomes = is_broken outcomes ≡ false → AllByRecursion PayloadBytes (payloads_after outcomes)

none_held : Held []
unfolding payloads_after
none_held whole = tt

batch_held : (m : Meaning) (outcomes : List Outcome) (frame : Frame) (batch : BatchContent) (tables : List Table) → IsOfBytes frame → OutcomeAfter m.signal outcomes frame (Accepted batch tables)
    → AllByRecursion PayloadBytes batch.payloads
batch_held m outcomes frame batch tables bytes after =
    let g : GivesBatch m.signal (payloads_after outcomes) frame batch tables = (accepted_batch m.signal outcomes frame batch tables after).1 in
    payloads_bytes g.bytes batch (IsBytes-from_all g.bytes (subst IsOfBytes g.message bytes)) g.reads

still_held : (m : Meaning) (outcomes : List Outcome) (frame : Frame) (outcome : Outcome) → Held outcomes → IsOfBytes frame → ReceivedAfter m outcomes frame outcome → Held (outcomes ++ outcome ∷ [])
still_held m outcomes frame (Accepted batch tables) held bytes after = λ whole.
    let was : after.seen ≡ Accepted batch tables = (settles_accepted m after.seen (Accepted batch tables) batch tables refl after.settles).0 in
    let own : AllByRecursion PayloadBytes batch.payloads = batch_held m outcomes frame batch tables bytes (subst (OutcomeAfter m.signal outcomes frame) was after.gives) in
    let before : AllByRecursion PayloadBytes (payloads_after outcomes) = held (sym (broken_accepted outcomes batch tables) ∙ whole) in
    subst (AllByRecursion PayloadBytes) (sym (payloads_accepted outcomes batch tables)) (every_append PayloadBytes (payloads_after outcomes) batch.payloads before own)
still_held m outcomes frame (Refused refusal) held bytes after = λ whole. absurd (both_ways (is_broken (outcomes ++ Refused refusal ∷ [])) whole (broken_refused outcomes refusal))
still_held m outcomes frame Reset held bytes after = λ whole. subst (AllByRecursion PayloadBytes) (sym (payloads_reset outcomes)) tt

-- ---- one frame

abbrev Receives : Meaning → List Outcome → Frame → Type 0
Receives m outcomes frame = (outcome : Outcome) × ReceivedAfter m outcomes frame outcome

module _ (m : Meaning) (decided : (tables : List Table) → HaveByteCells tables → CleanOrWrong (m.Stands tables)) where
  of_batch : (outcomes : List Outcome) (frame : Frame) (batch : BatchContent) (tables : List Table) → OutcomeAfter m.signal outcomes frame (Accepted batch tables) → HaveByteCells tables
      → Receives m outcomes frame
  of_batch outcomes frame batch tables gives bytes = by_rows (decided tables bytes) (cases_lt weight_limit (weight_of (m.request tables)))
    where
      by_rows : CleanOrWrong (m.Stands tables) → (weight_limit < weight_of (m.request tables)) ⊎ (weight_of (m.request tables) ≤ weight_limit) → Receives m outcomes frame
      by_rows (inr (kind, why, stands)) weighed = (
        refused (Some batch.id) (Row why) (Some (payload_type_of kind)),
        record { seen = Accepted batch tables; gives = gives; settles = Settles.refuses batch tables (Row why) (Some (payload_type_of kind)) (kind, refl, stands) },
      )
      by_rows (inl clean) (inl heavy) = (
        refused (Some batch.id) TreeTooHeavy None,
        record { seen = Accepted batch tables; gives = gives; settles = Settles.refuses batch tables TreeTooHeavy None (refl, clean, heavy) },
      )
      by_rows (inl clean) (inr light) = (
        Accepted batch tables,
        record { seen = Accepted batch tables; gives = gives; settles = Settles.accepted batch tables (record { clean = clean; light = light }) },
      )

  of_seen : (outcomes : List Outcome) (frame : Frame) (seen : Outcome) → OutcomeAfter m.signal outcomes frame seen → Held outcomes → IsOfBytes frame → Receives m outcomes frame
  of_seen outcomes frame (Refused refusal) gives held bytes = (Refused refusal, record { seen = Refused refusal; gives = gives; settles = Settles.stays_refused refusal })
  of_seen outcomes frame Reset gives held bytes = (Reset, record { seen = Reset; gives = gives; settles = Settles.resets })
  of_seen outcomes frame (Accepted batch tables) gives held bytes =
      let given : (is_broken outcomes ≡ false) × GivesBatch m.signal (payloads_after outcomes) frame batch tables = accepted_batch m.signal outcomes frame batch tables gives in
      of_batch outcomes frame batch tables gives (subst HaveByteCells (sym given.1.are)
      (tables_bytes m.signal (payloads_after outcomes) batch.payloads (held given.0) (batch_held m outcomes frame batch tables bytes gives)))

  next : (outcomes : List Outcome) (frame : Frame) → Taken m.signal outcomes → Held outcomes → IsOfBytes frame → Receives m outcomes frame
  next outcomes frame taken held bytes =
      let seen : (outcome : Outcome) × OutcomeAfter m.signal outcomes frame outcome = by_break m.signal outcomes frame (is_broken outcomes) refl taken (is_read_or_refused frame) in
      of_seen outcomes frame seen.0 seen.1 held bytes

  -- ---- all frames

  held_after : (past : List Frame) (before : List Outcome) (frames : List Frame) (outcomes : List Outcome) → Held before → AllByRecursion IsOfBytes frames
      → EachAfter (λ past before frame outcome. ReceivedAfter m before frame outcome) past before frames outcomes → Held (before ++ outcomes)
  held_after past before [] [] held bytes each = subst Held (sym (append-nil before)) held
  held_after past before [] (o ∷ outcomes) held bytes each = absurd each
  held_after past before (f ∷ frames) [] held bytes each = absurd each
  held_after past before (f ∷ frames) (o ∷ outcomes) held bytes each =
      subst Held (append_assoc before (o ∷ []) outcomes)
      (held_after (past ++ f ∷ []) (before ++ o ∷ []) frames outcomes (still_held m before f o held bytes.0 each.0) bytes.1 each.1)

  pub some_received : (frames : List Frame) (outcomes : List Outcome) (frame : Frame) → AllByRecursion IsOfBytes frames → IsOfBytes frame → Received m frames outcomes → Receives m outcomes frame
  some_received frames outcomes frame before bytes received =
      next outcomes frame (taken_received m frames outcomes received) (held_after [] [] frames outcomes none_held before received) bytes

  each_from : (past : List Frame) (before : List Outcome) (frames : List Frame) → Taken m.signal before → Held before → AllByRecursion IsOfBytes frames
      → (outcomes : List Outcome) × EachAfter (λ past before frame outcome. ReceivedAfter m before frame outcome) past before frames outcomes
  each_from past before [] taken held bytes = ([], tt)
  each_from past before (f ∷ frames) taken held bytes =
      let one : Receives m before f = next before f taken held bytes.0 in
      let rest = each_from (past ++ f ∷ []) (before ++ one.0 ∷ []) frames (still_taken m before f one.0 taken one.1) (still_held m before f one.0 held bytes.0 one.1) bytes.1 in
      (one.0 ∷ rest.0, (one.1, rest.1))

  pub all_received : (frames : List Frame) → AllByRecursion IsOfBytes frames → (outcomes : List Outcome) × Received m frames outcomes
  all_received frames bytes = each_from [] [] frames (none_taken m.signal) none_held bytes
