-- What an opened batch gives: the stages after its records.
use Rattle.std.proofs.Common.{◌≡◌, ◌≤◌, inl, inr, ℕ, ℤ, true, List, ◌++◌, Option, Some, Ok, refl, sym, ap, ◌∙◌, subst}
use Rattle.lists.specs.Payloads.{PayloadIn}
use Rattle.otlp_model.specs.Limits.{weight_limit}
use Rattle.otlp_model.specs.Weight.{weight_of}
use Rattle.otlp_model.specs.declared.request.Request.{Request}
use Rattle.otlp_model.specs.declared.request.Signal.{Signal}
use Rattle.otap_capture.specs.Batch.{BatchContent}
use Rattle.otap_capture.specs.Capture.{Frame, Message}
use Rattle.otap_cells.specs.Tables.{Table}
use Rattle.otap_cells.specs.Weights.{weight_of_tables}
use Rattle.otap_signals.specs.BySignal.{meaning_by}
use Rattle.otap_signals.specs.Regroups.{IsLight}
use Rattle.otap_signals.specs.declared.regrouped.Regrouped.{Regrouped}
use Rattle.otap_consume.specs.declared.not_taken.NotTaken.{NotTaken}
use Rattle.otap_consume.specs.declared.not_taken.NotTaken.TheVariants.{Defect, Memory}
use Rattle.otap_consume.specs.declared.opened.Checked.{Checked}
use Rattle.otap_consume.specs.declared.refusal.Cause.{Cause}
use Rattle.otap_consume.specs.declared.refusal.Refusal.{Refusal}
use Rattle.otap_consume.specs.declared.seen.Seen.{Seen}
use Rattle.otap_consume.specs.declared.seen.Seen.TheVariants as seen
use Rattle.otap_consume.specs.declared.taken.Taken.TheVariants as taken
use Rattle.otap_consume.specs.Defects.{Refuses, tables_of}
use Rattle.otap_consume.specs.LateStages.{HasFineRows}
use Rattle.otap_consume.specs.Opening.{AreWithinLimits, HasLateDefect, IsChecked, IsLateDefect, IsOverLimit, LeadsTo, NextOutcome, OpensAfter, OpensFrame, StopsBySize, Weighs, refusal_by}
use Rattle.otap_consume.specs.Outcomes.{Outcome, Accepted, Refused, GivesOutcome, OutcomeAfter, payloads_after, refused, refusal_of}
use Rattle.otap_consume.specs.ReceiverInside.{MakesRequest}
use Rattle.otap_consume.specs.Receivers.{Receives}
use Rattle.otap_consume.specs.Receiving.{ReceivedAfter, Settles}
use Rattle.otap_consume.specs.Segments.{IsTaken, SegmentIn, StandsFor, Next}
use Rattle.otap_consume.specs.Streams.{AreAfter}
use Rattle.otap_consume.specs.Taking.{AcceptsAfter, NextBatch}
use Rattle.otap_consume.specs.Untaken.{SaysDefect}
use Rattle.otap_consume.proofs.Regrouping.{receives_outcome}
use Rattle.otap_consume.proofs.SegmentSteps.{broken_accepted, next_accepted, payloads_accepted, stands_broken, stopped_parts, when_whole}
use Rattle.otap_consume.proofs.Stages.{by_size}

-- a batch as it is reported, whatever its parts are called
reported : (id : ℤ) (request made : Request) (rows light tree : ℕ) → made ≡ request → light ≡ rows → tree ≡ weight_of made
    → taken.Accepted id made light tree ≡ taken.Accepted id request rows (weight_of request)
reported id request made rows light tree same same_rows same_tree = rw (same_tree, same, same_rows) refl

module _ (old mid : SegmentIn) (frame : Frame) (batch : BatchContent) (o : OpensFrame old frame batch mid) where
  -- what is said of the segment that opened the batch, after the payloads before it
  of_opened : (P : Signal → List PayloadIn → Type 0)
      → ((past : List PayloadIn) → AreAfter (past ++ batch.payloads) mid.streams → P mid.signal past)
      → (past : List PayloadIn) → AreAfter past old.streams → P old.signal past
  of_opened P says past are = subst (λ (s : Signal). P s past) o.opens.same (says past (o.opens.opens past are).after)

  of_frame : (new : SegmentIn) (returned : Seen) → NextBatch old batch new returned → Next old frame new returned
  of_frame new returned next = subst (λ (f : Frame). Next old f new returned) (sym o.message) (next.at o.bytes o.reads)

  same_signal : (new : SegmentIn) → new ≡ record mid { broken = true } → new.signal ≡ old.signal
  same_signal new broken = ap (λ (s : SegmentIn). s.signal) broken ∙ o.opens.same

  is_broken : (new : SegmentIn) → new ≡ record mid { broken = true } → new.broken ≡ true
  is_broken new broken = ap (λ (s : SegmentIn). s.broken) broken

  -- the segment shows the batch
  pub shows_opened : IsTaken frame mid
  shows_opened =
      subst (λ (f : Frame). IsTaken f mid) (sym o.message)
      (record { batch = batch; reads = o.reads; whole = o.opens.whole; shows = o.opens.shows })

  -- ---- what a segment returns

  -- the batch is within the limits
  pub next_weighed : (rows : ℕ)
      → ((past : List PayloadIn) → AreAfter (past ++ batch.payloads) mid.streams → Weighs mid.signal past batch.payloads rows)
      → Next old frame mid (seen.Batch batch.id rows)
  next_weighed rows weighs =
      of_frame mid (seen.Batch batch.id rows)
      (next_accepted old mid batch rows o.opens.was_whole o.opens.whole o.opens.same accepts)
    where
      accepts : (past : List PayloadIn) → AreAfter past old.streams → AcceptsAfter old.signal past batch.payloads mid.streams rows
      accepts past are =
          let p : OpensAfter old.signal past batch.payloads mid.streams = o.opens.opens past are in
          let w : Weighs old.signal past batch.payloads rows
          = of_opened (λ s past. Weighs s past batch.payloads rows) weighs past are in
          record { accepts = record { list = p.list; records = p.records; size = w.within }; after = p.after; rows = w.rows }

  -- or it is not taken, for this reason
  pub next_over : (new : SegmentIn) (why : NotTaken) (refusal : Refusal) → new ≡ record mid { broken = true }
      → refusal_by batch why ≡ Ok refusal
      → IsOverLimit mid.signal mid.streams batch.payloads why → Next old frame new (seen.Refused refusal)
  next_over new why refusal broken is over =
      of_frame new (seen.Refused refusal)
      (stopped_parts old new batch why refusal old.signal old.streams refl refl o.opens.was_whole
      (is_broken new broken) (same_signal new broken) is refuses)
    where
      refuses : (past : List PayloadIn) → AreAfter past old.streams → SaysDefect (Refuses old.signal past batch.payloads) why
      refuses past are =
          let p : OpensAfter old.signal past batch.payloads mid.streams = o.opens.opens past are in
          by_size old.signal past batch.payloads why p.list p.records
          (of_opened (λ s past. StopsBySize s past batch.payloads why) over past are)

  -- ---- what it is to a receiver, after frames with these outcomes

  module _ (outcomes : List Outcome) (stands : StandsFor old.signal outcomes old) where
    opened : OpensAfter old.signal (payloads_after outcomes) batch.payloads mid.streams
    opened = o.opens.opens (payloads_after outcomes) (stands.streams o.opens.was_whole)

    gives : (outcome : Outcome) → GivesOutcome old.signal (payloads_after outcomes) (Message o.bytes) outcome
        → OutcomeAfter old.signal outcomes frame outcome
    gives outcome given =
        subst (λ (f : Frame). OutcomeAfter old.signal outcomes f outcome) (sym o.message)
        (when_whole old.signal outcomes (Message o.bytes) outcome (sym stands.broken ∙ o.opens.was_whole) given)

    -- the stages before its rows accept it
    seen_batch : AreWithinLimits old.signal (payloads_after outcomes) batch.payloads
        → OutcomeAfter old.signal outcomes frame (Accepted batch (tables_of old.signal (payloads_after outcomes) batch.payloads))
    seen_batch within =
        gives (Accepted batch (tables_of old.signal (payloads_after outcomes) batch.payloads))
        (GivesOutcome.accepts o.bytes batch o.reads (record { list = opened.list; records = opened.records; size = within }))

    -- nothing is wrong with its rows
    pub accepted_rows : AreWithinLimits old.signal (payloads_after outcomes) batch.payloads
        → HasFineRows (meaning_by old.signal) (tables_of old.signal (payloads_after outcomes) batch.payloads)
        → LeadsTo (meaning_by old.signal) outcomes frame
        (Accepted batch (tables_of old.signal (payloads_after outcomes) batch.payloads)) mid
    accepted_rows within fine =
        let tables : List Table = tables_of old.signal (payloads_after outcomes) batch.payloads in
        record {
          gives = record { seen = Accepted batch tables; gives = seen_batch within; settles = Settles.accepted batch tables fine };
          stands = record {
            same = o.opens.same;
            broken = o.opens.whole ∙ sym (broken_accepted outcomes batch tables ∙ sym stands.broken ∙ o.opens.was_whole);
            streams = λ _.
                subst (λ (ps : List PayloadIn). AreAfter ps mid.streams) (sym (payloads_accepted outcomes batch tables)) opened.after;
          };
        }

    -- or something is wrong with it
    refused_late : (cause : Cause) (payload : Option ℤ)
        → IsLateDefect old.signal (payloads_after outcomes) batch.payloads cause payload
        → ReceivedAfter (meaning_by old.signal) outcomes frame (refused (Some batch.id) cause payload)
    refused_late cause payload (inl large) =
        let refuses : Refuses old.signal (payloads_after outcomes) batch.payloads cause payload
        = subst (λ (named : Option ℤ). Refuses old.signal (payloads_after outcomes) batch.payloads cause named) (sym large.0)
        (Refuses.by_size cause opened.list opened.records large.1) in
        record {
          seen = refused (Some batch.id) cause payload;
          gives = gives (refused (Some batch.id) cause payload) (GivesOutcome.refuses o.bytes batch cause payload o.reads refuses);
          settles = Settles.stays_refused (refusal_of (Some batch.id) cause payload);
        }
    refused_late cause payload (inr wrong) =
        let tables : List Table = tables_of old.signal (payloads_after outcomes) batch.payloads in
        record { seen = Accepted batch tables; gives = seen_batch wrong.0; settles = Settles.refuses batch tables cause payload wrong.1 }

    pub refused_rows : (new : SegmentIn) (cause : Cause) (payload : Option ℤ) → new ≡ record mid { broken = true }
        → IsLateDefect old.signal (payloads_after outcomes) batch.payloads cause payload
        → LeadsTo (meaning_by old.signal) outcomes frame (refused (Some batch.id) cause payload) new
    refused_rows new cause payload broken wrong = record {
      gives = refused_late cause payload wrong;
      stands = stands_broken old.signal outcomes (refusal_of (Some batch.id) cause payload) new
          (same_signal new broken) (is_broken new broken);
    }

  -- ---- its outcome, whichever came before it

  -- it is checked
  pub outcome_checked : (made : Checked) → IsChecked mid.signal mid.streams batch.payloads made
      → NextOutcome (meaning_by old.signal) old frame (Accepted batch made.tables) mid
  outcome_checked made checked = record {
    at = λ outcomes stands.
        let past : List PayloadIn = payloads_after outcomes in
        let before : AreAfter past old.streams = stands.streams o.opens.was_whole in
        let same : made.tables ≡ tables_of old.signal past batch.payloads
        = of_opened (λ s past. made.tables ≡ tables_of s past batch.payloads) checked.tables past before in
        let fine : HasFineRows (meaning_by old.signal) made.tables
        = subst (λ (s : Signal). HasFineRows (meaning_by s) made.tables) o.opens.same checked.fine in
        subst (λ (tables : List Table). LeadsTo (meaning_by old.signal) outcomes frame (Accepted batch tables) mid) (sym same)
        (accepted_rows outcomes stands (of_opened (λ s past. AreWithinLimits s past batch.payloads) checked.within past before)
        (subst (λ (tables : List Table). HasFineRows (meaning_by old.signal) tables) same fine));
  }

  -- it is not taken, for this reason
  pub outcome_not_taken : (new : SegmentIn) (why : NotTaken) (refusal : Refusal) → new ≡ record mid { broken = true }
      → refusal_by batch why ≡ Ok refusal → HasLateDefect mid.signal mid.streams batch.payloads why
      → NextOutcome (meaning_by old.signal) old frame (Refused refusal) new
  outcome_not_taken new (Defect cause payload) refusal broken is stops =
      subst (λ (r : Refusal). NextOutcome (meaning_by old.signal) old frame (Refused r) new) (cc is)
      (record {
        at = λ outcomes stands.
            refused_rows outcomes stands new cause payload broken
            (of_opened (λ s past. IsLateDefect s past batch.payloads cause payload) stops (payloads_after outcomes)
            (stands.streams o.opens.was_whole));
      })
  outcome_not_taken new (Memory e) refusal broken is stops = absurd (cc is)

  -- ---- what a receiver returns

  pub received_made : (rows : ℕ) (kept : Regrouped) → IsLight kept
      → ((past : List PayloadIn) → AreAfter (past ++ batch.payloads) mid.streams
      → MakesRequest mid.signal past batch.payloads rows kept)
      → Receives (meaning_by old.signal) old frame mid (taken.Accepted batch.id kept.request rows kept.tree)
  received_made rows kept light makes = record {
    at = λ outcomes stands.
        let past : List PayloadIn = payloads_after outcomes in
        let tables : List Table = tables_of old.signal past batch.payloads in
        let made : MakesRequest old.signal past batch.payloads rows kept
        = of_opened (λ s past. MakesRequest s past batch.payloads rows kept) makes past (stands.streams o.opens.was_whole) in
        let leads : LeadsTo (meaning_by old.signal) outcomes frame (Accepted batch tables) mid
        = accepted_rows outcomes stands made.weighs.within
        (record { clean = made.is.clean; light = subst (λ (q : Request). weight_of q ≤ weight_limit) made.is.request light }) in
        record {
          outcome = Accepted batch tables;
          gives = leads.gives;
          reports = reported batch.id ((meaning_by old.signal).request tables) kept.request (weight_of_tables tables) rows kept.tree
              made.is.request made.weighs.rows made.is.tree;
          stands = leads.stands;
        };
  }

  -- the batch is not taken, for this reason
  pub received_refused : (new : SegmentIn) (why : NotTaken) (refusal : Refusal) → new ≡ record mid { broken = true }
      → refusal_by batch why ≡ Ok refusal → HasLateDefect mid.signal mid.streams batch.payloads why
      → Receives (meaning_by old.signal) old frame new (taken.Refused refusal)
  received_refused new why refusal broken is stops =
      receives_outcome (meaning_by old.signal) frame (Refused refusal) old new (outcome_not_taken new why refusal broken is stops)
