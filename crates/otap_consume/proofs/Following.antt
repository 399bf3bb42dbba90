-- Each frame has an outcome after frames with outcomes.
use Rattle.std.proofs.Common.{◌≡◌, Bool, true, false, List, [], ◌∷◌, ◌++◌, Option, Some, None, refl, sym, ◌∙◌, subst, inl, inr}
use Rattle.std.specs.Prelude.{MatchBool, ◌⊎◌, ⊤}
use Rattle.std.specs.List.{AllByRecursion}
use Rattle.std.specs.Option.{IsSome}
use Rattle.std.proofs.lemmas.Bool.{both_ways}
use Rattle.lists.specs.EachAfter.{AllAfter}
use Rattle.lists.proofs.Growing.{each_after-keeps, all_after-append}
use Rattle.lists.specs.Payloads.{PayloadIn}
use Rattle.otlp_model.specs.declared.request.Signal.{Signal}
use Rattle.otap_capture.specs.declared.batch.BatchRefusal.{BatchRefusal}
use Rattle.otap_capture.specs.Batch.{BatchContent, ReadsBatch, RefusesBatch}
use Rattle.otap_capture.specs.Capture.{Frame, Message, Packed}
use Rattle.otap_capture.specs.Capture as capture
use Rattle.otap_capture.proofs.BatchDefects.{read_or_not}
use Rattle.otap_cells.specs.declared.payload.Kind.{Kind}
use Rattle.otap_cells.specs.Payload.{kind_numbered}
use Rattle.otap_cells.specs.Tables.{Table}
use Rattle.otap_consume.specs.declared.refusal.Cause.TheVariants.{Compressed, Broken}
use Rattle.otap_consume.specs.Defects.{IsReadAfter, IsTakenAfter, AreTaken, Accepts, tables_of}
use Rattle.otap_consume.specs.Outcomes.{Outcome, Accepted, Refused, Reset, refused, unread_cause, is_broken, payloads_after, GivesOutcome, StaysBroken, OutcomeAfter, Outcomes}
use Rattle.otap_consume.specs.PayloadTypes.{IsFineType}
use Rattle.otap_consume.proofs.Judged.{are_judged}
use Rattle.otap_consume.proofs.SegmentSteps.{payloads_accepted, broken_accepted, broken_refused, payloads_reset}

-- ---- a message is a batch, or has a defect

abbrev pub IsReadOrRefused : Frame → Type 0
IsReadOrRefused (Message bytes) = ((batch : BatchContent) × ReadsBatch bytes batch) ⊎ ((refusal : BatchRefusal) × RefusesBatch bytes refusal)
IsReadOrRefused frame = ⊤

pub is_read_or_refused : (frame : Frame) → IsReadOrRefused frame
is_read_or_refused (Message bytes) = read_or_not bytes
is_read_or_refused Packed = tt
is_read_or_refused capture.Reset = tt

-- ---- the payloads of accepted batches were taken

-- those of one batch, after the others
more_taken : (signal : Signal) (all before xs : List PayloadIn) → AllByRecursion (IsFineType signal all) xs → AllAfter (IsReadAfter signal) before xs → AllAfter (IsTakenAfter signal) before xs
more_taken signal all before [] fine read = tt
more_taken signal all before (p ∷ xs) fine read =
    (by_kind (kind_numbered signal p.kind) refl fine.0.known, more_taken signal all (before ++ p ∷ []) xs fine.1 read.1)
  where
    by_kind : (o : Option Kind) → kind_numbered signal p.kind ≡ o → IsSome (kind_numbered signal p.kind) → IsTakenAfter signal before p
    by_kind None at known = absurd (cc (subst (λ (o : Option Kind). IsSome o) at known))
    by_kind (Some kind) at known = record { kind = kind; known = at; read = read.0 kind at }

accepted_taken : (signal : Signal) (past payloads : List PayloadIn) → AreTaken signal past → Accepts signal past payloads → AreTaken signal (past ++ payloads)
accepted_taken signal past payloads taken a =
    all_after-append (IsTakenAfter signal) [] past payloads taken (more_taken signal payloads past payloads a.list.types a.records)

-- a batch that a frame gives was accepted
gives_accepted : (signal : Signal) (past : List PayloadIn) (frame : Frame) (o : Outcome) (batch : BatchContent) (tables : List Table) → GivesOutcome signal past frame o → o ≡ Accepted batch tables
    → Accepts signal past batch.payloads
gives_accepted signal past _ _ batch tables GivesOutcome.compressed is = absurd (cc is)
gives_accepted signal past _ _ batch tables (GivesOutcome.unreadable bytes refusal bad) is = absurd (cc is)
gives_accepted signal past _ _ batch tables (GivesOutcome.refuses bytes other cause payload reads bad) is = absurd (cc is)
gives_accepted signal past _ _ batch tables (GivesOutcome.accepts bytes other reads accepts) is =
    let same : other ≡ batch = cc is in
    subst (λ (b : BatchContent). Accepts signal past b.payloads) same accepts
gives_accepted signal past _ _ batch tables GivesOutcome.resets is = absurd (cc is)

-- where no frame of the segment was refused
abbrev pub Taken : Signal → List Outcome → Type 0
Taken signal outcomes = is_broken outcomes ≡ false → AreTaken signal (payloads_after outcomes)

pub one_more : (signal : Signal) (outcomes : List Outcome) (frame : Frame) (outcome : Outcome) → Taken signal outcomes → OutcomeAfter signal outcomes frame outcome → Taken signal (outcomes ++ outcome ∷ [])
one_more signal outcomes frame (Accepted batch tables) taken after = λ whole.
    let before : is_broken outcomes ≡ false = sym (broken_accepted outcomes batch tables) ∙ whole in
    let gives : GivesOutcome signal (payloads_after outcomes) frame (Accepted batch tables) =
    subst (λ (b : Bool). MatchBool b (StaysBroken frame (Accepted batch tables)) (GivesOutcome signal (payloads_after outcomes) frame (Accepted batch tables))) before after in
    subst (AreTaken signal) (sym (payloads_accepted outcomes batch tables))
    (accepted_taken signal (payloads_after outcomes) batch.payloads (taken before) (gives_accepted signal (payloads_after outcomes) frame (Accepted batch tables) batch tables gives refl))
one_more signal outcomes frame (Refused refusal) taken after = λ whole. absurd (both_ways (is_broken (outcomes ++ Refused refusal ∷ [])) whole (broken_refused outcomes refusal))
one_more signal outcomes frame Reset taken after = λ whole. subst (AreTaken signal) (sym (payloads_reset outcomes)) tt

pub none_taken : (signal : Signal) → Taken signal []
unfolding payloads_after
none_taken signal = λ whole. tt

taken_after : (signal : Signal) (frames : List Frame) (outcomes : List Outcome) → Outcomes signal frames outcomes → Taken signal outcomes
taken_after signal frames outcomes each =
    each_after-keeps (λ past before frame outcome. OutcomeAfter signal before frame outcome) (λ past before. Taken signal before)
    (λ past before frame outcome taken after. one_more signal before frame outcome taken after) [] [] frames outcomes (none_taken signal) each

-- ---- so each frame has an outcome

abbrev pub Has : Signal → List Outcome → Frame → Type 0
Has signal outcomes frame = (outcome : Outcome) × OutcomeAfter signal outcomes frame outcome

still_broken : (frame : Frame) → IsReadOrRefused frame → (outcome : Outcome) × StaysBroken frame outcome
still_broken (Message bytes) (inl (batch, reads)) = (refused (Some batch.id) Broken None, StaysBroken.readable bytes batch reads)
still_broken (Message bytes) (inr (refusal, bad)) = (refused None Broken None, StaysBroken.unreadable bytes refusal bad)
still_broken Packed h = (refused None Broken None, StaysBroken.compressed)
still_broken capture.Reset h = (Reset, StaysBroken.resets)

gives_some : (signal : Signal) (past : List PayloadIn) → AreTaken signal past → (frame : Frame) → IsReadOrRefused frame → (outcome : Outcome) × GivesOutcome signal past frame outcome
gives_some signal past taken (Message bytes) (inl (batch, reads)) =
    elim (are_judged signal past batch.payloads taken) [
      | inl accepts ↦ (Accepted batch (tables_of signal past batch.payloads), GivesOutcome.accepts bytes batch reads accepts)
      | inr bad ↦ (refused (Some batch.id) bad.0 bad.1, GivesOutcome.refuses bytes batch bad.0 bad.1 reads bad.2)
    ]
gives_some signal past taken (Message bytes) (inr (refusal, bad)) = (refused None (unread_cause refusal) None, GivesOutcome.unreadable bytes refusal bad)
gives_some signal past taken Packed h = (refused None Compressed None, GivesOutcome.compressed)
gives_some signal past taken capture.Reset h = (Reset, GivesOutcome.resets)

pub by_break : (signal : Signal) (outcomes : List Outcome) (frame : Frame) (b : Bool) → is_broken outcomes ≡ b → Taken signal outcomes → IsReadOrRefused frame → Has signal outcomes frame
by_break signal outcomes frame true is taken read =
    let h : (outcome : Outcome) × StaysBroken frame outcome = still_broken frame read in
    (h.0, subst (λ (b : Bool). MatchBool b (StaysBroken frame h.0) (GivesOutcome signal (payloads_after outcomes) frame h.0)) (sym is) h.1)
by_break signal outcomes frame false is taken read =
    let h : (outcome : Outcome) × GivesOutcome signal (payloads_after outcomes) frame outcome = gives_some signal (payloads_after outcomes) (taken is) frame read in
    (h.0, subst (λ (b : Bool). MatchBool b (StaysBroken frame h.0) (GivesOutcome signal (payloads_after outcomes) frame h.0)) (sym is) h.1)

pub some_after : (signal : Signal) (frames : List Frame) (outcomes : List Outcome) (frame : Frame) → Outcomes signal frames outcomes → IsReadOrRefused frame
    → (outcome : Outcome) × OutcomeAfter signal outcomes frame outcome
some_after signal frames outcomes frame each read = by_break signal outcomes frame (is_broken outcomes) refl (taken_after signal frames outcomes each) read
