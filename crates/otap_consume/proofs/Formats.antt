-- What the outcomes of a receiver say of the format.
use Rattle.std.proofs.Common.{◌≡◌, ℕ, ◌<◌, ◌⊎◌, inl, inr, Bool, true, false, List, [], ◌∷◌, ◌++◌, Option, Some, None, ℤ, refl, sym, ap, ◌∙◌, subst, arith}
use Rattle.std.specs.Prelude.{MatchBool, ◌↔◌}
use Rattle.std.proofs.lemmas.Bool.{both_ways, cases_Bool, cases_lt}
use Rattle.lists.proofs.Growing.{each_after-keeps}
use Rattle.lists.specs.Payloads.{PayloadIn}
use Rattle.otlp_model.specs.Limits.{weight_limit}
use Rattle.otlp_model.specs.Weight.{weight_of}
use Rattle.otap_capture.specs.declared.batch.BatchRefusal.{BatchRefusal}
use Rattle.otap_capture.specs.declared.batch.BatchRefusal.TheVariants as unread
use Rattle.otap_capture.specs.Batch.{BatchContent, ReadsBatch, RefusesBatch, batch_content, defect_of}
use Rattle.otap_capture.specs.Capture.{Frame, Message, Packed}
use Rattle.otap_capture.specs.Capture as capture
use Rattle.otap_capture.proofs.BatchDefects.{read_or_refused}
use Rattle.otap_cells.specs.Tables.{Table}
use Rattle.otap_consume.specs.declared.refusal.Cause.{Cause}
use Rattle.otap_consume.specs.declared.refusal.Cause.TheVariants.{Compressed, BadMessage, Repeated, BadUtf8, PayloadType, PayloadTwice, SchemaIdTaken}
use Rattle.otap_consume.specs.declared.refusal.Cause.TheVariants.{Column, TooManyItems, RowsTooHeavy, HeldTooMuch, Row, TreeTooHeavy, Broken}
use Rattle.otap_consume.specs.declared.refusal.Refusal.{Refusal}
use Rattle.otap_consume.specs.Defects.{Refuses, Accepts, AreTaken, AreJudged, tables_of}
use Rattle.otap_signals.specs.Meanings.{Meaning, AreClean}
use Rattle.otap_consume.specs.LateStages.{IsDefectOfRows, HasFineRows}
use Rattle.otap_consume.specs.Payloads.{payload_type_of}
use Rattle.otap_consume.specs.Outcomes.{Outcome, Accepted, Refused, Reset, GivesOutcome, StaysBroken, OutcomeAfter, stage_of, refusal_of, unread_cause, is_broken, payloads_after}
use Rattle.otap_consume.specs.Receiving.{Settles, ReceivedAfter, Received, HasDefect, IsInFormat}
use Rattle.otap_consume.proofs.Excluding.{not_both, one_stage, after_first}
use Rattle.otap_consume.proofs.Following.{Taken, one_more, none_taken}
use Rattle.otap_consume.proofs.Judged.{are_judged}
use Rattle.otap_consume.proofs.Regrouping.{GivesBatch, accepted_batch}
use Rattle.otap_consume.proofs.SegmentSteps.{broken_refused, payloads_reset, when_whole}

-- ---- what an outcome is made of

pub settles_accepted : (m : Meaning) (seen o : Outcome) (batch : BatchContent) (tables : List Table) → o ≡ Accepted batch tables → Settles m seen o → (seen ≡ Accepted batch tables) × HasFineRows m tables
settles_accepted m seen o batch tables is (Settles.accepted b ts fine) = (is, subst (HasFineRows m) (cc is) fine)
settles_accepted m seen o batch tables is (Settles.refuses b ts cause payload stands) = absurd (cc is)
settles_accepted m seen o batch tables is (Settles.stays_refused refusal) = absurd (cc is)
settles_accepted m seen o batch tables is Settles.resets = absurd (cc is)

-- a batch that a later stage refuses
pub record IsLate (m : Meaning) (seen : Outcome) (refusal : Refusal) : Type 0 where
  pub batch : BatchContent
  pub tables : List Table
  pub cause : Cause
  pub payload : Option ℤ
  pub before : seen ≡ Accepted batch tables
  pub stands : IsDefectOfRows m tables cause payload
  pub is : refusal ≡ refusal_of (Some batch.id) cause payload

pub settles_refused : (m : Meaning) (seen o : Outcome) (refusal : Refusal) → o ≡ Refused refusal → Settles m seen o → (seen ≡ Refused refusal) ⊎ IsLate m seen refusal
settles_refused m seen o refusal is (Settles.accepted b ts fine) = absurd (cc is)
settles_refused m seen o refusal is (Settles.refuses b ts cause payload stands) =
    inr (record { batch = b; tables = ts; cause = cause; payload = payload; before = refl; stands = stands; is = sym (cc is) })
settles_refused m seen o refusal is (Settles.stays_refused other) = inl is
settles_refused m seen o refusal is Settles.resets = absurd (cc is)

-- ---- the payloads of accepted batches were taken

pub still_taken : (m : Meaning) (outcomes : List Outcome) (frame : Frame) (outcome : Outcome) → Taken m.signal outcomes → ReceivedAfter m outcomes frame outcome → Taken m.signal (outcomes ++ outcome ∷ [])
still_taken m outcomes frame (Accepted batch tables) taken after =
    let was : after.seen ≡ Accepted batch tables = (settles_accepted m after.seen (Accepted batch tables) batch tables refl after.settles).0 in
    one_more m.signal outcomes frame (Accepted batch tables) taken (subst (OutcomeAfter m.signal outcomes frame) was after.gives)
still_taken m outcomes frame (Refused refusal) taken after = λ whole. absurd (both_ways (is_broken (outcomes ++ Refused refusal ∷ [])) whole (broken_refused outcomes refusal))
still_taken m outcomes frame Reset taken after = λ whole. subst (AreTaken m.signal) (sym (payloads_reset outcomes)) tt

pub taken_received : (m : Meaning) (frames : List Frame) (outcomes : List Outcome) → Received m frames outcomes → Taken m.signal outcomes
taken_received m frames outcomes each =
    each_after-keeps (λ past before frame outcome. ReceivedAfter m before frame outcome) (λ past before. Taken m.signal before)
    (λ past before frame outcome taken after. still_taken m before frame outcome taken after) [] [] frames outcomes (none_taken m.signal) each

-- ---- a message is read in one way

one_batch : (bytes : List ℕ) (a b : BatchContent) → ReadsBatch bytes a → ReadsBatch bytes b → a ≡ b
one_batch bytes a b reads_a reads_b = reads_a.1 ∙ sym reads_b.1

not_unread : (bytes : List ℕ) (batch : BatchContent) (refusal : BatchRefusal) → ReadsBatch bytes batch → RefusesBatch bytes refusal → ⊥
not_unread bytes batch refusal reads bad = reads.0.none (defect_of refusal) bad

-- ---- what is accepted is in the format

-- nothing is wrong with rows that are fine
rows_not : (m : Meaning) (tables : List Table) (cause : Cause) (payload : Option ℤ) → HasFineRows m tables → IsDefectOfRows m tables cause payload → ⊥
rows_not m tables (Row why) payload fine stands = fine.clean stands.0 why stands.2
rows_not m tables TreeTooHeavy payload fine stands = absurd (omega (arith, fine.light, stands.2))
rows_not m tables Compressed payload fine stands = stands
rows_not m tables BadMessage payload fine stands = stands
rows_not m tables Repeated payload fine stands = stands
rows_not m tables BadUtf8 payload fine stands = stands
rows_not m tables PayloadType payload fine stands = stands
rows_not m tables PayloadTwice payload fine stands = stands
rows_not m tables SchemaIdTaken payload fine stands = stands
rows_not m tables (Column refusal) payload fine stands = stands
rows_not m tables TooManyItems payload fine stands = stands
rows_not m tables RowsTooHeavy payload fine stands = stands
rows_not m tables HeldTooMuch payload fine stands = stands
rows_not m tables Broken payload fine stands = stands

-- an accepted batch whose rows are fine
module _ (m : Meaning) (past : List PayloadIn) (bytes : List ℕ) (batch : BatchContent) where
  no_defect : ReadsBatch bytes batch → Accepts m.signal past batch.payloads → HasFineRows m (tables_of m.signal past batch.payloads)
      → (frame : Frame) → frame ≡ Message bytes → (cause : Cause) (payload : Option ℤ) → HasDefect m past frame cause payload → ⊥
  no_defect reads accepts fine frame is cause payload HasDefect.compressed = cc is
  no_defect reads accepts fine frame is cause payload (HasDefect.unreadable other refusal bad) =
      let same : other ≡ bytes = cc is in
      not_unread bytes batch refusal reads (subst (λ (bs : List ℕ). RefusesBatch bs refusal) same bad)
  no_defect reads accepts fine frame is cause payload (HasDefect.early other b c p reads' bad) =
      let same : other ≡ bytes = cc is in
      let one : b ≡ batch = one_batch bytes b batch (subst (λ (bs : List ℕ). ReadsBatch bs b) same reads') reads in
      not_both m.signal past batch.payloads c p accepts (subst (λ (x : BatchContent). Refuses m.signal past x.payloads c p) one bad)
  no_defect reads accepts fine frame is cause payload (HasDefect.late other b c p reads' accepts' bad) =
      let same : other ≡ bytes = cc is in
      let one : b ≡ batch = one_batch bytes b batch (subst (λ (bs : List ℕ). ReadsBatch bs b) same reads') reads in
      rows_not m (tables_of m.signal past batch.payloads) c p fine (subst (λ (x : BatchContent). IsDefectOfRows m (tables_of m.signal past x.payloads) c p) one bad)

pub in_format : (m : Meaning) (outcomes : List Outcome) (frame : Frame) (batch : BatchContent) (tables : List Table) → ReceivedAfter m outcomes frame (Accepted batch tables)
    → (is_broken outcomes ≡ false) × IsInFormat m (payloads_after outcomes) frame
in_format m outcomes frame batch tables after =
    let s : (after.seen ≡ Accepted batch tables) × HasFineRows m tables = settles_accepted m after.seen (Accepted batch tables) batch tables refl after.settles in
    let given : (is_broken outcomes ≡ false) × GivesBatch m.signal (payloads_after outcomes) frame batch tables
    = accepted_batch m.signal outcomes frame batch tables (subst (OutcomeAfter m.signal outcomes frame) s.0 after.gives) in
    let g : GivesBatch m.signal (payloads_after outcomes) frame batch tables = given.1 in (
      given.0,
      record {
        bytes = g.bytes;
        message = g.message;
        fine = no_defect m (payloads_after outcomes) g.bytes batch g.reads g.accepts (subst (HasFineRows m) g.are s.1) frame g.message;
      },
    )

-- ---- what is in the format is accepted

accepted_message : (m : Meaning) (outcomes : List Outcome) (bytes : List ℕ) → AreTaken m.signal (payloads_after outcomes) → is_broken outcomes ≡ false
    → ((cause : Cause) (payload : Option ℤ) → HasDefect m (payloads_after outcomes) (Message bytes) cause payload → ⊥)
    → (batch : BatchContent) × (tables : List Table) × ReceivedAfter m outcomes (Message bytes) (Accepted batch tables)
accepted_message m outcomes bytes taken whole fine = by_judgement (are_judged m.signal past batch.payloads taken)
  where
    past : List PayloadIn
    past = payloads_after outcomes

    batch : BatchContent
    batch = batch_content bytes

    reads : ReadsBatch bytes batch
    reads = read_or_refused bytes (λ refusal bad. fine (unread_cause refusal) None (HasDefect.unreadable bytes refusal bad))

    tables : List Table
    tables = tables_of m.signal past batch.payloads

    by_judgement : AreJudged m.signal past batch.payloads → (batch : BatchContent) × (tables : List Table) × ReceivedAfter m outcomes (Message bytes) (Accepted batch tables)
    by_judgement (inr bad) = absurd (fine bad.0 bad.1 (HasDefect.early bytes batch bad.0 bad.1 reads bad.2))
    by_judgement (inl accepts) =
        let clean : AreClean m tables = λ kind why stands. fine (Row why) (Some (payload_type_of kind)) (HasDefect.late bytes batch (Row why) (Some (payload_type_of kind)) reads accepts (kind, refl, stands)) in
        elim (cases_lt weight_limit (weight_of (m.request tables))) [
          | inl heavy ↦ absurd (fine TreeTooHeavy None (HasDefect.late bytes batch TreeTooHeavy None reads accepts (refl, clean, heavy)))
          | inr light ↦ (
            batch,
            tables,
            record {
              seen = Accepted batch tables;
              gives = when_whole m.signal outcomes (Message bytes) (Accepted batch tables) whole (GivesOutcome.accepts bytes batch reads accepts);
              settles = Settles.accepted batch tables (record { clean = clean; light = light });
            },
          )
        ]

pub accepted : (m : Meaning) (frames : List Frame) (outcomes : List Outcome) (frame : Frame) → Received m frames outcomes → is_broken outcomes ≡ false
    → IsInFormat m (payloads_after outcomes) frame → (batch : BatchContent) × (tables : List Table) × ReceivedAfter m outcomes frame (Accepted batch tables)
accepted m frames outcomes frame each whole format =
    subst (λ (f : Frame). (batch : BatchContent) × (tables : List Table) × ReceivedAfter m outcomes f (Accepted batch tables)) (sym format.message)
    (accepted_message m outcomes format.bytes (taken_received m frames outcomes each whole) whole
    (subst (λ (f : Frame). (cause : Cause) (payload : Option ℤ) → HasDefect m (payloads_after outcomes) f cause payload → ⊥) format.message format.fine))

-- ---- what is refused

abbrev Named : Meaning → List PayloadIn → Frame → Refusal → Type 0
Named m past frame refusal = HasDefect m past frame refusal.cause refusal.payload × (refusal.stage ≡ stage_of refusal.cause)

named_early : (m : Meaning) (past : List PayloadIn) (frame : Frame) (o : Outcome) (refusal : Refusal) → o ≡ Refused refusal → GivesOutcome m.signal past frame o → Named m past frame refusal
named_early m past frame o refusal is GivesOutcome.compressed =
    let same : refusal_of None Compressed None ≡ refusal = cc is in
    subst (Named m past frame) same (HasDefect.compressed, refl)
named_early m past frame o refusal is (GivesOutcome.unreadable bytes why bad) =
    let same : refusal_of None (unread_cause why) None ≡ refusal = cc is in
    subst (Named m past frame) same (HasDefect.unreadable bytes why bad, refl)
named_early m past frame o refusal is (GivesOutcome.refuses bytes batch cause payload reads bad) =
    let same : refusal_of (Some batch.id) cause payload ≡ refusal = cc is in
    subst (Named m past frame) same (HasDefect.early bytes batch cause payload reads bad, refl)
named_early m past frame o refusal is (GivesOutcome.accepts bytes batch reads accepts) = absurd (cc is)
named_early m past frame o refusal is GivesOutcome.resets = absurd (cc is)

named_late : (m : Meaning) (past : List PayloadIn) (frame : Frame) (late : Refusal) (batch : BatchContent) (tables : List Table) (cause : Cause) (payload : Option ℤ)
    → GivesBatch m.signal past frame batch tables → IsDefectOfRows m tables cause payload → late ≡ refusal_of (Some batch.id) cause payload → Named m past frame late
named_late m past frame late batch tables cause payload g stands is =
    let here : HasDefect m past (Message g.bytes) cause payload
    = HasDefect.late g.bytes batch cause payload g.reads g.accepts (subst (λ (ts : List Table). IsDefectOfRows m ts cause payload) g.are stands) in
    subst (Named m past frame) (sym is) (subst (λ (f : Frame). HasDefect m past f cause payload) (sym g.message) here, refl)

pub named : (m : Meaning) (outcomes : List Outcome) (frame : Frame) (refusal : Refusal) → ReceivedAfter m outcomes frame (Refused refusal) → is_broken outcomes ≡ false
    → Named m (payloads_after outcomes) frame refusal
named m outcomes frame refusal after whole = by_stage (settles_refused m after.seen (Refused refusal) refusal refl after.settles)
  where
    by_stage : (after.seen ≡ Refused refusal) ⊎ IsLate m after.seen refusal → Named m (payloads_after outcomes) frame refusal
    by_stage (inl was) =
        named_early m (payloads_after outcomes) frame after.seen refusal was
        (subst (λ (b : Bool). MatchBool b (StaysBroken frame after.seen) (GivesOutcome m.signal (payloads_after outcomes) frame after.seen)) whole after.gives)
    by_stage (inr late) =
        let given : (is_broken outcomes ≡ false) × GivesBatch m.signal (payloads_after outcomes) frame late.batch late.tables
        = accepted_batch m.signal outcomes frame late.batch late.tables (subst (OutcomeAfter m.signal outcomes frame) late.before after.gives) in
        named_late m (payloads_after outcomes) frame refusal late.batch late.tables late.cause late.payload given.1 late.stands late.is

-- ---- in one stage only

unread_first : (refusal : BatchRefusal) → stage_of (unread_cause refusal) ≡ 1
unread_first unread.BadMessage = refl
unread_first unread.Repeated = refl
unread_first unread.BadUtf8 = refl

-- rows are wrong, or a request is too heavy, but not both
late_stage : (m : Meaning) (tables : List Table) (cause : Cause) (payload : Option ℤ) → IsDefectOfRows m tables cause payload → 4 < stage_of cause
late_stage m tables (Row why) payload stands = omega arith
late_stage m tables TreeTooHeavy payload stands = omega arith
late_stage m tables Compressed payload stands = absurd stands
late_stage m tables BadMessage payload stands = absurd stands
late_stage m tables Repeated payload stands = absurd stands
late_stage m tables BadUtf8 payload stands = absurd stands
late_stage m tables PayloadType payload stands = absurd stands
late_stage m tables PayloadTwice payload stands = absurd stands
late_stage m tables SchemaIdTaken payload stands = absurd stands
late_stage m tables (Column refusal) payload stands = absurd stands
late_stage m tables TooManyItems payload stands = absurd stands
late_stage m tables RowsTooHeavy payload stands = absurd stands
late_stage m tables HeldTooMuch payload stands = absurd stands
late_stage m tables Broken payload stands = absurd stands

-- which of the two it is
abbrev Late : Meaning → List Table → Cause → Type 0
Late m tables cause = (AreClean m tables × (stage_of cause ≡ 6)) ⊎ (((AreClean m tables → ⊥)) × (stage_of cause ≡ 5))

which_late : (m : Meaning) (tables : List Table) (cause : Cause) (payload : Option ℤ) → IsDefectOfRows m tables cause payload → Late m tables cause
which_late m tables (Row why) payload stands = inr (λ clean. clean stands.0 why stands.2, refl)
which_late m tables TreeTooHeavy payload stands = inl (stands.1, refl)
which_late m tables Compressed payload stands = absurd stands
which_late m tables BadMessage payload stands = absurd stands
which_late m tables Repeated payload stands = absurd stands
which_late m tables BadUtf8 payload stands = absurd stands
which_late m tables PayloadType payload stands = absurd stands
which_late m tables PayloadTwice payload stands = absurd stands
which_late m tables SchemaIdTaken payload stands = absurd stands
which_late m tables (Column refusal) payload stands = absurd stands
which_late m tables TooManyItems payload stands = absurd stands
which_late m tables RowsTooHeavy payload stands = absurd stands
which_late m tables HeldTooMuch payload stands = absurd stands
which_late m tables Broken payload stands = absurd stands

same_late : (m : Meaning) (tables : List Table) (a b : Cause) → Late m tables a → Late m tables b → stage_of a ≡ stage_of b
same_late m tables a b (inl x) (inl y) = x.1 ∙ sym y.1
same_late m tables a b (inl x) (inr y) = absurd (y.0 x.0)
same_late m tables a b (inr x) (inl y) = absurd (x.0 y.0)
same_late m tables a b (inr x) (inr y) = x.1 ∙ sym y.1

-- what is wrong with a message
pub data MessageDefect (m : Meaning) (past : List PayloadIn) (bytes : List ℕ) (cause : Cause) (payload : Option ℤ) : Type 0 where
  unreadable : (refusal : BatchRefusal) → RefusesBatch bytes refusal → cause ≡ unread_cause refusal → MessageDefect m past bytes cause payload
  early : ReadsBatch bytes (batch_content bytes) → Refuses m.signal past (batch_content bytes).payloads cause payload → MessageDefect m past bytes cause payload
  late : ReadsBatch bytes (batch_content bytes) → Accepts m.signal past (batch_content bytes).payloads → IsDefectOfRows m (tables_of m.signal past (batch_content bytes).payloads) cause payload
      → MessageDefect m past bytes cause payload

of_message : (m : Meaning) (past : List PayloadIn) (frame : Frame) (bytes : List ℕ) (cause : Cause) (payload : Option ℤ) → frame ≡ Message bytes → HasDefect m past frame cause payload
    → MessageDefect m past bytes cause payload
of_message m past frame bytes cause payload is HasDefect.compressed = absurd (cc is)
of_message m past frame bytes cause payload is (HasDefect.unreadable other refusal bad) =
    MessageDefect.unreadable refusal (subst (λ (bs : List ℕ). RefusesBatch bs refusal) (cc is) bad) refl
of_message m past frame bytes cause payload is (HasDefect.early other b c p reads bad) =
    let same : other ≡ bytes = cc is in
    let here : ReadsBatch bytes b = subst (λ (bs : List ℕ). ReadsBatch bs b) same reads in
    MessageDefect.early (subst (ReadsBatch bytes) here.1 here) (subst (λ (x : BatchContent). Refuses m.signal past x.payloads c p) here.1 bad)
of_message m past frame bytes cause payload is (HasDefect.late other b c p reads accepts bad) =
    let same : other ≡ bytes = cc is in
    let here : ReadsBatch bytes b = subst (λ (bs : List ℕ). ReadsBatch bs b) same reads in
    MessageDefect.late (subst (ReadsBatch bytes) here.1 here) (subst (λ (x : BatchContent). Accepts m.signal past x.payloads) here.1 accepts)
    (subst (λ (x : BatchContent). IsDefectOfRows m (tables_of m.signal past x.payloads) c p) here.1 bad)

message_stage : (m : Meaning) (past : List PayloadIn) (bytes : List ℕ) (a b : Cause) (p q : Option ℤ) → MessageDefect m past bytes a p → MessageDefect m past bytes b q → stage_of a ≡ stage_of b
message_stage m past bytes a b p q (MessageDefect.unreadable r bad is) (MessageDefect.unreadable s bad' is') = ap stage_of is ∙ unread_first r ∙ sym (ap stage_of is' ∙ unread_first s)
message_stage m past bytes a b p q (MessageDefect.unreadable r bad is) (MessageDefect.early reads refuses) = absurd (not_unread bytes (batch_content bytes) r reads bad)
message_stage m past bytes a b p q (MessageDefect.unreadable r bad is) (MessageDefect.late reads accepts stands) = absurd (not_unread bytes (batch_content bytes) r reads bad)
message_stage m past bytes a b p q (MessageDefect.early reads refuses) (MessageDefect.unreadable s bad' is') = absurd (not_unread bytes (batch_content bytes) s reads bad')
message_stage m past bytes a b p q (MessageDefect.early reads refuses) (MessageDefect.early reads' refuses') = one_stage m.signal past (batch_content bytes).payloads a b p q refuses refuses'
message_stage m past bytes a b p q (MessageDefect.early reads refuses) (MessageDefect.late reads' accepts stands) = absurd (not_both m.signal past (batch_content bytes).payloads a p accepts refuses)
message_stage m past bytes a b p q (MessageDefect.late reads accepts stands) (MessageDefect.unreadable s bad' is') = absurd (not_unread bytes (batch_content bytes) s reads bad')
message_stage m past bytes a b p q (MessageDefect.late reads accepts stands) (MessageDefect.early reads' refuses) = absurd (not_both m.signal past (batch_content bytes).payloads b q accepts refuses)
message_stage m past bytes a b p q (MessageDefect.late reads accepts stands) (MessageDefect.late reads' accepts' stands') =
    let tables : List Table = tables_of m.signal past (batch_content bytes).payloads in
    same_late m tables a b (which_late m tables a p stands) (which_late m tables b q stands')

packed_cause : (m : Meaning) (past : List PayloadIn) (frame : Frame) (cause : Cause) (payload : Option ℤ) → frame ≡ Packed → HasDefect m past frame cause payload → cause ≡ Compressed
packed_cause m past frame cause payload is HasDefect.compressed = refl
packed_cause m past frame cause payload is (HasDefect.unreadable other refusal bad) = absurd (cc is)
packed_cause m past frame cause payload is (HasDefect.early other b c p reads bad) = absurd (cc is)
packed_cause m past frame cause payload is (HasDefect.late other b c p reads accepts bad) = absurd (cc is)

reset_none : (m : Meaning) (past : List PayloadIn) (frame : Frame) (cause : Cause) (payload : Option ℤ) → frame ≡ capture.Reset → HasDefect m past frame cause payload → ⊥
reset_none m past frame cause payload is HasDefect.compressed = cc is
reset_none m past frame cause payload is (HasDefect.unreadable other refusal bad) = cc is
reset_none m past frame cause payload is (HasDefect.early other b c p reads bad) = cc is
reset_none m past frame cause payload is (HasDefect.late other b c p reads accepts bad) = cc is

pub defects_in_one : (m : Meaning) (past : List PayloadIn) (frame : Frame) (a b : Cause) (p q : Option ℤ) → HasDefect m past frame a p → HasDefect m past frame b q → stage_of a ≡ stage_of b
defects_in_one m past (Message bytes) a b p q x y =
    message_stage m past bytes a b p q (of_message m past (Message bytes) bytes a p refl x) (of_message m past (Message bytes) bytes b q refl y)
defects_in_one m past Packed a b p q x y = ap stage_of (packed_cause m past Packed a p refl x) ∙ sym (ap stage_of (packed_cause m past Packed b q refl y))
defects_in_one m past capture.Reset a b p q x y = absurd (reset_none m past capture.Reset a p refl x)

-- ---- stage 0

-- what is wrong with a frame is in a stage after it
has_stage : (m : Meaning) (past : List PayloadIn) (frame : Frame) (cause : Cause) (payload : Option ℤ) → HasDefect m past frame cause payload → 0 < stage_of cause
has_stage m past frame cause payload HasDefect.compressed = omega arith
has_stage m past frame cause payload (HasDefect.unreadable bytes refusal bad) = let first = unread_first refusal in omega (arith, first)
has_stage m past frame cause payload (HasDefect.early bytes b c p reads bad) = let later = after_first m.signal past b.payloads c p bad in omega (arith, later)
has_stage m past frame cause payload (HasDefect.late bytes b c p reads accepts bad) = let later = late_stage m (tables_of m.signal past b.payloads) c p bad in omega (arith, later)

zero_of : (id : Option ℤ) (refusal : Refusal) → refusal_of id Broken None ≡ refusal → refusal.stage ≡ 0
zero_of id refusal same = subst (λ (r : Refusal). r.stage ≡ 0) same refl

stays_zero : (frame : Frame) (o : Outcome) (refusal : Refusal) → o ≡ Refused refusal → StaysBroken frame o → refusal.stage ≡ 0
stays_zero frame o refusal is StaysBroken.compressed = zero_of None refusal (cc is)
stays_zero frame o refusal is (StaysBroken.unreadable bytes why bad) = zero_of None refusal (cc is)
stays_zero frame o refusal is (StaysBroken.readable bytes batch reads) = zero_of (Some batch.id) refusal (cc is)
stays_zero frame o refusal is StaysBroken.resets = absurd (cc is)

when_broken : (m : Meaning) (outcomes : List Outcome) (frame : Frame) (refusal : Refusal) → ReceivedAfter m outcomes frame (Refused refusal) → is_broken outcomes ≡ true → refusal.stage ≡ 0
when_broken m outcomes frame refusal after broken = by_stage (settles_refused m after.seen (Refused refusal) refusal refl after.settles)
  where
    by_stage : (after.seen ≡ Refused refusal) ⊎ IsLate m after.seen refusal → refusal.stage ≡ 0
    by_stage (inl was) =
        stays_zero frame after.seen refusal was
        (subst (λ (b : Bool). MatchBool b (StaysBroken frame after.seen) (GivesOutcome m.signal (payloads_after outcomes) frame after.seen)) broken after.gives)
    by_stage (inr l) =
        absurd (both_ways (is_broken outcomes)
        (accepted_batch m.signal outcomes frame l.batch l.tables (subst (OutcomeAfter m.signal outcomes frame) l.before after.gives)).0 broken)

pub zero_where_broken : (m : Meaning) (outcomes : List Outcome) (frame : Frame) (refusal : Refusal) → ReceivedAfter m outcomes frame (Refused refusal)
    → (refusal.stage ≡ 0) ↔ (is_broken outcomes ≡ true)
zero_where_broken m outcomes frame refusal after = (λ zero. only (cases_Bool (is_broken outcomes)) zero, when_broken m outcomes frame refusal after)
  where
    only : (is_broken outcomes ≡ true) ⊎ (is_broken outcomes ≡ false) → refusal.stage ≡ 0 → is_broken outcomes ≡ true
    only (inl broken) zero = broken
    only (inr whole) zero =
        let n : Named m (payloads_after outcomes) frame refusal = named m outcomes frame refusal after whole in
        let some = has_stage m (payloads_after outcomes) frame refusal.cause refusal.payload n.0 in
        absurd (omega (arith, some, n.1, zero))
