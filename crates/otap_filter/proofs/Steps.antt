-- What the next frame gives a filter, by what it gives the segment.
use Rattle.std.proofs.Common.{◌≡◌, ◌+◌, ℕ, ℤ, true, false, List, [], ◌∷◌, ◌++◌, length, Some, None, Result, Ok, Err, refl, ap, sym, ◌∙◌, subst, arith, length-append}
use Rattle.std.specs.Prelude.{IfOk}
use Rattle.std.specs.declared.alloc.AllocError.{AllocError}
use Rattle.std.proofs.lemmas.Bool.{both_ways}
use Rattle.otlp_model.specs.declared.request.Signal.{Signal}
use Rattle.otlp_model.specs.declared.value.Pair.{Pair}
use Rattle.otap_capture.specs.Batch.{BatchContent, payloads_in}
use Rattle.otap_capture.specs.Capture.{Frame}
use Rattle.otap_cells.specs.Tables.{Table}
use Rattle.otap_signals.specs.BySignal.{meaning_by}
use Rattle.otap_kept.specs.declared.whose.Whose.{Whose}
use Rattle.otap_kept.specs.Kept.{is_ordered, kept}
use Rattle.otap_consume.specs.declared.opened.Checked.{Checked}
use Rattle.otap_consume.specs.declared.refusal.Refusal.{Refusal}
use Rattle.otap_consume.specs.Opening.{IsChecked, NextOutcome, OpensFrame}
use Rattle.otap_consume.specs.Opening as opening
use Rattle.otap_consume.specs.Outcomes.{Outcome, Accepted}
use Rattle.otap_consume.specs.Outcomes as outcomes
use Rattle.otap_consume.specs.Segments.{SegmentIn}
use Rattle.otap_consume.specs.Segments as segments
use Rattle.otap_consume.proofs.SegmentSteps.{broken_refused}
use Rattle.otap_produce.specs.Policy.{IsMessageFor}
use Rattle.otap_produce.specs.Senders.{HaveSent, IsLaidFor, SendsMessage}
use Rattle.otap_produce.proofs.Deciding.{one_more}
use Rattle.otap_transit.specs.Arrivals.{SetIn, tables_in_all}
use Rattle.otap_transit.specs.Transits.{payloads_in_all}
use Rattle.otap_filter.specs.Filtering.{Answer, Answers, Batch, FrameResult, IsFiltered, Refused, Reset, Unordered, kept_set, messages_sent, outcomes_in, sets_before}
use Rattle.otap_filter.specs.declared.filtered.Filtered.{Filtered}
use Rattle.otap_filter.specs.Filters.{FilterIn, Filters, HasFiltered, StandsFor, answer_of}
use Rattle.otap_filter.specs.Inside.{FiltersOpened, IsKeptOfOpened, KeepsIf, SendsSet}
use Rattle.otap_filter.proofs.SentGrown.{gave, messages_batch, messages_refused, messages_reset, messages_unordered, outcomes_more, sets_ordered, sets_reset, sets_unordered}

-- what is true by one rule is true by the same one
by_rule : (P : Signal → Whose → Pair → Type 0) (s t : Signal) (w x : Whose) (p q : Pair) → s ≡ t → w ≡ x → p ≡ q → P s w p → P t x q
by_rule P s t w x p q signal whose pair is = subst (λ (u : Signal). P u x q) signal (subst (λ (v : Whose). P s v q) whose (subst (λ (r : Pair). P s w r) pair is))

-- what was sent, after frames that gave these
abbrev HasSentBefore : Signal → Whose → Pair → List FrameResult → FilterIn → Type 0
HasSentBefore of whose pair given f = HaveSent (tables_in_all (sets_before of whose pair given)) (payloads_in_all (messages_sent given)) f.sent

-- what is left to be said of a frame whose outcome is known
record GoesOn (of : Signal) (whose : Whose) (pair : Pair) (given : List FrameResult) (outcome : Outcome) (answer : Answer) (new : FilterIn) : Type 0 where
  answers : Answers of whose pair given outcome answer
  batches : new.batches ≡ length (messages_sent (given ++ gave outcome answer ∷ []))
  sent : new.segment.broken ≡ false → HasSentBefore of whose pair (given ++ gave outcome answer ∷ []) new

module _ (old new : FilterIn) (frame : Frame) (outcome : Outcome) (answer : Answer) where
  filters_by : NextOutcome (meaning_by old.segment.signal) old.segment frame outcome new.segment → new.whose ≡ old.whose → new.pair ≡ old.pair
      → ((of : Signal) (whose : Whose) (pair : Pair) (given : List FrameResult) → StandsFor of whose pair given old
      → segments.StandsFor of (outcomes_in given ++ outcome ∷ []) new.segment → GoesOn of whose pair given outcome answer new)
      → Filters old frame new answer
  filters_by next same_whose same_pair rest = record { at = at }
    where
      at : (of : Signal) (whose : Whose) (pair : Pair) (given : List FrameResult) → StandsFor of whose pair given old
          → HasFiltered of whose pair given frame new answer
      at of whose pair given stands =
          let here : NextOutcome (meaning_by of) old.segment frame outcome new.segment =
          subst (λ (s : Signal). NextOutcome (meaning_by s) old.segment frame outcome new.segment) stands.segment.same next in
          let leads : opening.LeadsTo (meaning_by of) (outcomes_in given) frame outcome new.segment = here.at (outcomes_in given) stands.segment in
          let on : GoesOn of whose pair given outcome answer new = rest of whose pair given stands leads.stands in
          let g : FrameResult = gave outcome answer in
          record {
            gives = g;
            leads = record {
              gives = record { received = leads.gives; answers = on.answers };
              stands = record {
                whose = same_whose ∙ stands.whose;
                pair = same_pair ∙ stands.pair;
                segment = subst (λ (os : List Outcome). segments.StandsFor of os new.segment) (sym (outcomes_more of whose pair given g)) leads.stands;
                batches = on.batches;
                sent = on.sent;
              };
            };
            answers = refl;
          }

-- ---- no batch

pub frame_refused : (old new : FilterIn) (frame : Frame) (refusal : Refusal) → NextOutcome (meaning_by old.segment.signal) old.segment frame (outcomes.Refused refusal) new.segment
    → new.whose ≡ old.whose → new.pair ≡ old.pair → new.batches ≡ old.batches → Filters old frame new (Refused refusal)
frame_refused old new frame refusal next same_whose same_pair batches =
    filters_by old new frame (outcomes.Refused refusal) (Refused refusal) next same_whose same_pair
    (λ of whose pair given stands after. record {
      answers = refl;
      batches = batches ∙ stands.batches ∙ ap length (sym (messages_refused given refusal refusal));
      sent = λ whole. absurd (both_ways new.segment.broken whole (after.broken ∙ broken_refused (outcomes_in given) refusal));
    })

pub frame_reset : (old new : FilterIn) (frame : Frame) → NextOutcome (meaning_by old.segment.signal) old.segment frame outcomes.Reset new.segment
    → new.whose ≡ old.whose → new.pair ≡ old.pair → new.batches ≡ 0 → HaveSent [] [] new.sent → Filters old frame new Reset
frame_reset old new frame next same_whose same_pair none sent =
    filters_by old new frame outcomes.Reset Reset next same_whose same_pair
    (λ of whose pair given stands after. record {
      answers = tt;
      batches = none ∙ ap length (sym (messages_reset given));
      sent = λ whole. rw (sets_reset of whose pair given Reset, messages_reset given) sent;
    })

-- ---- a batch that was opened and checked

module _ (mid : FilterIn) (before : SegmentIn) (frame : Frame) (batch : BatchContent) (made : Checked) (opened : OpensFrame before frame batch mid.segment)
    (checked : IsChecked mid.segment.signal mid.segment.streams batch.payloads made)
    (next : NextOutcome (meaning_by before.signal) before frame (Accepted batch made.tables) mid.segment) where
  abbrev old : FilterIn
  old = record mid { segment = before }

  -- what holds by the filter's rule holds by the one that it stands for
  here : (P : Signal → Whose → Pair → Type 0) (of : Signal) (whose : Whose) (pair : Pair) (given : List FrameResult) → StandsFor of whose pair given old
      → P mid.segment.signal mid.whose mid.pair → P of whose pair
  here P of whose pair given stands =
      by_rule P mid.segment.signal of mid.whose whose mid.pair pair (opened.opens.same ∙ stands.segment.same) stands.whose stands.pair

  pub batch_unordered : KeepsIf mid made.tables None → Filters old frame mid (Unordered batch.id)
  batch_unordered keeps =
      filters_by old mid frame (Accepted batch made.tables) (Unordered batch.id) next refl refl
      (λ of whose pair given stands after.
      let unordered : is_ordered of whose pair made.tables ≡ false = here (λ s w p. is_ordered s w p made.tables ≡ false) of whose pair given stands keeps.unordered in
      record {
        answers = (refl, unordered);
        batches = stands.batches ∙ ap length (sym (messages_unordered given batch made.tables batch.id));
        sent = λ whole. rw (sets_unordered of whose pair given batch made.tables (Unordered batch.id) unordered, messages_unordered given batch made.tables batch.id)
            (stands.sent opened.opens.was_whole);
      })

  module _ (set : List Table) (keeps : KeepsIf mid made.tables (Some set)) (new : FilterIn) (message : List ℕ) (sends : SendsMessage batch.id set mid.sent new.sent message)
      (same : new ≡ record mid { sent = new.sent; batches = mid.batches + 1 }) where
    segment_is : new.segment ≡ mid.segment
    segment_is = ap (λ (f : FilterIn). f.segment) same

    module _ (of : Signal) (whose : Whose) (pair : Pair) (given : List FrameResult) (stands : StandsFor of whose pair given old) where
      abbrev sets : List SetIn
      sets = sets_before of whose pair given

      abbrev messages : List (List ℕ)
      messages = messages_sent given

      now : set ≡ kept of whose pair made.tables
      now = here (λ s w p. set ≡ kept s w p made.tables) of whose pair given stands keeps.is_kept

      ordered : is_ordered of whose pair made.tables ≡ true
      ordered = here (λ s w p. is_ordered s w p made.tables ≡ true) of whose pair given stands keeps.ordered

      sent_before : HaveSent (tables_in_all sets) (payloads_in_all messages) mid.sent
      sent_before = stands.sent opened.opens.was_whole

      is_filtered : IsFiltered of whose pair given batch made.tables message
      is_filtered = record {
        sound = checked.limits.are;
        ordered = ordered;
        message_of =
            subst (λ (ts : List Table). IsMessageFor (tables_in_all sets) (payloads_in_all messages) batch.id ts message) now
            (sends.message (tables_in_all sets) (payloads_in_all messages) sent_before);
        laid =
            subst (λ (ts : List Table). IsLaidFor (tables_in_all sets) (payloads_in_all messages) ts message) now
            (sends.laid (tables_in_all sets) (payloads_in_all messages) sent_before);
      }

      abbrev g : FrameResult
      g = gave (Accepted batch made.tables) (Batch batch.id message)

      messages_are : messages_sent (given ++ g ∷ []) ≡ messages ++ message ∷ []
      messages_are = messages_batch given batch made.tables batch.id message

      tables_are : tables_in_all (sets_before of whose pair (given ++ g ∷ [])) ≡ tables_in_all sets ++ set
      tables_are =
          ap tables_in_all (sets_ordered of whose pair given batch made.tables (Batch batch.id message) ordered)
          ∙ one_more (λ (s : SetIn). s.tables) sets (kept_set of whose pair batch made.tables) ∙ ap (λ (ts : List Table). tables_in_all sets ++ ts) (sym now)

      payloads_are : payloads_in_all (messages_sent (given ++ g ∷ [])) ≡ payloads_in_all messages ++ payloads_in message
      payloads_are = ap payloads_in_all messages_are ∙ one_more payloads_in messages message

      goes_on : GoesOn of whose pair given (Accepted batch made.tables) (Batch batch.id message) new
      goes_on = record {
        answers = (refl, is_filtered);
        batches = omega (arith, ap (λ (f : FilterIn). f.batches) same, stands.batches, ap length messages_are, length-append messages (message ∷ []));
        sent = λ whole. rw (tables_are, payloads_are) (sends.sent (tables_in_all sets) (payloads_in_all messages) sent_before);
      }

    pub batch_filtered : Filters old frame new (Batch batch.id message)
    batch_filtered =
        filters_by old new frame (Accepted batch made.tables) (Batch batch.id message)
        (subst (λ (s : SegmentIn). NextOutcome (meaning_by before.signal) before frame (Accepted batch made.tables) s) (sym segment_is) next)
        (ap (λ (f : FilterIn). f.whose) same) (ap (λ (f : FilterIn). f.pair) same)
        (λ of whose pair given stands after. goes_on of whose pair given stands)

-- ---- what the frame of a batch gives that was opened

-- law: a frame that was opened and checked is accepted
abbrev pub FrameAccepted : Type 0
FrameAccepted = (old new : SegmentIn) (frame : Frame) (batch : BatchContent) (made : Checked) → OpensFrame old frame batch new
    → IsChecked new.signal new.streams batch.payloads made → NextOutcome (meaning_by old.signal) old frame (Accepted batch made.tables) new

module _ (law : FrameAccepted) (mid : FilterIn) (batch : BatchContent) where
  pub opened_unordered : IsKeptOfOpened mid batch.payloads None → FiltersOpened batch mid mid (Unordered batch.id)
  opened_unordered kept = λ before frame opened.
      batch_unordered mid before frame batch kept.made opened kept.checked (law before mid.segment frame batch kept.made opened kept.checked) kept.keeps

  pub opened_sent : (set : List Table) → IsKeptOfOpened mid batch.payloads (Some set) → (number : ℤ) → number ≡ batch.id → (new : FilterIn) (answer : Answer)
      → SendsSet number set mid new answer → FiltersOpened batch mid new answer
  opened_sent set kept number is new answer sends = λ before frame opened.
      subst (λ (a : Answer). Filters (record mid { segment = before }) frame new a)
      (sym (sends.answers ∙ ap (λ (n : ℤ). Batch n sends.message) is))
      (batch_filtered mid before frame batch kept.made opened kept.checked (law before mid.segment frame batch kept.made opened kept.checked) set kept.keeps new
      sends.message (subst (λ (n : ℤ). SendsMessage n set mid.sent new.sent sends.message) is sends.sends) sends.same)

  -- what was returned for it
  pub send_opened : (set : List Table) → IsKeptOfOpened mid batch.payloads (Some set) → (number : ℤ) → number ≡ batch.id
      → (new : FilterIn) (returned : Result Filtered AllocError)
      → IfOk returned (λ found. SendsSet number set mid new (answer_of found)) → IfOk returned (λ found. FiltersOpened batch mid new (answer_of found))
  send_opened set kept number is new (Ok found) sends = opened_sent set kept number is new (answer_of found) sends
  send_opened set kept number is new (Err error) sends = tt
