-- What a filter puts on out arrives, segment after segment.
use Rattle.std.proofs.Common.{◌≡◌, ◌≤◌, ℕ, ℤ, false, List, [], ◌∷◌, ◌++◌, map, refl, sym, ap, ◌∙◌, subst, append-nil}
use Rattle.std.specs.Prelude.{All}
use Rattle.std.specs.List.{AllZip}
use Rattle.std.proofs.lemmas.Grind.{flat_map-append}
use Rattle.std.proofs.lemmas.List.Elements.{All-weaker}
use Rattle.lists.specs.EachAfter.{AllAfter, EachAfter}
use Rattle.lists.specs.Payloads.{PayloadIn}
use Rattle.otlp_model.specs.Weight.{weight_of}
use Rattle.otlp_model.specs.declared.request.Request.{Request}
use Rattle.otlp_model.specs.declared.request.Signal.{Signal}
use Rattle.otlp_model.specs.declared.value.Pair.{Pair}
use Rattle.otap_capture.specs.Batch.{BatchContent, batch_content, payloads_in}
use Rattle.otap_capture.specs.Capture.{Frame, Message}
use Rattle.otap_capture.specs.Capture as capture
use Rattle.otap_cells.specs.Tables.{Table}
use Rattle.otap_cells.specs.Weights.{weight_of_tables}
use Rattle.otap_checks.specs.Reading.{HasAllIds}
use Rattle.otap_groups.specs.ProfileTables.{IsProfileTable}
use Rattle.otap_signals.specs.BySignal.{meaning_by, request_in}
use Rattle.otap_signals.specs.Meanings.{Meaning}
use Rattle.otap_kept.specs.declared.whose.Whose.{Whose}
use Rattle.otap_kept.specs.Kept.{kept}
use Rattle.otap_consume.specs.Outcomes.{Outcome, Accepted, is_broken, payloads_after}
use Rattle.otap_consume.specs.Outcomes as outcomes
use Rattle.otap_consume.specs.Receiving.{ReceivedAfter}
use Rattle.otap_consume.proofs.SegmentSteps.{broken_accepted, broken_reset, payloads_accepted, payloads_reset}
use Rattle.otap_transit.specs.Transits.{payloads_in_all}
use Rattle.otap_transit.proofs.Accepting.{same_weight}
use Rattle.otap_transit.proofs.FitTables.{all_ids}
use Rattle.otap_transit.proofs.Settled.{gives_accepted, gives_reset, only_accepted, only_reset}
use Rattle.otap_filter.specs.Filtering.{Answer, AreFiltered, Batch, FiltersAfter, FrameResult, Refused, Reset, Unordered, messages_sent, outcomes_in}
use Rattle.otap_filter.specs.Runs.{FilterArrives, HasArrived, tables_read}
use Rattle.otap_filter.proofs.FitSets.{HaveBeenAccepted, KeptLaws, have_been}
use Rattle.otap_filter.proofs.SentGrown.{gave, messages_batch, messages_refused, messages_reset, messages_unordered}
use Rattle.otap_filter.proofs.SentSets.{RequestsReadAlike}
use Rattle.otap_gateway.specs.FilteredBack.{AllArrive, ArrivesAs, ArrivesFiltered, frame_passed, frames_passed, passed, passed_by}

-- ---- what the far end has so far

-- no frame of its segment was refused, and the payloads are those that were sent
pub record AreReturned (given : List FrameResult) (returned : List Outcome) : Type 0 where
  pub whole : is_broken returned ≡ false
  pub payloads : payloads_after returned ≡ payloads_in_all (messages_sent given)

none_returned : AreReturned [] []
unfolding is_broken payloads_after messages_sent
none_returned = record { whole = refl; payloads = refl }

after_none : (given : List FrameResult) (returned : List Outcome) (g : FrameResult) → messages_sent (given ++ g ∷ []) ≡ messages_sent given
    → AreReturned given returned
    → AreReturned (given ++ g ∷ []) returned
after_none given returned g same so_far = record { whole = so_far.whole; payloads = so_far.payloads ∙ ap payloads_in_all (sym same) }

after_reset : (given : List FrameResult) (returned : List Outcome) → AreReturned (given ++ gave outcomes.Reset Reset ∷ []) (returned ++ outcomes.Reset ∷ [])
after_reset given returned = record { whole = broken_reset returned; payloads = payloads_reset returned ∙ ap payloads_in_all (sym (messages_reset given)) }

after_batch : (given : List FrameResult) (returned : List Outcome) (batch : BatchContent) (tables read : List Table) (id : ℤ) (message : List ℕ)
    → AreReturned given returned
    → AreReturned (given ++ gave (Accepted batch tables) (Batch id message) ∷ []) (returned ++ Accepted (batch_content message) read ∷ [])
after_batch given returned batch tables read id message so_far =
    let sent : payloads_in_all (messages_sent given ++ message ∷ []) ≡ payloads_in_all (messages_sent given) ++ payloads_in message
    = flat_map-append payloads_in (messages_sent given) (message ∷ [])
    ∙ ap (λ (ps : List PayloadIn). payloads_in_all (messages_sent given) ++ ps) (append-nil (payloads_in message)) in
    record {
      whole = broken_accepted returned (batch_content message) read ∙ so_far.whole;
      payloads = payloads_accepted returned (batch_content message) read ∙ ap (λ (ps : List PayloadIn). ps ++ payloads_in message) so_far.payloads
          ∙ sym (ap payloads_in_all (messages_batch given batch tables id message) ∙ sent);
    }

module _ (laws : KeptLaws) (alike : RequestsReadAlike) (of : Signal) (whose : Whose) (pair : Pair) where
  abbrev m : Meaning
  m = meaning_by of

  -- what frames give, and what the far end gives of frames that it reads
  abbrev Filter : List Frame → List FrameResult → List Frame → List FrameResult → Type 0
  Filter past before frames given = EachAfter (λ past before frame gives. FiltersAfter of whose pair before frame gives) past before frames given

  abbrev Receive : List Frame → List Outcome → List Frame → List Outcome → Type 0
  Receive past before frames received = EachAfter (λ past before frame outcome. ReceivedAfter m before frame outcome) past before frames received

  -- ---- one batch

  module _ (given : List FrameResult) (frame : Frame) (batch : BatchContent) (tables : List Table) (id : ℤ) (message : List ℕ)
      (filters : FiltersAfter of whose pair given frame (gave (Accepted batch tables) (Batch id message))) (f : FilterArrives of whose pair given batch tables message) where
    abbrev read : List Table
    read = tables_read of given message

    abbrev now : List Table
    now = kept of whose pair tables

    arrives_filtered : (outcome : Outcome) → outcome ≡ Accepted (batch_content message) read → ArrivesFiltered of whose pair batch tables message outcome
    arrives_filtered outcome is =
        let was : HaveBeenAccepted of tables = have_been of (outcomes_in given) frame batch tables filters.received in
        let how = filters.answers.1 in
        let ids : All HasAllIds now = All-weaker IsProfileTable HasAllIds all_ids now (laws.profile of whose pair tables was.accepted how.sound how.ordered) in
        let one : request_in of read ≡ request_in of now = alike of read now f.arrives.are ids in
        record {
          read = read;
          accepted = is;
          id = f.arrives.id;
          tells = f.same;
          light = subst (λ (q : Request). weight_of q ≤ weight_of (request_in of tables)) (sym one) (laws.light of whose pair tables was.accepted how.ordered);
          rows = subst (λ (n : ℕ). n ≤ weight_of_tables tables) (sym (same_weight read now f.arrives.are)) f.rows;
        }

    module _ (returned : List Outcome) (so_far : AreReturned given returned) where
      is_accepted : (outcome : Outcome) → ReceivedAfter m returned (Message message) outcome → outcome ≡ Accepted (batch_content message) read
      is_accepted outcome after =
          only_accepted m returned (payloads_in_all (messages_sent given)) message outcome so_far.whole so_far.payloads f.arrives.reads f.arrives.accepts f.arrives.fine after

      accepted : ReceivedAfter m returned (Message message) (Accepted (batch_content message) read)
      accepted = gives_accepted m returned (payloads_in_all (messages_sent given)) message so_far.whole so_far.payloads f.arrives.reads f.arrives.accepts f.arrives.fine

      after : (outcome : Outcome) → outcome ≡ Accepted (batch_content message) read
          → AreReturned (given ++ gave (Accepted batch tables) (Batch id message) ∷ []) (returned ++ outcome ∷ [])
      after outcome is =
          subst (λ (o : Outcome). AreReturned (given ++ gave (Accepted batch tables) (Batch id message) ∷ []) (returned ++ o ∷ [])) (sym is)
          (after_batch given returned batch tables read id message so_far)

  -- ---- in all outcomes

  module _ (given rest : List FrameResult) (frame : Frame) where
    -- all that comes later arrives, after what was given and returned
    abbrev ArriveLater : FrameResult → Type 0
    ArriveLater g =
        (far : List Frame) (returned next : List Outcome) → AreReturned (given ++ g ∷ []) returned → Receive far returned (frames_passed rest) next
        → AllZip (ArrivesAs of whose pair) (passed rest) next

    one_arrives : (outcome : Outcome) (answer : Answer) → FiltersAfter of whose pair given frame (gave outcome answer) → HasArrived of whose pair given (gave outcome answer)
        → ArriveLater (gave outcome answer) → (far : List Frame) (returned next : List Outcome) → AreReturned given returned
        → Receive far returned (map frame_passed (passed_by outcome answer ++ passed rest)) next → AllZip (ArrivesAs of whose pair) (passed_by outcome answer ++ passed rest) next
    one_arrives (Accepted batch tables) (Batch id message) filters f later far returned [] so_far received = absurd received
    one_arrives (Accepted batch tables) (Batch id message) filters f later far returned (o ∷ next) so_far received =
        let is : o ≡ Accepted (batch_content message) (tables_read of given message) = is_accepted given frame batch tables id message filters f returned so_far o received.0 in (
          arrives_filtered given frame batch tables id message filters f o is,
          later (far ++ Message message ∷ []) (returned ++ o ∷ []) next (after given frame batch tables id message filters f returned so_far o is) received.1,
        )
    one_arrives (Accepted batch tables) (Unordered id) filters f later far returned next so_far received =
        later far returned next (after_none given returned (gave (Accepted batch tables) (Unordered id)) (messages_unordered given batch tables id) so_far) received
    one_arrives (Accepted batch tables) (Refused answered) filters f later far returned next so_far received = absurd filters.answers
    one_arrives (Accepted batch tables) Reset filters f later far returned next so_far received = absurd filters.answers
    one_arrives (outcomes.Refused refusal) (Batch id message) filters f later far returned next so_far received = absurd filters.answers
    one_arrives (outcomes.Refused refusal) (Unordered id) filters f later far returned next so_far received = absurd filters.answers
    one_arrives (outcomes.Refused refusal) (Refused answered) filters f later far returned next so_far received =
        later far returned next (after_none given returned (gave (outcomes.Refused refusal) (Refused answered)) (messages_refused given refusal answered) so_far) received
    one_arrives (outcomes.Refused refusal) Reset filters f later far returned next so_far received = absurd filters.answers
    one_arrives outcomes.Reset (Batch id message) filters f later far returned next so_far received = absurd filters.answers
    one_arrives outcomes.Reset (Unordered id) filters f later far returned next so_far received = absurd filters.answers
    one_arrives outcomes.Reset (Refused answered) filters f later far returned next so_far received = absurd filters.answers
    one_arrives outcomes.Reset Reset filters f later far returned [] so_far received = absurd received
    one_arrives outcomes.Reset Reset filters f later far returned (o ∷ next) so_far received =
        let is : o ≡ outcomes.Reset = only_reset m returned o so_far.whole received.0 in (
          is,
          later (far ++ capture.Reset ∷ []) (returned ++ o ∷ []) next
              (subst (λ (o : Outcome). AreReturned (given ++ gave outcomes.Reset Reset ∷ []) (returned ++ o ∷ [])) (sym is) (after_reset given returned)) received.1,
        )

  arrive_from : (past : List Frame) (before : List FrameResult) (frames : List Frame) (given : List FrameResult) → Filter past before frames given
      → AllAfter (HasArrived of whose pair) before given
      → (far : List Frame) (returned next : List Outcome) → AreReturned before returned → Receive far returned (frames_passed given) next → AllZip (ArrivesAs of whose pair) (passed given) next
  arrive_from past before [] [] each arrived far returned [] so_far received = tt
  arrive_from past before [] [] each arrived far returned (o ∷ next) so_far received = absurd received
  arrive_from past before [] (g ∷ given) each arrived far returned next so_far received = absurd each
  arrive_from past before (frame ∷ frames) [] each arrived far returned next so_far received = absurd each
  arrive_from past before (frame ∷ frames) (g ∷ given) each arrived far returned next so_far received =
      one_arrives before given frame g.outcome g.answer each.0 arrived.0
      (λ far returned next so_far received. arrive_from (past ++ frame ∷ []) (before ++ g ∷ []) frames given each.1 arrived.1 far returned next so_far received) far returned next so_far received

  -- ---- there are some

  abbrev Some : List Frame → List Outcome → List Frame → Type 0
  Some far returned frames = (next : List Outcome) × Receive far returned frames next

  module _ (given rest : List FrameResult) (frame : Frame) where
    abbrev SomeLater : FrameResult → Type 0
    SomeLater g = (far : List Frame) (returned : List Outcome) → AreReturned (given ++ g ∷ []) returned → Some far returned (frames_passed rest)

    one_more : (outcome : Outcome) (answer : Answer) → FiltersAfter of whose pair given frame (gave outcome answer) → HasArrived of whose pair given (gave outcome answer)
        → SomeLater (gave outcome answer) → (far : List Frame) (returned : List Outcome) → AreReturned given returned
        → Some far returned (map frame_passed (passed_by outcome answer ++ passed rest))
    one_more (Accepted batch tables) (Batch id message) filters f later far returned so_far =
        let o : Outcome = Accepted (batch_content message) (tables_read of given message) in
        let next = later (far ++ Message message ∷ []) (returned ++ o ∷ []) (after given frame batch tables id message filters f returned so_far o refl) in
        (o ∷ next.0, (accepted given frame batch tables id message filters f returned so_far, next.1))
    one_more (Accepted batch tables) (Unordered id) filters f later far returned so_far =
        later far returned (after_none given returned (gave (Accepted batch tables) (Unordered id)) (messages_unordered given batch tables id) so_far)
    one_more (Accepted batch tables) (Refused answered) filters f later far returned so_far = absurd filters.answers
    one_more (Accepted batch tables) Reset filters f later far returned so_far = absurd filters.answers
    one_more (outcomes.Refused refusal) (Batch id message) filters f later far returned so_far = absurd filters.answers
    one_more (outcomes.Refused refusal) (Unordered id) filters f later far returned so_far = absurd filters.answers
    one_more (outcomes.Refused refusal) (Refused answered) filters f later far returned so_far =
        later far returned (after_none given returned (gave (outcomes.Refused refusal) (Refused answered)) (messages_refused given refusal answered) so_far)
    one_more (outcomes.Refused refusal) Reset filters f later far returned so_far = absurd filters.answers
    one_more outcomes.Reset (Batch id message) filters f later far returned so_far = absurd filters.answers
    one_more outcomes.Reset (Unordered id) filters f later far returned so_far = absurd filters.answers
    one_more outcomes.Reset (Refused answered) filters f later far returned so_far = absurd filters.answers
    one_more outcomes.Reset Reset filters f later far returned so_far =
        let next = later (far ++ capture.Reset ∷ []) (returned ++ outcomes.Reset ∷ []) (after_reset given returned) in
        (outcomes.Reset ∷ next.0, (gives_reset m returned so_far.whole, next.1))

  some_from : (past : List Frame) (before : List FrameResult) (frames : List Frame) (given : List FrameResult) → Filter past before frames given
      → AllAfter (HasArrived of whose pair) before given
      → (far : List Frame) (returned : List Outcome) → AreReturned before returned → Some far returned (frames_passed given)
  some_from past before [] [] each arrived far returned so_far = ([], tt)
  some_from past before [] (g ∷ given) each arrived far returned so_far = absurd each
  some_from past before (frame ∷ frames) [] each arrived far returned so_far = absurd each
  some_from past before (frame ∷ frames) (g ∷ given) each arrived far returned so_far =
      one_more before given frame g.outcome g.answer each.0 arrived.0
      (λ far returned so_far. some_from (past ++ frame ∷ []) (before ++ g ∷ []) frames given each.1 arrived.1 far returned so_far) far returned so_far

  pub all_arrive : (frames : List Frame) (given : List FrameResult) → AreFiltered of whose pair frames given → AllAfter (HasArrived of whose pair) [] given
      → AllArrive of whose pair given
  all_arrive frames given each arrived =
      let some = some_from [] [] frames given each arrived [] [] none_returned in
      record { received = some.0; some = some.1; all = λ received are. arrive_from [] [] frames given each arrived [] [] received none_returned are }
