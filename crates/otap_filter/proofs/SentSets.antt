-- The sets that a filter sent since the latest reset: they are fit, and the messages are theirs.
use Rattle.std.proofs.Common.{◌≡◌, ◌≤◌, ◌<◌, ◌^◌, ◌+◌, ℕ, ℤ, List, [], ◌∷◌, ◌++◌, length, ap, sym, subst, arith, length-append}
use Rattle.std.specs.Prelude.{All}
use Rattle.std.proofs.lemmas.List.Elements.{All-nil, All-push, All-weaker}
use Rattle.lists.specs.EachAfter.{AllAfter, EachAfter}
use Rattle.lists.proofs.Growing.{each_after-keeps, each_after-last, each_after-push}
use Rattle.otlp_model.specs.Same.{SameTelemetry}
use Rattle.otlp_model.specs.Telemetry.{telemetry}
use Rattle.otlp_model.specs.declared.request.Request.{Request}
use Rattle.otlp_model.specs.declared.request.Signal.{Signal}
use Rattle.otlp_model.specs.declared.value.Pair.{Pair}
use Rattle.otap_capture.specs.Batch.{BatchContent}
use Rattle.otap_capture.specs.Capture.{Frame}
use Rattle.otap_cells.specs.GivenIds.{ReadAs}
use Rattle.otap_cells.specs.Tables.{Table}
use Rattle.otap_checks.specs.Reading.{HasAllIds}
use Rattle.otap_groups.specs.ProfileTables.{IsProfileTable}
use Rattle.otap_signals.specs.BySignal.{meaning_by, request_in}
use Rattle.otap_kept.specs.declared.whose.Whose.{Whose}
use Rattle.otap_kept.specs.Filtered.{filtered}
use Rattle.otap_kept.specs.Kept.{kept}
use Rattle.otap_consume.specs.Outcomes.{Outcome, Accepted}
use Rattle.otap_consume.specs.Outcomes as outcomes
use Rattle.otap_consume.specs.Receiving.{ReceivedAfter}
use Rattle.otap_transit.specs.Arrivals.{AreLaidSets, AreMessagesOfSets, Arrives, IsFitSet, IsLaidSet, IsMessageOfSet, SetArrives, SetIn}
use Rattle.otap_transit.specs.Transits.{payloads_in_all}
use Rattle.otap_transit.proofs.FitTables.{all_ids}
use Rattle.otap_filter.specs.Filtering.{Answer, Answers, AreFiltered, Batch, FiltersAfter, FrameResult, IsFiltered, Refused, Reset, Unordered, kept_set, messages_sent, outcomes_in, sets_before, sets_sent}
use Rattle.otap_filter.specs.Runs.{FilterArrives, HasArrived, tables_read}
use Rattle.otap_filter.proofs.FitSets.{HaveBeenAccepted, KeptLaws, ProfileTablesFit, fit_kept, have_been}
use Rattle.otap_filter.proofs.SentGrown.{gave, messages_batch, messages_refused, messages_reset, messages_unordered, sets_ordered, sets_refused, sets_reset, sets_unordered}

pub record AreSent (of : Signal) (whose : Whose) (pair : Pair) (given : List FrameResult) : Type 0 where
  pub fit : All (IsFitSet (meaning_by of)) (sets_before of whose pair given)
  pub messages : AreMessagesOfSets (sets_before of whose pair given) (messages_sent given)
  pub laid : AreLaidSets (sets_before of whose pair given) (messages_sent given)
  pub few : length (messages_sent given) ≤ length given

-- law: fit tables arrive
abbrev pub FitTablesArrive : Type 0
FitTablesArrive = (of : Signal) (sets : List SetIn) (messages : List (List ℕ)) → All (IsFitSet (meaning_by of)) sets → length messages < 2 ^ 64
    → AreMessagesOfSets sets messages → EachAfter (SetArrives (meaning_by of)) [] [] sets messages

-- law: tables that read alike make one request
abbrev pub RequestsReadAlike : Type 0
RequestsReadAlike = (of : Signal) (tables others : List Table) → ReadAs tables others → All HasAllIds others → request_in of tables ≡ request_in of others

module _ (laws : KeptLaws) (fits : ProfileTablesFit) (of : Signal) (whose : Whose) (pair : Pair) where
  pub none_sent : AreSent of whose pair []
  unfolding sets_sent messages_sent
  none_sent = record { fit = All-nil (IsFitSet (meaning_by of)); messages = tt; laid = tt; few = omega arith }

  abbrev sets_of : List FrameResult → List SetIn
  sets_of = sets_before of whose pair

  longer : (given : List FrameResult) (g : FrameResult) → length (given ++ g ∷ []) ≡ length given + 1
  longer given g = length-append given (g ∷ [])

  -- one more frame
  more_sent : (given : List FrameResult) (frame : Frame) (outcome : Outcome) (answer : Answer) → AreSent of whose pair given
      → ReceivedAfter (meaning_by of) (outcomes_in given) frame outcome → Answers of whose pair given outcome answer
      → AreSent of whose pair (given ++ gave outcome answer ∷ [])
  more_sent given frame (Accepted batch tables) (Batch id message) sent received is =
      let f : IsFiltered of whose pair given batch tables message = is.1 in
      let fit : IsFitSet (meaning_by of) (kept_set of whose pair batch tables)
      = fit_kept laws fits of whose pair tables (have_been of (outcomes_in given) frame batch tables received) f.sound f.ordered in
      let g : FrameResult = gave (Accepted batch tables) (Batch id message) in
      let sets = sets_ordered of whose pair given batch tables (Batch id message) f.ordered in
      let messages = messages_batch given batch tables id message in
      let set : SetIn = kept_set of whose pair batch tables in
      record {
        fit = rw sets (All-push (IsFitSet (meaning_by of)) (sets_of given) set sent.fit fit);
        messages = rw (sets, messages) (each_after-push IsMessageOfSet [] [] (sets_of given) (messages_sent given) set message sent.messages f.message_of);
        laid = rw (sets, messages) (each_after-push IsLaidSet [] [] (sets_of given) (messages_sent given) set message sent.laid f.laid);
        few = omega (arith, ap length messages, length-append (messages_sent given) (message ∷ []), longer given g, sent.few);
      }
  more_sent given frame (Accepted batch tables) (Unordered id) sent received is =
      let sets = sets_unordered of whose pair given batch tables (Unordered id) is.1 in
      let messages = messages_unordered given batch tables id in
      record {
        fit = rw sets sent.fit;
        messages = rw (sets, messages) sent.messages;
        laid = rw (sets, messages) sent.laid;
        few = omega (arith, ap length messages, longer given (gave (Accepted batch tables) (Unordered id)), sent.few);
      }
  more_sent given frame (Accepted batch tables) (Refused answered) sent received is = absurd is
  more_sent given frame (Accepted batch tables) Reset sent received is = absurd is
  more_sent given frame (outcomes.Refused refusal) (Batch id message) sent received is = absurd is
  more_sent given frame (outcomes.Refused refusal) (Unordered id) sent received is = absurd is
  more_sent given frame (outcomes.Refused refusal) (Refused answered) sent received is =
      let sets = sets_refused of whose pair given refusal (Refused answered) in
      let messages = messages_refused given refusal answered in
      record {
        fit = rw sets sent.fit;
        messages = rw (sets, messages) sent.messages;
        laid = rw (sets, messages) sent.laid;
        few = omega (arith, ap length messages, longer given (gave (outcomes.Refused refusal) (Refused answered)), sent.few);
      }
  more_sent given frame (outcomes.Refused refusal) Reset sent received is = absurd is
  more_sent given frame outcomes.Reset (Batch id message) sent received is = absurd is
  more_sent given frame outcomes.Reset (Unordered id) sent received is = absurd is
  more_sent given frame outcomes.Reset (Refused answered) sent received is = absurd is
  more_sent given frame outcomes.Reset Reset sent received is =
      let sets = sets_reset of whose pair given Reset in
      let messages = messages_reset given in
      record {
        fit = rw sets (All-nil (IsFitSet (meaning_by of)));
        messages = rw (sets, messages) tt;
        laid = rw (sets, messages) tt;
        few = omega (arith, ap length messages);
      }

  next_sent : (given : List FrameResult) (frame : Frame) (gives : FrameResult) → AreSent of whose pair given → FiltersAfter of whose pair given frame gives
      → AreSent of whose pair (given ++ gives ∷ [])
  next_sent given frame gives sent filters = more_sent given frame gives.outcome gives.answer sent filters.received filters.answers

  -- all frames
  pub all_sent : (frames : List Frame) (given : List FrameResult) → AreFiltered of whose pair frames given → AreSent of whose pair given
  all_sent frames given each =
      each_after-keeps (λ past before frame gives. FiltersAfter of whose pair before frame gives) (λ past before. AreSent of whose pair before)
      (λ past before frame gives sent filters. next_sent before frame gives sent filters) [] [] frames given none_sent each

  -- ---- what arrives

  module _ (arrive : FitTablesArrive) where
    pub sets_arrive : (given : List FrameResult) → AreSent of whose pair given → length given < 2 ^ 64
        → EachAfter (SetArrives (meaning_by of)) [] [] (sets_of given) (messages_sent given)
    sets_arrive given sent few = arrive of (sets_of given) (messages_sent given) sent.fit (omega (arith, sent.few, few)) sent.messages

    module _ (alike : RequestsReadAlike) where
      filter_arrives : (given : List FrameResult) (frame : Frame) (batch : BatchContent) (tables : List Table) (id : ℤ) (message : List ℕ)
          → AreSent of whose pair given
          → length given + 1 < 2 ^ 64 → ReceivedAfter (meaning_by of) (outcomes_in given) frame (Accepted batch tables) → IsFiltered of whose pair given batch tables message
          → AreSent of whose pair (given ++ gave (Accepted batch tables) (Batch id message) ∷ []) → FilterArrives of whose pair given batch tables message
      filter_arrives given frame batch tables id message sent few received f next =
          let g : FrameResult = gave (Accepted batch tables) (Batch id message) in
          let set : SetIn = kept_set of whose pair batch tables in
          let now : List Table = kept of whose pair tables in
          let was : HaveBeenAccepted of tables = have_been of (outcomes_in given) frame batch tables received in
          let all : EachAfter (SetArrives (meaning_by of)) [] [] (sets_of given ++ set ∷ []) (messages_sent given ++ message ∷ []) =
          subst (λ (sets : List SetIn). EachAfter (SetArrives (meaning_by of)) [] [] sets (messages_sent given ++ message ∷ []))
          (sets_ordered of whose pair given batch tables (Batch id message) f.ordered)
          (subst (λ (messages : List (List ℕ)). EachAfter (SetArrives (meaning_by of)) [] [] (sets_of (given ++ g ∷ [])) messages)
          (messages_batch given batch tables id message) (sets_arrive (given ++ g ∷ []) next (omega (arith, longer given g, few)))) in
          let last : Arrives (meaning_by of) (payloads_in_all (messages_sent given)) batch.id now message
          = each_after-last (SetArrives (meaning_by of)) [] [] (sets_of given) (messages_sent given) set message all in
          let ids : All HasAllIds now = All-weaker IsProfileTable HasAllIds all_ids now (laws.profile of whose pair tables was.accepted f.sound f.ordered) in
          let one : request_in of (tables_read of given message) ≡ request_in of now = alike of (tables_read of given message) now last.are ids in
          record {
            arrives = last;
            same =
                subst (λ (request : Request). SameTelemetry (filtered whose pair (telemetry (request_in of tables))) (telemetry request)) (sym one)
                (laws.tells of whose pair tables was.accepted f.ordered);
            rows = laws.rows of whose pair tables;
          }

      arrives_if : (given : List FrameResult) (frame : Frame) (outcome : Outcome) (answer : Answer) → AreSent of whose pair given → length given + 1 < 2 ^ 64
          → ReceivedAfter (meaning_by of) (outcomes_in given) frame outcome → Answers of whose pair given outcome answer
          → AreSent of whose pair (given ++ gave outcome answer ∷ []) → HasArrived of whose pair given (gave outcome answer)
      arrives_if given frame (Accepted batch tables) (Batch id message) sent few received is next = filter_arrives given frame batch tables id message sent few received is.1 next
      arrives_if given frame (Accepted batch tables) (Unordered id) sent few received is next = tt
      arrives_if given frame (Accepted batch tables) (Refused answered) sent few received is next = tt
      arrives_if given frame (Accepted batch tables) Reset sent few received is next = tt
      arrives_if given frame (outcomes.Refused refusal) answer sent few received is next = tt
      arrives_if given frame outcomes.Reset answer sent few received is next = tt

      pub all_arrive : (past : List Frame) (before : List FrameResult) (frames : List Frame) (given : List FrameResult) → AreSent of whose pair before
          → length before + length given < 2 ^ 64
          → EachAfter (λ past before frame gives. FiltersAfter of whose pair before frame gives) past before frames given → AllAfter (HasArrived of whose pair) before given
      all_arrive past before [] [] sent few each = tt
      all_arrive past before [] (gives ∷ given) sent few each = absurd each
      all_arrive past before (frame ∷ frames) [] sent few each = absurd each
      all_arrive past before (frame ∷ frames) (gives ∷ given) sent few each =
          let next : AreSent of whose pair (before ++ gives ∷ []) = next_sent before frame gives sent each.0 in (
            arrives_if before frame gives.outcome gives.answer sent (omega (arith, few)) each.0.received each.0.answers next,
            all_arrive (past ++ frame ∷ []) (before ++ gives ∷ []) frames given next (omega (arith, few, longer before gives)) each.1,
          )
