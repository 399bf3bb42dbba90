-- The bytes that `filter` writes are the frames of what it puts on out.
use Rattle.std.proofs.Common.{◌≡◌, ◌+◌, ◌<◌, ◌≤◌, ◌^◌, ℕ, suc, List, [], ◌∷◌, ◌++◌, length, refl, sym, ap, ◌∙◌, subst, append-nil, arith}
use Rattle.std.specs.Prelude.{None, Option}
use Rattle.std.specs.List.{flat_map}
use Rattle.std.proofs.lemmas.Grind.{flat_map-append}
use Rattle.lists.specs.EachAfter.{EachAfter}
use Rattle.lists.proofs.Every.{every_append}
use Rattle.lists.proofs.Growing.{each_after-length}
use Rattle.std.proofs.lemmas.List.{map-append}
use Rattle.otlp_model.specs.declared.request.Signal.{Signal}
use Rattle.otlp_model.specs.declared.value.Pair.{Pair}
use Rattle.otap_capture.specs.declared.frame.Damage.{Damage}
use Rattle.otap_capture.specs.Capture.{Frame, IsCapture, IsFrame, capture_limit, message_frame, reset_frame}
use Rattle.otap_capture.specs.Capture as capture
use Rattle.otap_signals.specs.BySignal.{meaning_by}
use Rattle.otap_kept.specs.declared.whose.Whose.{Whose}
use Rattle.otap_consume.specs.Outcomes.{Outcome, Accepted}
use Rattle.otap_consume.specs.Outcomes as outcomes
use Rattle.otap_consume.specs.Receiving.{Received, ReceivedAfter}
use Rattle.otap_filter.specs.Filtering.{Answer, Answers, AreFiltered, Batch, FiltersAfter, FrameResult, Refused, Reset, Unordered, outcomes_in}
use Rattle.otap_gateway.specs.Filtering.{answer_text, filtered_text}
use Rattle.otap_gateway.specs.FilteredBack.{AllArrive, IsReadFiltered, Kept, Passed, frame_passed, frames_passed, passed, passed_by}
use Rattle.otap_gateway.specs.FilteredBack as back
use Rattle.otap_gateway.specs.Reply.{ReplyText, out_text}
use Rattle.otap_gateway.specs.Replies.{replies_from}
use Rattle.otap_gateway.proofs.WrittenCaptures.{AreSpelled, MessagesAreRead, capture_of, few_frames}

-- the bytes of what is put on out
abbrev pub spelled : Passed → List ℕ
spelled (Kept batch tables message) = message_frame message
spelled back.Reset = reset_frame

module _ (of : Signal) (whose : Whose) (pair : Pair) where
  abbrev Filter : List Frame → List FrameResult → List Frame → List FrameResult → Type 0
  Filter past before frames given = EachAfter (λ past before frame gives. FiltersAfter of whose pair before frame gives) past before frames given

  -- ---- on out there is nothing else

  out_one : (given : List FrameResult) (outcome : Outcome) (answer : Answer) (number : ℕ) → Answers of whose pair given outcome answer
      → (answer_text number answer).out ≡ flat_map spelled (passed_by outcome answer)
  out_one given (Accepted batch tables) (Batch id message) number is = sym (append-nil (message_frame message))
  out_one given (Accepted batch tables) (Unordered id) number is = refl
  out_one given (Accepted batch tables) (Refused answered) number is = absurd is
  out_one given (Accepted batch tables) Reset number is = absurd is
  out_one given (outcomes.Refused refusal) (Batch id message) number is = absurd is
  out_one given (outcomes.Refused refusal) (Unordered id) number is = absurd is
  out_one given (outcomes.Refused refusal) (Refused answered) number is = refl
  out_one given (outcomes.Refused refusal) Reset number is = absurd is
  out_one given outcomes.Reset (Batch id message) number is = absurd is
  out_one given outcomes.Reset (Unordered id) number is = absurd is
  out_one given outcomes.Reset (Refused answered) number is = absurd is
  out_one given outcomes.Reset Reset number is = refl

  out_replies : (number : ℕ) (past : List Frame) (before : List FrameResult) (frames : List Frame) (given : List FrameResult) → Filter past before frames given
      → out_text (replies_from filtered_text number given) ≡ flat_map spelled (passed given)
  out_replies number past before [] [] each = refl
  out_replies number past before [] (g ∷ given) each = absurd each
  out_replies number past before (frame ∷ frames) [] each = absurd each
  out_replies number past before (frame ∷ frames) (g ∷ given) each =
      (λ i. out_one before g.outcome g.answer number each.0.answers i ++ out_replies (suc number) (past ++ frame ∷ []) (before ++ g ∷ []) frames given each.1 i)
      ∙ sym (flat_map-append spelled (passed_by g.outcome g.answer) (passed given))

  -- ---- and it is frames

  module _ (messages : MessagesAreRead) (resets : IsFrame reset_frame capture.Reset) where
    one_frame : (given : List FrameResult) (outcome : Outcome) (answer : Answer) → Answers of whose pair given outcome answer
        → AreSpelled spelled frame_passed (passed_by outcome answer)
    one_frame given (Accepted batch tables) (Batch id message) is = (messages message is.1.message_of.short, tt)
    one_frame given (Accepted batch tables) (Unordered id) is = tt
    one_frame given (Accepted batch tables) (Refused answered) is = tt
    one_frame given (Accepted batch tables) Reset is = tt
    one_frame given (outcomes.Refused refusal) answer is = tt
    one_frame given outcomes.Reset (Batch id message) is = tt
    one_frame given outcomes.Reset (Unordered id) is = tt
    one_frame given outcomes.Reset (Refused answered) is = tt
    one_frame given outcomes.Reset Reset is = (resets, tt)

    all_frames : (past : List Frame) (before : List FrameResult) (frames : List Frame) (given : List FrameResult) → Filter past before frames given
        → AreSpelled spelled frame_passed (passed given)
    all_frames past before [] [] each = tt
    all_frames past before [] (g ∷ given) each = absurd each
    all_frames past before (frame ∷ frames) [] each = absurd each
    all_frames past before (frame ∷ frames) (g ∷ given) each =
        every_append (λ x. IsFrame (spelled x) (frame_passed x)) (passed_by g.outcome g.answer) (passed given) (one_frame before g.outcome g.answer each.0.answers)
        (all_frames (past ++ frame ∷ []) (before ++ g ∷ []) frames given each.1)

    -- ---- what is read

    pub read_filtered : (frames : List Frame) (replies : List ReplyText) (given : List FrameResult) → AreFiltered of whose pair frames given
        → replies ≡ replies_from filtered_text 0 given
        → AllArrive of whose pair given → IsReadFiltered of whose pair frames replies
    read_filtered frames replies given each texts arrive =
        let out : flat_map spelled (passed given) ≡ out_text replies = sym (ap out_text texts ∙ out_replies 0 [] [] frames given each) in
        record {
          given = given;
          gave = each;
          texts = texts;
          arrive = arrive;
          capture = subst (λ (l : List ℕ). length l < capture_limit → IsCapture l (frames_passed given) None) out
              (capture_of spelled frame_passed (passed given) (all_frames [] [] frames given each));
        }

  -- what frames give has the outcomes that they have for a receiver
  received_from : (past : List Frame) (before : List FrameResult) (frames : List Frame) (given : List FrameResult) → Filter past before frames given
      → EachAfter (λ past before frame outcome. ReceivedAfter (meaning_by of) before frame outcome) past (outcomes_in before) frames (outcomes_in given)
  received_from past before [] [] each = tt
  received_from past before [] (g ∷ given) each = absurd each
  received_from past before (frame ∷ frames) [] each = absurd each
  received_from past before (frame ∷ frames) (g ∷ given) each = (
    each.0.received,
    subst (λ (os : List Outcome). EachAfter (λ past before frame outcome. ReceivedAfter (meaning_by of) before frame outcome) (past ++ frame ∷ []) os frames (outcomes_in given))
        (map-append (λ (g : FrameResult). g.outcome) before (g ∷ [])) (received_from (past ++ frame ∷ []) (before ++ g ∷ []) frames given each.1),
  )

  pub received : (frames : List Frame) (given : List FrameResult) → AreFiltered of whose pair frames given → Received (meaning_by of) frames (outcomes_in given)
  received frames given each = received_from [] [] frames given each

  -- a capture has few enough frames
  pub few_given : (bytes : List ℕ) (frames : List Frame) (end : Option Damage) (given : List FrameResult) → IsCapture bytes frames end
      → AreFiltered of whose pair frames given → length given < 2 ^ 64
  few_given bytes frames end given is each =
      let few : 0 + length frames ≤ capture_limit = few_frames 0 is.front frames (omega arith) is.each in
      let long : length frames ≡ length given = each_after-length (λ past before frame gives. FiltersAfter of whose pair before frame gives) [] [] frames given each in
      omega (arith, few, long)
