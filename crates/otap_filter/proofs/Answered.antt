-- Each frame has an outcome after frames that gave something, and each outcome has an answer, where no message is the answer.
use Rattle.std.proofs.Common.{◌⊎◌, inl, inr, List, [], ◌∷◌, ◌++◌, refl, subst}
use Rattle.std.proofs.lemmas.List.{map-append}
use Rattle.std.proofs.lemmas.Bool.{cases_Bool}
use Rattle.lists.specs.EachAfter.{EachAfter}
use Rattle.otlp_model.specs.declared.request.Signal.{Signal}
use Rattle.otlp_model.specs.declared.value.Pair.{Pair}
use Rattle.otap_capture.specs.Capture.{Frame}
use Rattle.otap_signals.specs.BySignal.{meaning_by}
use Rattle.otap_kept.specs.declared.whose.Whose.{Whose}
use Rattle.otap_kept.specs.Kept.{is_ordered}
use Rattle.otap_consume.specs.Outcomes.{Outcome, Accepted}
use Rattle.otap_consume.specs.Outcomes as outcomes
use Rattle.otap_consume.specs.Receiving.{ReceivedAfter}
use Rattle.otap_filter.specs.Filtering.{FiltersAfter, FrameResult, Refused, Reset, Unordered, outcomes_in}
use Rattle.otap_filter.specs.Runs.{HasAnswer, NeedsMessage}

module _ (of : Signal) (whose : Whose) (pair : Pair) where
  -- the outcomes of frames that were filtered are those of a receiver
  pub are_received : (past : List Frame) (before : List FrameResult) (frames : List Frame) (given : List FrameResult)
      → EachAfter (λ past before frame gives. FiltersAfter of whose pair before frame gives) past before frames given
      → EachAfter (λ past before frame outcome. ReceivedAfter (meaning_by of) before frame outcome) past (outcomes_in before) frames (outcomes_in given)
  are_received past before [] [] each = tt
  are_received past before [] (g ∷ given) each = absurd each
  are_received past before (frame ∷ frames) [] each = absurd each
  are_received past before (frame ∷ frames) (g ∷ given) each = (
    each.0.received,
    subst (λ (os : List Outcome). EachAfter (λ past before frame outcome. ReceivedAfter (meaning_by of) before frame outcome) (past ++ frame ∷ []) os frames (outcomes_in given))
        (map-append (λ (g : FrameResult). g.outcome) before (g ∷ [])) (are_received (past ++ frame ∷ []) (before ++ g ∷ []) frames given each.1),
  )

  pub answered : (given : List FrameResult) (outcome : Outcome) → NeedsMessage of whose pair outcome ⊎ HasAnswer of whose pair given outcome
  answered given (Accepted batch tables) =
      elim (cases_Bool (is_ordered of whose pair tables)) [
        | inl ordered ↦ inl ordered
        | inr unordered ↦ inr (Unordered batch.id, (refl, unordered))
      ]
  answered given (outcomes.Refused refusal) = inr (Refused refusal, refl)
  answered given outcomes.Reset = inr (Reset, tt)
