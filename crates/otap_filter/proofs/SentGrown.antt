-- What was sent since the latest reset, with one more frame.
use Rattle.std.proofs.Common.{◌≡◌, ℕ, ℤ, true, false, List, [], ◌∷◌, ◌++◌, refl, ap, ◌∙◌, append-nil, if◌then◌else◌}
use Rattle.std.specs.List.{flat_map, list_any}
use Rattle.std.proofs.lemmas.List.{map-append}
use Rattle.std.proofs.lemmas.Grind.{flat_map-append}
use Rattle.lists.specs.Since.{since}
use Rattle.lists.proofs.Latest.{since-append}
use Rattle.otlp_model.specs.declared.request.Signal.{Signal}
use Rattle.otlp_model.specs.declared.value.Pair.{Pair}
use Rattle.otap_capture.specs.Batch.{BatchContent}
use Rattle.otap_cells.specs.Tables.{Table}
use Rattle.otap_kept.specs.declared.whose.Whose.{Whose}
use Rattle.otap_kept.specs.Kept.{is_ordered}
use Rattle.otap_consume.specs.declared.refusal.Refusal.{Refusal}
use Rattle.otap_consume.specs.Outcomes.{Outcome, Accepted, segment}
use Rattle.otap_consume.specs.Outcomes as outcomes
use Rattle.otap_transit.specs.Arrivals.{SetIn}
use Rattle.otap_filter.specs.Filtering.{Answer, Batch, FrameResult, Refused, Reset, Unordered, is_reset, kept_set, message_if, messages_sent, outcomes_in, set_if, sets_before, sets_sent}

-- what a frame gives, by its parts
abbrev pub gave : Outcome → Answer → FrameResult
gave outcome answer = record { outcome = outcome; answer = answer }

-- ---- messages

abbrev messages_in : List FrameResult → List (List ℕ)
messages_in given = flat_map (λ g. message_if g.answer) given

-- where no reset comes
module _ (given : List FrameResult) (g : FrameResult) (stays : is_reset g ≡ false) where
  since_stays : since is_reset (given ++ g ∷ []) ≡ since is_reset given ++ g ∷ []
  since_stays = since-append is_reset given (g ∷ []) ∙ rest
    where
      rest : (if list_any is_reset (g ∷ []) then since is_reset (g ∷ []) else since is_reset given ++ g ∷ []) ≡ since is_reset given ++ g ∷ []
      rest = rw stays refl

  messages_more : messages_sent (given ++ g ∷ []) ≡ messages_sent given ++ (message_if g.answer ++ [])
  unfolding messages_sent
  messages_more = ap messages_in since_stays ∙ flat_map-append (λ g. message_if g.answer) (since is_reset given) (g ∷ [])

module _ (given : List FrameResult) (batch : BatchContent) (tables : List Table) where
  pub messages_batch : (id : ℤ) (message : List ℕ) → messages_sent (given ++ gave (Accepted batch tables) (Batch id message) ∷ []) ≡ messages_sent given ++ message ∷ []
  messages_batch id message = messages_more given (gave (Accepted batch tables) (Batch id message)) refl

  pub messages_unordered : (id : ℤ) → messages_sent (given ++ gave (Accepted batch tables) (Unordered id) ∷ []) ≡ messages_sent given
  messages_unordered id = messages_more given (gave (Accepted batch tables) (Unordered id)) refl ∙ append-nil (messages_sent given)

pub messages_refused : (given : List FrameResult) (refusal answered : Refusal)
    → messages_sent (given ++ gave (outcomes.Refused refusal) (Refused answered) ∷ []) ≡ messages_sent given
messages_refused given refusal answered =
    messages_more given (gave (outcomes.Refused refusal) (Refused answered)) refl ∙ append-nil (messages_sent given)

pub messages_reset : (given : List FrameResult) → messages_sent (given ++ gave outcomes.Reset Reset ∷ []) ≡ []
unfolding messages_sent
messages_reset given = ap messages_in (since-append is_reset given (gave outcomes.Reset Reset ∷ []))

-- ---- sets

module _ (of : Signal) (whose : Whose) (pair : Pair) (given : List FrameResult) where
  abbrev of_outcome : Outcome → List SetIn
  of_outcome = set_if of whose pair

  abbrev before : List Outcome
  before = outcomes_in given

  -- the outcomes with one more
  pub outcomes_more : (g : FrameResult) → outcomes_in (given ++ g ∷ []) ≡ outcomes_in given ++ g.outcome ∷ []
  outcomes_more g = map-append (λ (g : FrameResult). g.outcome) given (g ∷ [])

  accepted_more : (batch : BatchContent) (tables : List Table) (answer : Answer)
      → sets_before of whose pair (given ++ gave (Accepted batch tables) answer ∷ []) ≡ sets_before of whose pair given ++ flat_map of_outcome (Accepted batch tables ∷ [])
  unfolding sets_sent
  accepted_more batch tables answer =
      ap (sets_sent of whose pair) (outcomes_more (gave (Accepted batch tables) answer))
      ∙ ap (flat_map of_outcome) (since-append outcomes.is_reset before (Accepted batch tables ∷ []))
      ∙ flat_map-append of_outcome (segment before) (Accepted batch tables ∷ [])

  module _ (batch : BatchContent) (tables : List Table) (answer : Answer) where
    pub sets_ordered : is_ordered of whose pair tables ≡ true
        → sets_before of whose pair (given ++ gave (Accepted batch tables) answer ∷ []) ≡ sets_before of whose pair given ++ kept_set of whose pair batch tables ∷ []
    sets_ordered ordered =
        let one : flat_map of_outcome (Accepted batch tables ∷ []) ≡ kept_set of whose pair batch tables ∷ [] = rw ordered refl in
        accepted_more batch tables answer ∙ ap (λ (more : List SetIn). sets_before of whose pair given ++ more) one

    pub sets_unordered : is_ordered of whose pair tables ≡ false
        → sets_before of whose pair (given ++ gave (Accepted batch tables) answer ∷ []) ≡ sets_before of whose pair given
    sets_unordered unordered =
        let none : flat_map of_outcome (Accepted batch tables ∷ []) ≡ [] = rw unordered refl in
        accepted_more batch tables answer ∙ ap (λ (more : List SetIn). sets_before of whose pair given ++ more) none
        ∙ append-nil (sets_before of whose pair given)

  pub sets_refused : (refusal : Refusal) (answer : Answer) → sets_before of whose pair (given ++ gave (outcomes.Refused refusal) answer ∷ []) ≡ sets_before of whose pair given
  unfolding sets_sent
  sets_refused refusal answer =
      ap (sets_sent of whose pair) (outcomes_more (gave (outcomes.Refused refusal) answer))
      ∙ ap (flat_map of_outcome) (since-append outcomes.is_reset before (outcomes.Refused refusal ∷ []))
      ∙ flat_map-append of_outcome (segment before) (outcomes.Refused refusal ∷ [])
      ∙ append-nil (flat_map of_outcome (segment before))

  pub sets_reset : (answer : Answer) → sets_before of whose pair (given ++ gave outcomes.Reset answer ∷ []) ≡ []
  unfolding sets_sent
  sets_reset answer =
      ap (sets_sent of whose pair) (outcomes_more (gave outcomes.Reset answer))
      ∙ ap (flat_map of_outcome) (since-append outcomes.is_reset before (outcomes.Reset ∷ []))
