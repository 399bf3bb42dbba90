-- Two answers to one outcome differ in the bytes of a message at most.
use Rattle.std.proofs.Common.{ℕ, ℤ, List, sym, ◌∙◌}
use Rattle.std.proofs.lemmas.Bool.{false≢true}
use Rattle.otlp_model.specs.declared.request.Signal.{Signal}
use Rattle.otlp_model.specs.declared.value.Pair.{Pair}
use Rattle.otap_kept.specs.declared.whose.Whose.{Whose}
use Rattle.otap_consume.specs.Outcomes.{Outcome, Accepted}
use Rattle.otap_consume.specs.Outcomes as outcomes
use Rattle.otap_filter.specs.Filtering.{Answer, Answers, Batch, FrameResult, Refused, Reset, Unordered}
use Rattle.otap_filter.specs.Runs.{AreAlike}

module _ (of : Signal) (whose : Whose) (pair : Pair) (given : List FrameResult) where
  -- what is kept is ordered, or it isn't
  pub not_both : (outcome : Outcome) (id other : ℤ) (message : List ℕ) → Answers of whose pair given outcome (Batch id message)
      → Answers of whose pair given outcome (Unordered other) → ⊥
  not_both (Accepted batch tables) id other message a b = false≢true (sym b.1 ∙ a.1.ordered)
  not_both (outcomes.Refused refusal) id other message a b = a
  not_both outcomes.Reset id other message a b = a

  -- each answer has the id of the batch, or the refusal
  pub alike : (outcome : Outcome) (a b : Answer) → Answers of whose pair given outcome a → Answers of whose pair given outcome b → AreAlike a b
  alike (Accepted batch tables) (Batch id message) (Batch other bytes) a b = a.0 ∙ sym b.0
  alike (Accepted batch tables) (Batch id message) (Unordered other) a b = not_both (Accepted batch tables) id other message a b
  alike (Accepted batch tables) (Batch id message) (Refused refusal) a b = absurd b
  alike (Accepted batch tables) (Batch id message) Reset a b = absurd b
  alike (Accepted batch tables) (Unordered id) (Batch other bytes) a b = not_both (Accepted batch tables) other id bytes b a
  alike (Accepted batch tables) (Unordered id) (Unordered other) a b = a.0 ∙ sym b.0
  alike (Accepted batch tables) (Unordered id) (Refused refusal) a b = absurd b
  alike (Accepted batch tables) (Unordered id) Reset a b = absurd b
  alike (Accepted batch tables) (Refused refusal) answer a b = absurd a
  alike (Accepted batch tables) Reset answer a b = absurd a
  alike (outcomes.Refused refusal) (Batch id message) answer a b = absurd a
  alike (outcomes.Refused refusal) (Unordered id) answer a b = absurd a
  alike (outcomes.Refused refusal) (Refused one) (Batch id message) a b = absurd b
  alike (outcomes.Refused refusal) (Refused one) (Unordered id) a b = absurd b
  alike (outcomes.Refused refusal) (Refused one) (Refused two) a b = a ∙ sym b
  alike (outcomes.Refused refusal) (Refused one) Reset a b = absurd b
  alike (outcomes.Refused refusal) Reset answer a b = absurd a
  alike outcomes.Reset (Batch id message) answer a b = absurd a
  alike outcomes.Reset (Unordered id) answer a b = absurd a
  alike outcomes.Reset (Refused refusal) answer a b = absurd a
  alike outcomes.Reset Reset (Batch id message) a b = absurd b
  alike outcomes.Reset Reset (Unordered id) a b = absurd b
  alike outcomes.Reset Reset (Refused refusal) a b = absurd b
  alike outcomes.Reset Reset Reset a b = tt
