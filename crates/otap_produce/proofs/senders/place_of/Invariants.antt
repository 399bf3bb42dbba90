use Rattle.std.proofs.Common.{◌≡◌, ◌<◌, ℕ}
use Rattle.std.specs.List.{slice_index_or}
use Rattle.otap_produce.specs.Senders.{SenderIn}
use Rattle.otap_produce.proofs.senders.place_of.Given as goal

abbrev pub invariant-senders : goal.invariant-senders
invariant-senders l = (k : ℕ) (d : SenderIn) → k < l.place → (slice_index_or l.senders k d).writer.kind ≡ l.kind → ⊥
