use Rattle.std.proofs.Common.{◌≡◌, ◌<◌, ℕ, []}
use Rattle.std.specs.List.{slice_index_or}
use Rattle.otap_produce.specs.Senders.{HasSentTables, SenderIn, kinds_in}
use Rattle.otap_produce.proofs.senders.begin_anew.Given as goal

abbrev pub invariant-senders : goal.invariant-senders
invariant-senders l = record {
  kinds : kinds_in l.senders ≡ kinds_in l.initial.senders;
  sent : (k : ℕ) (d : SenderIn) → k < l.place → HasSentTables [] [] (slice_index_or l.senders k d);
}
