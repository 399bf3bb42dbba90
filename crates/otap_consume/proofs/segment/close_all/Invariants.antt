use Rattle.std.proofs.Common.{◌≡◌, ℕ, ◌<◌, ◌≤◌, get_or}
use Rattle.otap_consume.specs.Streams.{StreamIn}
use Rattle.otap_consume.specs.StreamSteps.{closed}
use Rattle.otap_consume.proofs.segment.close_all.Given as goal

abbrev pub invariant-streams : goal.invariant-streams
invariant-streams l = record {
  done : (i : ℕ) (d : StreamIn) → i < l.place → get_or l.streams i d ≡ closed (get_or l.initial.streams i d);
  rest : (i : ℕ) (d : StreamIn) → l.place ≤ i → get_or l.streams i d ≡ get_or l.initial.streams i d;
}
