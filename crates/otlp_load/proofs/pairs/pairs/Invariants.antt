use Rattle.std.proofs.Common.{◌≡◌}
use Rattle.std.specs.Prelude.{map}
use Rattle.std.specs.List.{range_with_len}
use Rattle.otlp_load.specs.Pairs.{load_pair}
use Rattle.otlp_load.proofs.pairs.pairs.Given as goal

abbrev pub invariant-places : goal.invariant-places
invariant-places l = l.pairs ≡ map (load_pair l.request l.number) (range_with_len 0 l.place)
