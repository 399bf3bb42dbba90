use Rattle.std.proofs.Common.{◌≡◌}
use Rattle.std.specs.Prelude.{map}
use Rattle.std.specs.List.{range_with_len}
use Rattle.otap_columns.specs.Known.{known_column}
use Rattle.otap_columns.proofs.reader.known.known_columns.Given as goal

abbrev pub invariant-arrays : goal.invariant-arrays
invariant-arrays l = l.known.items ≡ map (known_column l.kind l.arrays) (range_with_len 0 l.place)
