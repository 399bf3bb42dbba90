use Rattle.std.proofs.Common.{◌≡◌, ◌++◌, drop}
use Rattle.std.specs.List.{flat_map}
use Rattle.byteorder.specs.Endian.{little_bytes}
use Rattle.otlp_messages.proofs.backward.Backward.push_numbers.Given as goal

abbrev pub invariant-values : goal.invariant-values
invariant-values l = l.self ≡ flat_map (little_bytes 8) (drop l.place l.values) ++ l.initial.self
