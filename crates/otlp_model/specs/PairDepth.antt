-- How deep the value of a pair nests: a word of private contracts.
use Rattle.std.specs.Prelude.{ℕ}
use Rattle.otlp_model.specs.declared.value.Pair.{Pair}
use Rattle.otlp_model.specs.Depth.{depth_of}

abbrev pub depth_of_pair : Pair → ℕ
depth_of_pair pair = depth_of pair.value
