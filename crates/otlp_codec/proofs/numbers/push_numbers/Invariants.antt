use Rattle.std.proofs.Common.{◌≡◌, ◌*◌, ◌-◌, ◌/◌, ◌++◌, length, drop}
use Rattle.lists.specs.Numbers.{little_numbers}
use Rattle.otlp_codec.proofs.numbers.push_numbers.Given as goal

abbrev pub invariant-numbers : goal.invariant-numbers
invariant-numbers l = l.to ++ little_numbers (length l.part / 8 - l.place) (drop (8 * l.place) l.part) ≡ l.initial.to ++ little_numbers (length l.part / 8) l.part
