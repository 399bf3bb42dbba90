use Rattle.std.proofs.Common.{◌≡◌, ◌++◌, drop}
use Rattle.otap_points.specs.Lists.{bytes_of}
use Rattle.otap_points.proofs.number_lists.bytes_of.Given as goal

abbrev pub invariant-numbers : goal.invariant-numbers
invariant-numbers l = l.bytes.items ++ bytes_of (drop l.number-index l.numbers) ≡ bytes_of l.numbers
