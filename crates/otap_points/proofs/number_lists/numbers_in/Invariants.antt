use Rattle.std.proofs.Common.{◌≡◌, ◌/◌, ◌++◌, length}
use Rattle.lists.specs.Numbers.{little_numbers}
use Rattle.otap_points.proofs.ListBytes.{from}
use Rattle.otap_points.proofs.number_lists.numbers_in.Given as goal

abbrev pub invariant-numbers : goal.invariant-numbers
invariant-numbers l = l.numbers ++ from l.bytes (length l.bytes / 8) l.place ≡ little_numbers (length l.bytes / 8) l.bytes
