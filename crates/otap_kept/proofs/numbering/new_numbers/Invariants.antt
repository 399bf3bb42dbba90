use Rattle.std.proofs.Common.{◌≡◌, ◌++◌, drop, map}
use Rattle.otap_kept.specs.Numbers.{new_number}
use Rattle.otap_kept.proofs.numbering.new_numbers.Given as goal

abbrev pub invariant-ids : goal.invariant-ids
invariant-ids l = l.numbers.items ++ map (new_number l.kept) (drop l.id-index l.ids) ≡ map (new_number l.kept) l.ids
