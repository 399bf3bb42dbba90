use Rattle.std.proofs.Common.{◌≡◌, ◌++◌, drop}
use Rattle.otap_cells.specs.Inside.{numbers}
use Rattle.otap_checks.proofs.shapes.numbers.Given as goal

abbrev pub invariant-ids : goal.invariant-ids
invariant-ids l = l.found.items ++ numbers (drop l.id-index l.ids) ≡ numbers l.ids
