use Rattle.std.proofs.Common.{◌≡◌, drop}
use Rattle.otap_cells.specs.Sets.{named}
use Rattle.otap_cells.proofs.sets.find.Given as goal

abbrev pub invariant-tables : goal.invariant-tables
invariant-tables g l = named l.kind (drop l.name-index l.tables) ≡ named l.kind l.fn.tables
