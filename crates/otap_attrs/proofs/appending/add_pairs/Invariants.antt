use Rattle.std.proofs.Common.{◌≡◌, ◌++◌, map, take}
use Rattle.otap_attrs.specs.Values.{pair_row}
use Rattle.otap_attrs.proofs.appending.add_pairs.Given as goal

abbrev pub invariant-pairs : goal.invariant-pairs
invariant-pairs l = l.table ≡ record l.fn.table { rows = l.fn.table.rows ++ map (pair_row l.parent) (take l.pair-index l.pairs) }
