use Rattle.std.proofs.Common.{◌≡◌, ◌++◌, drop}
use Rattle.otap_kept.specs.Holding.{parents_saying}
use Rattle.otap_kept.proofs.holders.parents_saying.Given as goal

abbrev pub invariant-rows : goal.invariant-rows
invariant-rows g l =
    l.found.items ++ parents_saying l.pair (drop l.row l.parents) (drop l.row (g.R.Rows.table l.rows).rows)
    ≡ parents_saying l.pair l.parents (g.R.Rows.table l.rows).rows
