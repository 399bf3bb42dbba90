use Rattle.std.proofs.Common.{◌≡◌, ◌++◌, drop, map}
use Rattle.otap_attrs.proofs.IndexedPairs.{pair_of}
use Rattle.otap_attrs.proofs.index.PairIndex.pairs_of.Given as goal

abbrev pub invariant-entries : goal.invariant-entries
invariant-entries g l =
    l.pairs ++ map (pair_of (g.R.Rows.table l.rows).rows) (drop l.entry-index l.entries) ≡ map (pair_of (g.R.Rows.table l.rows).rows) l.entries
