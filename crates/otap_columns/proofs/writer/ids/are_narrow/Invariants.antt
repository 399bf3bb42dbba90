use Rattle.otap_columns.proofs.NarrowSums.{IsNarrowSoFar}
use Rattle.otap_columns.proofs.writer.ids.are_narrow.Given as goal

abbrev pub invariant-rows : goal.invariant-rows
invariant-rows l = IsNarrowSoFar l.fn.table l.fn.column l.row l.most
