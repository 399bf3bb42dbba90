use Rattle.otap_columns.proofs.StateMade.{Observed}
use Rattle.otap_columns.proofs.writer.observe_all.Given as goal

abbrev pub invariant-columns : goal.invariant-columns
invariant-columns l = Observed l.fn.table.kind l.fn.table l.initial.seen l.seen l.column
