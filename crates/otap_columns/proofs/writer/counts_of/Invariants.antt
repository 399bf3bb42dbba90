use Rattle.std.proofs.Common.{◌≡◌, length}
use Rattle.otap_columns.specs.BuiltRows.{columns_in}
use Rattle.otap_columns.proofs.StateMade.{Made}
use Rattle.otap_columns.proofs.writer.counts_of.Given as goal

abbrev pub invariant-columns : goal.invariant-columns
invariant-columns l = Made (λ column count. count ≡ length (columns_in l.fn.seen column)) 0 l.column l.counts.items
