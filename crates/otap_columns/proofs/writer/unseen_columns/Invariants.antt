use Rattle.std.proofs.Common.{[]}
use Rattle.otap_columns.specs.Seen.{IsSeenAfter}
use Rattle.otap_columns.specs.WrittenRows.{unseen}
use Rattle.otap_columns.proofs.StateMade.{Made}
use Rattle.otap_columns.proofs.writer.unseen_columns.Given as goal

abbrev pub invariant-columns : goal.invariant-columns
invariant-columns l = Made (λ column s. IsSeenAfter l.fn.kind [] column s) unseen l.column l.seen.items
