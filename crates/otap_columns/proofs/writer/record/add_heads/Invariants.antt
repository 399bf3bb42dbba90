use Rattle.otap_columns.specs.FormsIn.{forms_in}
use Rattle.otap_columns.specs.WrittenRecords.{AddsAtMost, AddsHeads, heads_most}
use Rattle.otap_columns.specs.BuiltRows.{columns_in}
use Rattle.otap_columns.proofs.writer.record.add_heads.Given as goal

abbrev pub invariant-columns : goal.invariant-columns
invariant-columns l =
    AddsHeads l.fn.kind l.fn.opening (forms_in l.fn.forms) (columns_in l.fn.seen) l.fn.counts l.column l.fn.to.items l.to.items
    × AddsAtMost (heads_most (forms_in l.fn.forms) l.column) l.fn.to.items l.to.items
