use Rattle.std.proofs.Common.{ℕ, List, [], subst}
use Rattle.arrow_ipc.specs.Written.{most_of_batch}
use Rattle.otap_cells.specs.declared.payload.Kind.{Kind}
use Rattle.otap_cells.specs.Columns.{width_of}
use Rattle.otap_columns.specs.WrittenPayloads.{schema_if}
use Rattle.otap_columns.specs.Schemas.{schema_for}
use Rattle.otap_columns.specs.FormsIn.{forms_in}
use Rattle.otap_columns.specs.WrittenRecords.{AddsAtMost, AddsHeads, AddsMessages, heads_most}
use Rattle.otap_columns.specs.Limits.{schema_most}
use Rattle.otap_columns.specs.BuiltRows.{columns_in}
use Rattle.otap_columns.proofs.RecordAppended.{record_whole}
use Rattle.otap_columns.proofs.RecordShort.{appended_rows, record_short}
use Rattle.otap_columns.proofs.writer.record.record_of.Goals as goal

pub returns-clause-record_is : goal.returns-clause-record_is
returns-clause-record_is c =
    let a = c.add_opening.new.to.items in
    let b = c.add_heads.new.to.items in
    record_whole c.args.table.now.kind c.args.opening (forms_in c.args.forms.now) (columns_in c.args.seen.now) c.args.counts.now c.args.table.now a b c.finish_rows.new.to.items c.in_ok-rows.rows
    (subst (λ (k : Kind). AddsMessages (schema_if c.args.opening (schema_for k (forms_in c.args.forms.now))) [] a) c.kind.ensures
    (subst (λ (old : List ℕ). AddsMessages (schema_if c.args.opening (schema_for c.kind.result (forms_in c.args.forms.now))) old a) c.new-bytes.ensures.items c.in_ok-add_opening.ensures.adds))
    (subst (λ (k : Kind). AddsHeads k c.args.opening (forms_in c.args.forms.now) (columns_in c.args.seen.now) c.args.counts.now (width_of k) a b) c.kind-2.ensures c.in_ok-add_heads.ensures.adds)
    c.in_ok-finish_rows.ensures.ok c.in_ok-rows.ensures.holds

pub returns-clause-short : goal.returns-clause-short
returns-clause-short c =
    let a = c.add_opening.new.to.items in
    let b = c.add_heads.new.to.items in
    record_short c.args.table.now (forms_in c.args.forms.now) a b (most_of_batch c.in_ok-rows.rows) c.finish_rows.new.to.items c.requires.fit
    (subst (λ (old : List ℕ). AddsAtMost schema_most old a) c.new-bytes.ensures.items c.in_ok-add_opening.ensures.short)
    (subst (λ (k : Kind). AddsAtMost (heads_most (forms_in c.args.forms.now) (width_of k)) a b) c.kind-2.ensures c.in_ok-add_heads.ensures.short)
    c.in_ok-rows.ensures.short (appended_rows _ (most_of_batch c.in_ok-rows.rows) b c.finish_rows.new.to.items c.in_ok-finish_rows.ensures.ok)
