use Rattle.std.proofs.Common.{◌<◌, sym, ap, subst, arith}
use Rattle.otap_cells.specs.Columns.{base_at, width_of}
use Rattle.otap_dicts.specs.Ladders.{LadderIn}
use Rattle.otap_columns.specs.declared.forms.ColumnForm.{ColumnForm}
use Rattle.otap_columns.specs.FormsIn.{forms_in}
use Rattle.otap_columns.specs.WrittenRecords.{AddsAtMost, from_in, head_most}
use Rattle.otap_columns.specs.BuiltRows.{columns_in}
use Rattle.otap_columns.proofs.RecordAppended.{heads_none, heads_more, head_as, send_as}
use Rattle.otap_columns.proofs.RecordShort.{heads_short}
use Rattle.otap_columns.proofs.writer.record.add_heads.Goals as goal

pub columns-init : goal.columns-init
columns-init c = (heads_none c.args.kind c.args.opening (forms_in c.args.forms.now) (columns_in c.args.seen.now) c.args.counts.now c.args.to.now.items, omega arith)

pub add_head-requires-clause-can : goal.add_head-requires-clause-can
add_head-requires-clause-can c =
    let n = c.columns.column in
    let low : n < width_of c.args.kind = omega (arith, c.columns-2.ensures.width) in
    send_as (base_at c.args.kind n) (forms_in c.args.forms.now n) c.form_of-form.result (from_in c.args.opening c.args.counts.now n) c.from_of-from.result (columns_in c.args.seen.now n)
    c.ladder_at-ladder.result.now.values (sym c.form_of-form.ensures) (sym c.from_of-from.ensures) (ap (λ (l : LadderIn). l.values) (sym c.ladder_at-ladder.ensures)) (c.requires.can n low)

pub columns-preserved : goal.columns-preserved
columns-preserved c =
    let n = c.columns.column in (
      heads_more c.args.kind c.args.opening (forms_in c.args.forms.now) (columns_in c.args.seen.now) c.args.counts.now n c.args.to.now.items c.columns.to.items c.add_head.new.to.items c.columns.invariant.0
          (head_as (base_at c.args.kind n) c.args.opening n c.form_of-form.result (forms_in c.args.forms.now n) c.from_of-from.result (from_in c.args.opening c.args.counts.now n)
          c.ladder_at-ladder.result.now.values (columns_in c.args.seen.now n) c.columns.to.items c.add_head.new.to.items c.form_of-form.ensures c.from_of-from.ensures
          (ap (λ (l : LadderIn). l.values) c.ladder_at-ladder.ensures) c.in_ok-add_head.ensures.adds),
      heads_short (forms_in c.args.forms.now) n c.args.to.now.items c.columns.to.items c.add_head.new.to.items c.columns.invariant.1
          (subst (λ (f : ColumnForm). AddsAtMost (head_most f) c.columns.to.items c.add_head.new.to.items) c.form_of-form.ensures c.in_ok-add_head.ensures.short),
    )
