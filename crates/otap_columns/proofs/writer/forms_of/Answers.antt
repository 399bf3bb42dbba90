use Rattle.std.proofs.Common.{◌≡◌, ◌<◌, List, length, get_or, sym, ap, ◌∙◌, subst, arith, ◌+◌}
use Rattle.std.proofs.lemmas.List.{get_or_default}
use Rattle.otap_cells.specs.Columns.{width_of}
use Rattle.otap_columns.specs.declared.forms.ColumnForm.{ColumnForm}
use Rattle.otap_columns.specs.declared.forms.ColumnForm.TheVariants as form
use Rattle.otap_columns.specs.SeenInside.{form_kept}
use Rattle.otap_columns.specs.WrittenRows.{unseen}
use Rattle.otap_columns.proofs.StateMade.{Made, made_none, made_more}
use Rattle.otap_columns.proofs.writer.forms_of.Goals as goal

pub columns-init : goal.columns-init
columns-init c =
    subst (λ (xs : List ColumnForm). Made (λ column f. f ≡ form_kept c.args.kind column (get_or c.args.seen.now column unseen)) form.Absent 0 xs) (sym c.in_ok-forms.ensures.items)
    (made_none (λ column f. f ≡ form_kept c.args.kind column (get_or c.args.seen.now column unseen)) form.Absent)

pub columns-preserved : goal.columns-preserved
columns-preserved c =
    let n = c.columns.column in
    let low : n < length c.args.seen.now = omega (arith, c.columns-test.true, c.columns-2.ensures.width, c.requires.count) in
    let is : c.form_now-form.result ≡ form_kept c.args.kind n (get_or c.args.seen.now n unseen) =
    c.form_now-form.ensures ∙ ap (form_kept c.args.kind n) (c.index-seen-column.is ∙ get_or_default c.args.seen.now n c.index-seen-column.result unseen low) in
    subst (λ (xs : List ColumnForm). Made (λ column f. f ≡ form_kept c.args.kind column (get_or c.args.seen.now column unseen)) form.Absent (n + 1) xs) (sym c.in_ok-push.ensures.items)
    (made_more (λ column f. f ≡ form_kept c.args.kind column (get_or c.args.seen.now column unseen)) form.Absent n c.columns.forms.items c.form_now-form.result c.columns.invariant is)

pub returns : goal.returns
returns c =
    let all : c.columns.column ≡ width_of c.args.kind = omega (arith, c.columns-test.false, c.columns.auto.column-end, c.columns-2.ensures.width) in
    record { count = c.columns.invariant.count ∙ all; each = λ column low. c.columns.invariant.each column (omega (arith, low, all)) }
