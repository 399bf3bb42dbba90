use Rattle.std.proofs.Common.{◌≡◌, ◌+◌, List, sym, ap, ◌∙◌, subst, arith}
use Rattle.otap_cells.specs.Columns.{width_of}
use Rattle.otap_columns.specs.declared.forms.ColumnForm.{ColumnForm}
use Rattle.otap_columns.specs.declared.forms.ColumnForm.TheVariants as form
use Rattle.otap_columns.specs.Plain.{plain_forms}
use Rattle.otap_columns.proofs.StateMade.{Made, made_none, made_more}
use Rattle.otap_columns.proofs.plain.forms_of.Goals as goal

pub columns-init : goal.columns-init
columns-init g c =
    subst (λ (xs : List ColumnForm). Made (λ column f. f ≡ plain_forms (g.R.Rows.table c.args.rows.now) column) form.Absent 0 xs) (sym c.new-forms.ensures.items)
    (made_none (λ column f. f ≡ plain_forms (g.R.Rows.table c.args.rows.now) column) form.Absent)

pub columns-preserved : goal.columns-preserved
columns-preserved g c =
    subst (λ (xs : List ColumnForm). Made (λ column f. f ≡ plain_forms (g.R.Rows.table c.args.rows.now) column) form.Absent (c.columns.column + 1) xs) (sym c.in_ok-push.ensures.items)
    (made_more (λ column f. f ≡ plain_forms (g.R.Rows.table c.args.rows.now) column) form.Absent c.columns.column c.columns.forms.items c.form_of.result c.columns.invariant c.form_of.ensures)

pub returns-clause-plain : goal.returns-clause-plain
returns-clause-plain g c =
    let all : c.columns.column ≡ width_of (g.R.Rows.table c.args.rows.now).kind =
    omega (arith, c.columns-test.false, c.columns.auto.column-end, c.columns-2.ensures.width, ap width_of c.kind.ensures) in
    record { count = c.columns.invariant.count ∙ all; each = λ column low. c.columns.invariant.each column (omega (arith, low, all)) }
