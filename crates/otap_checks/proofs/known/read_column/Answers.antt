use Rattle.std.proofs.Common.{◌≡◌, ◌∙◌, true, refl, sym, ap, subst}
use Rattle.otap_attrs.specs.Refusals.{refusal_of_ids}
use Rattle.otap_cells.specs.Columns.{is_id_at}
use Rattle.otap_cells.specs.Continuing.{continues_in}
use Rattle.otap_checks.specs.Inside.{ColumnFault, ColumnWrong}
use Rattle.otap_checks.specs.Refusing.{refused_as, RefusesCheck}
use Rattle.otap_attrs.specs.Defects.{RefusesRow}
use Rattle.otap_checks.proofs.GivenColumns.{column_refused}
use Rattle.otap_checks.proofs.KnownSteps.{row_refused}
use Rattle.otap_checks.proofs.known.read_column.Goals as goal

pub returns-in-Err-clause-err : goal.returns-in-Err-clause-err
returns-in-Err-clause-err g c =
    let t = g.R.Rows.table c.in-Some.rows.now in
    let tables = c.args.set.now in
    let id : is_id_at t.kind c.args.column ≡ true = rw c.in-Some.ensures.of_kind c.requires in
    let refuses : RefusesRow (ColumnFault t) (refusal_of_ids c.in-Err.why) = column_refused t c.args.column (continues_in t) c.in-Err.why refl id c.in-Err.ensures.refused in
    subst (RefusesCheck (ColumnWrong tables c.args.kind)) (sym (c.refused.ensures ∙ ap (refused_as c.args.kind) c.from.ensures))
    (row_refused tables c.args.kind (refusal_of_ids c.in-Err.why) (subst (λ t. RefusesRow (ColumnFault t) (refusal_of_ids c.in-Err.why)) (sym c.in-Some.ensures.table) refuses))
