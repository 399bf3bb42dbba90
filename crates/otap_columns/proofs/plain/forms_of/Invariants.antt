use Rattle.std.proofs.Common.{◌≡◌}
use Rattle.otap_columns.specs.declared.forms.ColumnForm.TheVariants as form
use Rattle.otap_columns.specs.Plain.{plain_forms}
use Rattle.otap_columns.proofs.StateMade.{Made}
use Rattle.otap_columns.proofs.plain.forms_of.Given as goal

abbrev pub invariant-columns : goal.invariant-columns
invariant-columns g l = Made (λ column f. f ≡ plain_forms (g.R.Rows.table l.rows) column) form.Absent l.column l.forms.items
