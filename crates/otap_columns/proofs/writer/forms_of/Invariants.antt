use Rattle.std.proofs.Common.{◌≡◌, get_or}
use Rattle.otap_columns.specs.declared.forms.ColumnForm.TheVariants as form
use Rattle.otap_columns.specs.SeenInside.{form_kept}
use Rattle.otap_columns.specs.WrittenRows.{unseen}
use Rattle.otap_columns.proofs.StateMade.{Made}
use Rattle.otap_columns.proofs.writer.forms_of.Given as goal

abbrev pub invariant-columns : goal.invariant-columns
invariant-columns l = Made (λ column f. f ≡ form_kept l.fn.kind column (get_or l.fn.seen column unseen)) form.Absent l.column l.forms.items
