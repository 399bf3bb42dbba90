use Rattle.std.proofs.Common.{◌≡◌, take}
use Rattle.otap_columns.specs.FormsIn.{forms_in}
use Rattle.otap_columns.proofs.SchemaBuilt.{leaves}
use Rattle.otap_columns.proofs.writer.schema.leaf_fields.Given as goal

abbrev pub invariant-members : goal.invariant-members
invariant-members l = l.fields ≡ leaves l.fn.kind (forms_in l.fn.forms) (take l.member-index l.fn.members)
