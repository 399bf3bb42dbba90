use Rattle.std.proofs.Common.{◌≡◌, take}
use Rattle.otap_columns.specs.FormsIn.{forms_in}
use Rattle.otap_columns.proofs.SchemaBuilt.{built}
use Rattle.otap_columns.proofs.writer.schema.schema_of.Given as goal

abbrev pub invariant-groups : goal.invariant-groups
invariant-groups l = l.schema ≡ built l.fn.kind (forms_in l.fn.forms) (take l.group-index l.groups)
