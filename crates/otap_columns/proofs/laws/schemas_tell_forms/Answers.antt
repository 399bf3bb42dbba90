use Rattle.otap_columns.proofs.SchemaForms.{equal_forms, same_schema}
use Rattle.otap_columns.proofs.laws.schemas_tell_forms.Goals as goal

pub returns-clause-told : goal.returns-clause-told
returns-clause-told c = equal_forms

pub returns-clause-same : goal.returns-clause-same
returns-clause-same c = same_schema
