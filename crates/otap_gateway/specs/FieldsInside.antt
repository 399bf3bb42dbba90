-- The line of one field: used in private contracts.
use Rattle.std.specs.Prelude.{ℕ, List}
use Rattle.arrow_schema.specs.declared.spec.FieldSpec.{FieldSpec}
use Rattle.arrow_schema.specs.Trees.{name_in, kind_in, dict_in}
use Rattle.otap_gateway.specs.Fields.{field_line_of}

abbrev pub field_line : List ℕ → FieldSpec → List ℕ
field_line path f = field_line_of path (name_in f) (kind_in f) (dict_in f)
