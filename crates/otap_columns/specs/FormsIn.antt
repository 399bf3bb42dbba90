-- The forms that the writer keeps, as the definitions name them: used in private contracts.
use Rattle.std.specs.Prelude.{List}
use Rattle.std.specs.List.{slice_index_or}
use Rattle.otap_columns.specs.declared.forms.ColumnForm.{ColumnForm}
use Rattle.otap_columns.specs.declared.forms.ColumnForm.TheVariants as form
use Rattle.otap_columns.specs.Schemas.{Forms}

-- the forms of columns, by a list of them; none past its end
abbrev pub forms_in : List ColumnForm → Forms
forms_in forms column = slice_index_or forms column form.Absent
