-- Values that are of their dictionary's type.
use Rattle.std.specs.Prelude.{ℕ, List, All, Option}
use Rattle.std.specs.Option.{ForSome}
use Rattle.arrow_schema.specs.declared.spec.ArrowType.{ArrowType}
use Rattle.arrow_arrays.specs.Layouts.{layout_of_values, FitsLayout}
use Rattle.otap_columns.specs.Dictionaries.{DictionaryIn}

-- the values are of the dictionary's type
abbrev pub FitsValue : ArrowType → Option (List ℕ) → Type 0
FitsValue kind value = ForSome value (FitsLayout (layout_of_values kind))

abbrev pub FitsIn : DictionaryIn → Type 0
FitsIn d = All (FitsValue d.kind) d.values
