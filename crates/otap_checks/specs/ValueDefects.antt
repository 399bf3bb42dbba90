-- What may be wrong with the values of a table's rows.
use Rattle.std.specs.Prelude.{◌≡◌, ℕ, List}
use Rattle.otap_attrs.specs.declared.refusal.RowRefusal.{RowRefusal}
use Rattle.otap_cells.specs.declared.payload.Kind.{Kind}
use Rattle.otap_cells.specs.Named.{table_named}
use Rattle.otap_cells.specs.Tables.{Table}
use Rattle.otap_attrs.specs.Defects.{WrongValue}

-- a row of the table of a kind has a wrong value
abbrev pub WrongValueOf : List Table → Kind → ℕ → Kind → RowRefusal → Type 0
WrongValueOf tables kind column named wrong = (named ≡ kind) × WrongValue (table_named kind tables) column wrong

-- nothing is wrong with the values of the table of a kind, whose columns begin at this one
abbrev pub HasFineValuesAt : ℕ → List Table → Kind → Type 0
HasFineValuesAt column tables kind = (wrong : RowRefusal) → WrongValue (table_named kind tables) column wrong → ⊥

-- nothing is wrong with those of a table of attributes
abbrev pub HasFineValues : List Table → Kind → Type 0
HasFineValues tables kind = HasFineValuesAt 2 tables kind
