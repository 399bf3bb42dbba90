-- The parts of a record batch of a table.
use Rattle.std.specs.Prelude.{◌≡◌, ◌<◌, ℕ, ⊤, true, false, List, [], ◌∷◌, length, bytes_eq, Option, Some, None}
use Rattle.std.specs.List.{list_any}
use Rattle.arrow_arrays.specs.Layouts.{layout_of, layout_of_values}
use Rattle.arrow_arrays.specs.Written.{PartIn, struct_part, HoldsCells, IsPartOfElements}
use Rattle.otap_cells.specs.declared.payload.Kind.{Kind}
use Rattle.otap_cells.specs.Columns.{base_at, column_at}
use Rattle.otap_cells.specs.Tables.{Table, cell_in}
use Rattle.otap_dicts.specs.declared.form.Form.TheVariants as ladder
use Rattle.otap_columns.specs.Schemas.{Forms, ArraySlot, Struct, Column, Items, is_dictionary, arrow_type_in, dict_for, item_in, item_type}
use Rattle.otap_columns.specs.Observed.{bytes_for}
use Rattle.otap_columns.specs.Seen.{SeenIn}
use Rattle.otap_columns.specs.WrittenCells.{FitsIndexes, stored_column}

-- a part is that of a slot of the schema, before the next part: a struct without nulls, a column of the table, or elements
abbrev pub HoldsSlot : Kind → Forms → (ℕ → List (List ℕ)) → Table → ArraySlot → PartIn → Option PartIn → Type 0
HoldsSlot kind forms values t (Struct name) p next = p ≡ struct_part (length t.rows)
HoldsSlot kind forms values t (Column m) p next =
    HoldsCells (layout_of (arrow_type_in (column_at kind m.column).base (forms m.column)) (dict_for m.column (forms m.column))) (length t.rows)
    (stored_column (forms m.column) (values m.column) t m.column) p next
HoldsSlot kind forms values t (Items column) p next = IsPartOfElements (layout_of_values (item_type (item_in (column_at kind column).base))) p

abbrev pub first_of : List PartIn → Option PartIn
first_of [] = None
first_of (p ∷ parts) = Some p

-- EACH SLOT HAS ITS PART, one after the other
abbrev pub AreSlotParts : Kind → Forms → (ℕ → List (List ℕ)) → Table → List ArraySlot → List PartIn → Type 0
AreSlotParts kind forms values t [] [] = ⊤
AreSlotParts kind forms values t [] (p ∷ parts) = ⊥
AreSlotParts kind forms values t (slot ∷ slots) [] = ⊥
AreSlotParts kind forms values t (slot ∷ slots) (p ∷ parts) = HoldsSlot kind forms values t slot p (first_of parts) × AreSlotParts kind forms values t slots parts

-- the dictionary of a column has its values, and the indexes of its form reach them
abbrev pub IsKnownIn : List (List ℕ) → Option (List ℕ) → Type 0
IsKnownIn values None = ⊤
IsKnownIn values (Some value) = list_any (bytes_eq value) values ≡ true

pub record HasValues (kind : Kind) (forms : Forms) (values : ℕ → List (List ℕ)) (t : Table) : Type 0 where
  pub known : (column row : ℕ) → is_dictionary (forms column) ≡ true → row < length t.rows
      → IsKnownIn (values column) (bytes_for (base_at kind column) (forms column) (cell_in t.rows column row))
  pub few : (column : ℕ) → FitsIndexes (forms column) (length (values column))

-- what is kept of a column that had no value
abbrev pub unseen : SeenIn
unseen = record { ladder = record { dictionary = false; form = ladder.Absent; values = [] }; wide = false; places = [] }
