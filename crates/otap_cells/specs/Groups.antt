-- The columns of a table, each by itself or with the others of its struct. A column's name is its path, joined by a dot.
use Rattle.std.specs.Prelude.{ℕ, suc, ◌==◌, if◌then◌else◌, List, [], ◌∷◌, Option, None, Some, option_map, bytes_eq}
use Rattle.otap_cells.specs.Columns.{ColumnSpec}

-- a column by its index in the table, and the name of its field
pub record Member : Type 0 where
  pub column : ℕ
  pub name : List ℕ

-- a column by itself, or the columns of a struct, which has a name
pub data Group : Type 0 where
  Alone : Member → Group
  Under : List ℕ → List Member → Group

-- what comes before the first dot of a name, and what after it; nothing where there is no dot
abbrev pub split : List ℕ → Option (List ℕ × List ℕ)
split [] = None
split (byte ∷ name) = if byte == 46 then Some ([], name) else option_map (λ (p : List ℕ × List ℕ). (byte ∷ p.0, p.1)) (split name)

-- a column of a struct before groups: it joins the first one where that is its struct
abbrev pub joined_to : List ℕ → Member → List Group → List Group
joined_to struct m [] = Under struct (m ∷ []) ∷ []
joined_to struct m (Alone other ∷ groups) = Under struct (m ∷ []) ∷ Alone other ∷ groups
joined_to struct m (Under other members ∷ groups) =
    if bytes_eq struct other then Under other (m ∷ members) ∷ groups else Under struct (m ∷ []) ∷ Under other members ∷ groups

-- a column before groups, by the parts of its name
abbrev pub group_before : ℕ → List ℕ → Option (List ℕ × List ℕ) → List Group → List Group
group_before column name None groups = Alone (record { column = column; name = name }) ∷ groups
group_before column name (Some parts) groups = joined_to parts.0 (record { column = column; name = parts.1 }) groups

abbrev pub grouped_from : ℕ → List ColumnSpec → List Group
grouped_from column [] = []
grouped_from column (c ∷ columns) = group_before column c.name (split c.name) (grouped_from (suc column) columns)

-- THE GROUPS of columns: neighbours of one struct are together
unfoldable pub grouped : List ColumnSpec → List Group
grouped columns = grouped_from 0 columns
