-- The ids of a table's columns.
use Rattle.std.specs.Prelude.{◌≡◌, ℕ, pos, Bool, List, map, codes, Contains, Option, None, Some}
use Rattle.otap_cells.specs.declared.ids.IdFault.{IdFault}
use Rattle.otap_cells.specs.declared.ids.IdFault.TheVariants.{PastType, Duplicate, NullParent}
use Rattle.otap_cells.specs.declared.column_ids.IdsRefusal.{IdsRefusal}
use Rattle.otap_cells.specs.declared.column_ids.IdsRefusal.TheVariants as refusal
use Rattle.otap_cells.specs.Cells.{Cell, number}
use Rattle.otap_cells.specs.Columns.{name_at}
use Rattle.otap_cells.specs.Tables.{Table, column_in, coding_in, greatest_in}
use Rattle.otap_cells.specs.Ids.{Ids}

-- the number of a cell that isn't null
abbrev pub id_in : Cell → Option ℕ
id_in (number (pos n)) = Some n
id_in _ = None

-- the numbers that a column stores
abbrev pub stored_in : Table → ℕ → List (Option ℕ)
stored_in t column = map id_in (column_in t.rows column)

-- THE IDS of a column of a table, as its coding and its greatest number give them; `rows` says of each row whether it
-- continues the run of the one before
abbrev pub IdsOf : Table → ℕ → List Bool → List (Option ℕ) → Type 0
IdsOf t column rows ids = Ids (coding_in t column) (greatest_in t column) rows (stored_in t column) ids

-- a cell of `parent_id` is null
pub record HasNullParent (t : Table) (column : ℕ) : Type 0 where
  pub named : name_at t.kind column ≡ codes "parent_id"
  pub null : Contains (stored_in t column) None

-- why a column has no ids: a null parent, or else a number that would be above the greatest
abbrev pub HasIdFault : Table → ℕ → List Bool → IdFault → Type 0
HasIdFault t column rows NullParent = HasNullParent t column
HasIdFault t column rows PastType = (HasNullParent t column → ⊥) × ((ids : List (Option ℕ)) → IdsOf t column rows ids → ⊥)
HasIdFault t column rows Duplicate = ⊥

-- being out of memory says nothing of the column
abbrev pub RefusesIds : Table → ℕ → List Bool → IdsRefusal → Type 0
RefusesIds t column rows (refusal.Ids fault) = HasIdFault t column rows fault
RefusesIds t column rows (refusal.Memory error) = Unit {0}
