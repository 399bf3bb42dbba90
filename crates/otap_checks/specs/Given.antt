-- Tables whose columns of ids have ids.
use Rattle.std.specs.Prelude.{◌≡◌, ℕ, true, List, Option}
use Rattle.otap_cells.specs.Columns.{is_id_at}
use Rattle.otap_cells.specs.ColumnIds.{HasNullParent}
use Rattle.otap_cells.specs.GivenIds.{HasIds}
use Rattle.otap_cells.specs.Tables.{Table}

-- the ids of a column are given, and no parent is null
pub record IsGiven (t : Table) (column : ℕ) : Type 0 where
  pub ids : List (Option ℕ)
  pub are : HasIds t column ids
  pub parents : HasNullParent t column → ⊥

-- those of each column are
abbrev pub AreGiven : Table → Type 0
AreGiven t = (column : ℕ) → is_id_at t.kind column ≡ true → IsGiven t column
