-- Tables as the profile stores them: each id column in its own coding, in numbers of 32 bits, and with ids.
use Rattle.std.specs.Prelude.{◌≡◌, ℕ, true, List, Option}
use Rattle.otap_cells.specs.Columns.{coding_at, is_id_at}
use Rattle.otap_cells.specs.GivenIds.{HasIds}
use Rattle.otap_cells.specs.Tables.{Table, IsTable, coding_in, greatest_in, greatest_wide}

-- a column of ids
pub record HasProfileIds (t : Table) (column : ℕ) : Type 0 where
  pub ids : List (Option ℕ)
  pub are : HasIds t column ids
  pub coded : coding_in t column ≡ coding_at t.kind column
  pub wide : greatest_in t column ≡ greatest_wide

-- A TABLE OF THE PROFILE
pub record IsProfileTable (t : Table) : Type 0 where
  pub table : IsTable t
  pub columns : (column : ℕ) → is_id_at t.kind column ≡ true → HasProfileIds t column
