-- Ids of which none needs more than 16 bits, row by row: used in private contracts.
use Rattle.std.specs.Prelude.{◌≡◌, ℕ, ◌+◌, ◌≤◌, Bool, List, Option, drop}
use Rattle.std.specs.List.{list_any}
use Rattle.otap_cells.specs.declared.profile.Coding.{Coding}
use Rattle.otap_cells.specs.Columns.{coding_at}
use Rattle.otap_cells.specs.ColumnIds.{stored_in}
use Rattle.otap_cells.specs.Continuing.{continues_in}
use Rattle.otap_cells.specs.Ids.{undone_after}
use Rattle.otap_cells.specs.Tables.{Table, greatest_wide}
use Rattle.otap_columns.specs.Observed.{is_above}

-- one of the ids of these numbers, after an id, needs more than 16 bits
abbrev pub is_wide_after : Coding → ℕ → List Bool → List (Option ℕ) → Bool
is_wide_after how before rows ns = list_any is_above (undone_after how greatest_wide before rows ns)

-- the same of the rows of a column from one on
abbrev pub is_wide_from : Table → ℕ → ℕ → ℕ → Bool
is_wide_from t column row before = is_wide_after (coding_at t.kind column) before (drop row (continues_in t)) (drop row (stored_in t column))

-- whatever id up to `most` comes before a row, whether a wide one follows can be read from the rows after it and an id up to `next`
pub record StaysNarrow (t : Table) (column row most next : ℕ) : Type 0 where
  pub at : (before : ℕ) → before ≤ most → (after : ℕ) × (after ≤ next) × (is_wide_from t column row before ≡ is_wide_from t column (row + 1) after)
