-- Rows of one id that differ in another cell.
use Rattle.std.specs.Prelude.{◌≡◌, ℕ, false, List, Option, Some, Contains, ◌⊎◌}
use Rattle.otap_cells.specs.Cells.{Cell}
use Rattle.otap_groups.specs.Rows.{MainRow, cells_are}

-- two rows have one id, and cells that aren't equal
pub record DifferBy (id : MainRow → Option ℕ) (cells : MainRow → List Cell) (rows : List MainRow) : Type 0 where
  pub shared : ℕ
  pub a : MainRow
  pub b : MainRow
  pub first : Contains rows a
  pub second : Contains rows b
  pub of_first : id a ≡ Some shared
  pub of_second : id b ≡ Some shared
  pub differ : cells_are (cells a) (cells b) ≡ false

-- rows of one resource id differ in another cell of `resource`
abbrev pub ResourcesDisagree : List MainRow → Type 0
ResourcesDisagree rows = DifferBy (λ row. row.resource_id) (λ row. row.resource) rows

-- rows of one scope id differ in another cell of `scope`
abbrev pub ScopesDisagree : List MainRow → Type 0
ScopesDisagree rows = DifferBy (λ row. row.scope_id) (λ row. row.scope) rows

-- ROWS OF ONE ID differ in another cell
abbrev pub Disagree : List MainRow → Type 0
Disagree rows = ResourcesDisagree rows ⊎ ScopesDisagree rows
