-- The shapes of metrics, and points below metrics of another shape.
use Rattle.std.specs.Prelude.{◌≡◌, ℕ, ◌<◌, ◌==◌, ◌||◌, Bool, false, List, Option, Some, Contains, length}
use Rattle.otap_cells.specs.Cells.{nat_in}
use Rattle.otap_cells.specs.GivenIds.{HasIds}
use Rattle.otap_cells.specs.Tables.{Table, cell_in}
use Rattle.otap_cells.specs.Places.{main_id, metric_type, part_parent}
use Rattle.otap_groups.specs.Rows.{id_at}
use Rattle.otap_checks.specs.declared.shapes.PointSort.{PointSort}
use Rattle.otap_checks.specs.declared.shapes.PointSort.TheVariants as sort

-- the number of a metric's shape, in a row of the main table
abbrev pub type_at : Table → ℕ → ℕ
type_at t row = nat_in (cell_in t.rows metric_type row)

-- the numbers of shapes: none, gauges, sums, histograms, summaries
abbrev pub is_type : ℕ → Bool
is_type n = n == 0 || n == 1 || n == 2 || n == 3 || n == 5

-- those whose points are single numbers: gauges and sums; those of histograms, and of summaries
abbrev pub has_numbers : ℕ → Bool
has_numbers n = n == 1 || n == 2

abbrev pub has_hist_points : ℕ → Bool
has_hist_points n = n == 3

abbrev pub has_summary_points : ℕ → Bool
has_summary_points n = n == 5

-- which metrics have points of a sort
abbrev pub fits_of : PointSort → ℕ → Bool
fits_of sort.Numbers = has_numbers
fits_of sort.Histograms = has_hist_points
fits_of sort.Summaries = has_summary_points

-- a metric's type is none of these
pub record WrongType (t : Table) : Type 0 where
  pub row : ℕ
  pub there : row < length t.rows
  pub is : is_type (type_at t row) ≡ false

-- a parent is the id of a metric that has another shape
pub record NamesOther (fits : ℕ → Bool) (main : Table) (parents ids : List (Option ℕ)) : Type 0 where
  pub row : ℕ
  pub there : row < length main.rows
  pub other : fits (type_at main row) ≡ false
  pub id : ℕ
  pub own : id_at ids row ≡ Some id
  pub named : Contains parents (Some id)

-- a point names such a metric
pub record WrongParent (fits : ℕ → Bool) (t main : Table) : Type 0 where
  pub parents : List (Option ℕ)
  pub ids : List (Option ℕ)
  pub are : HasIds t part_parent parents
  pub known : HasIds main main_id ids
  pub is : NamesOther fits main parents ids
