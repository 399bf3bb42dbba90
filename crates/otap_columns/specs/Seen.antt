-- What the writer keeps of the columns of the tables that it wrote.
use Rattle.std.specs.Prelude.{◌≡◌, ℕ, ◌&&◌, not, Bool, false, List, Option}
use Rattle.std.specs.List.{list_any}
use Rattle.otap_cells.specs.declared.payload.Kind.{Kind}
use Rattle.otap_cells.specs.Columns.{column_at, base_at}
use Rattle.otap_cells.specs.declared.profile.Base.{Base}
use Rattle.otap_cells.specs.declared.profile.Base.TheVariants as base
use Rattle.otap_cells.specs.Tables.{Table}
use Rattle.otap_dicts.specs.Ladders.{LadderIn, ladder_of}
use Rattle.otap_columns.specs.Observed.{values_in_tables, has_wide_id}

-- of a column: its ladder, whether its ids became wide, and of each cell of the last table, up to the last one that was set, the
-- index of its value in the ladder's dictionary, where it has one
pub record SeenIn : Type 0 where
  pub ladder : LadderIn
  pub wide : Bool
  pub places : List (Option ℕ)

-- ids that are wide only from the first one on that needs more than 16 bits
abbrev pub may_widen : Base → Bool
may_widen (base.Id wide) = not wide
may_widen other = false

-- THE STATE of a column after tables
pub record IsSeenAfter (kind : Kind) (tables : List Table) (column : ℕ) (s : SeenIn) : Type 0 where
  pub ladder_is : s.ladder ≡ ladder_of (column_at kind column).dictionary (values_in_tables kind tables column)
  pub wide_is : s.wide ≡ (may_widen (base_at kind column) && list_any (has_wide_id kind column) tables)
