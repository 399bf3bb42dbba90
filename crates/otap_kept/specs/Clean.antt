-- Tables of which a filter keeps some.
use Rattle.std.specs.Prelude.{◌≤◌, List}
use Rattle.otlp_model.specs.declared.request.Signal.{Signal}
use Rattle.otap_attrs.specs.declared.refusal.RowRefusal.{RowRefusal}
use Rattle.otap_cells.specs.declared.payload.Kind.{Kind}
use Rattle.otap_cells.specs.Tables.{Table}
use Rattle.otap_cells.specs.Weights.{row_weight_limit, weight_of_tables}
use Rattle.otap_checks.specs.RowDefects.{RowDefect}

-- nothing is wrong with the rows of these tables, and they are within the limit on row weight
pub record AreCleanAndLight (of : Signal) (tables : List Table) : Type 0 where
  pub clean : (kind : Kind) (why : RowRefusal) → RowDefect of tables kind why → ⊥
  pub light : weight_of_tables tables ≤ row_weight_limit
