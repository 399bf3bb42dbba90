-- Words of the laws on tables that read as others.
use Rattle.std.specs.Prelude.{All, List}
use Rattle.otap_attrs.specs.declared.refusal.RowRefusal.{RowRefusal}
use Rattle.otap_cells.specs.GivenIds.{ReadAs}
use Rattle.otap_cells.specs.Tables.{Table}
use Rattle.otap_cells.specs.declared.payload.Kind.{Kind}
use Rattle.otap_checks.specs.Reading.{HasAllIds}
use Rattle.otap_metrics.specs.Requests.{WrongMetrics}

-- the law holds for all tables that read as others, where the others have all their ids
abbrev pub ForTablesReadAs : (List Table → List Table → Type 0) → Type 0
ForTablesReadAs Law = (tables others : List Table) → ReadAs tables others → All HasAllIds others → Law tables others

-- what is wrong with the rows of the tables is wrong with those of the others
abbrev pub IsWrongOnlyAs : List Table → List Table → Type 0
IsWrongOnlyAs tables others = (kind : Kind) (why : RowRefusal) → WrongMetrics tables kind why → WrongMetrics others kind why
