use Rattle.std.proofs.Common.{refl}
use Rattle.arrow_arrays.proofs.Nested.{none_seen}
use Rattle.arrow_arrays.proofs.column.ColumnView.empty.Goals as goal

pub returns-clause-cells : goal.returns-clause-cells
returns-clause-cells c = λ row. none_seen _ row refl

pub returns-clause-empty : goal.returns-clause-empty
returns-clause-empty c =
    record { cells = λ row. none_seen _ row refl; rows = refl; own = refl; above = refl; top = refl }
