use Rattle.std.proofs.lemmas.Bool.{eqb-true}
use Rattle.arrow_arrays.proofs.Nested.{none_seen}
use Rattle.arrow_arrays.proofs.column.ColumnView.has_no_rows.Goals as goal

pub returns : goal.returns
returns c = λ none row. none_seen c.args.self.now row (eqb-true c.args.self.now.rows 0 none)
