use Rattle.otap_columns.proofs.RowsBuilt.{rows_held}
use Rattle.otap_columns.proofs.writer.laws.rows_are_held.Goals as goal

pub returns : goal.returns
returns c = rows_held
