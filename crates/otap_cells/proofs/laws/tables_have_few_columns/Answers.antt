use Rattle.otap_cells.proofs.Widths.{few_columns}
use Rattle.otap_cells.proofs.laws.tables_have_few_columns.Goals as goal

pub returns : goal.returns
returns c = few_columns
