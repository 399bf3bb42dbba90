use Rattle.otap_groups.proofs.StoredRows.{main_rows_of}
use Rattle.otap_groups.proofs.laws.main_tables_have_their_rows.Goals as goal

pub returns : goal.returns
returns g c kind cells_of groups main few = main_rows_of cells_of kind groups main few
