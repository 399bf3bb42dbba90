use Rattle.otap_groups.proofs.StoredRows.{part_rows_of}
use Rattle.otap_groups.proofs.laws.part_tables_have_their_rows.Goals as goal

pub returns : goal.returns
returns g c kind cells_of lists part few_lists few = part_rows_of kind cells_of lists part few_lists few
