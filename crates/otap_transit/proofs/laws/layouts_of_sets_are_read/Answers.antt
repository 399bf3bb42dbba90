use Rattle.otap_transit.proofs.LaidByBytes.{sets_by_bytes}
use Rattle.otap_transit.proofs.laws.layouts_of_sets_are_read.Goals as goal

pub returns : goal.returns
returns c = sets_by_bytes c.written_schemas_are_plain.ensures c.far_end_reads.ensures
