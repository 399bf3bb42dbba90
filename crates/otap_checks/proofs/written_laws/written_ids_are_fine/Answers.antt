use Rattle.otap_checks.proofs.FineWritten.{fine_ids}
use Rattle.otap_checks.proofs.written_laws.written_ids_are_fine.Goals as goal

pub returns : goal.returns
returns g c = λ main cells_of ws groups far is_main few sound linked. fine_ids main cells_of ws groups far is_main few sound linked
