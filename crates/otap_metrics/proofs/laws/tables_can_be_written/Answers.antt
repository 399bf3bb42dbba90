use Rattle.otap_metrics.proofs.WrittenTables.{tables_written}
use Rattle.otap_metrics.proofs.laws.tables_can_be_written.Goals as goal

pub returns : goal.returns
returns c = tables_written
