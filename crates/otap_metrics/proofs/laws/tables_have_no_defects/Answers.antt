use Rattle.otap_metrics.proofs.NoDefects.{no_defects}
use Rattle.otap_metrics.proofs.laws.tables_have_no_defects.Goals as goal

pub returns : goal.returns
returns c = no_defects
