use Rattle.otap_spans.proofs.NoDefects.{no_defects}
use Rattle.otap_spans.proofs.laws.tables_have_no_defects.Goals as goal

pub returns : goal.returns
returns c = no_defects
