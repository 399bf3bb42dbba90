use Rattle.otap_spans.proofs.LightTables.{light_tables}
use Rattle.otap_spans.proofs.laws.rebuilt_is_no_heavier.Goals as goal

pub returns : goal.returns
returns c = light_tables
