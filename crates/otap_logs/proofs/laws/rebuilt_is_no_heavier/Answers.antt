use Rattle.otap_logs.proofs.LightTables.{light_tables}
use Rattle.otap_logs.proofs.laws.rebuilt_is_no_heavier.Goals as goal

pub returns : goal.returns
returns c = light_tables
