use Rattle.otap_kept.proofs.LighterTables.{kept_lighter}
use Rattle.otap_kept.proofs.laws.rows_are_no_heavier.Goals as goal

pub returns : goal.returns
returns c = kept_lighter
