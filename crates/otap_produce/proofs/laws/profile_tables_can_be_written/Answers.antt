use Rattle.otap_produce.proofs.WritableTables.{profile_writable}
use Rattle.otap_produce.proofs.laws.profile_tables_can_be_written.Goals as goal

pub returns : goal.returns
returns c = profile_writable
