use Rattle.otap_logs.proofs.TableKinds.{by_type}
use Rattle.otap_logs.proofs.laws.tables_by_type.Goals as goal

pub returns : goal.returns
returns c = by_type
