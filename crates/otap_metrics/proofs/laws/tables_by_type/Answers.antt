use Rattle.otap_metrics.proofs.TableKinds.{by_type}
use Rattle.otap_metrics.proofs.laws.tables_by_type.Goals as goal

pub returns : goal.returns
returns c = by_type
