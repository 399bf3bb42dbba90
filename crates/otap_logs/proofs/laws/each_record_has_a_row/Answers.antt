use Rattle.otap_logs.proofs.TableKinds.{rows_for_records}
use Rattle.otap_logs.proofs.laws.each_record_has_a_row.Goals as goal

pub returns : goal.returns
returns c = rows_for_records
