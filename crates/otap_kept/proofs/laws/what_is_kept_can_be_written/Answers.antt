use Rattle.otap_kept.proofs.KindsKept.{kept_by_type, kept_fewer}
use Rattle.otap_kept.proofs.ProfileTables.{all_profile}
use Rattle.otap_kept.proofs.laws.what_is_kept_can_be_written.Goals as goal

pub returns-clause-profile : goal.returns-clause-profile
returns-clause-profile c = all_profile

pub returns-clause-order : goal.returns-clause-order
returns-clause-order c = kept_by_type

pub returns-clause-items : goal.returns-clause-items
returns-clause-items c = kept_fewer
