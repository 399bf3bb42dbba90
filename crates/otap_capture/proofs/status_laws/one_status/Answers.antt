use Rattle.std.proofs.Common.{sym, ◌∙◌}
use Rattle.otap_capture.specs.Batch.{defect_of}
use Rattle.otap_capture.proofs.status_laws.one_status.Goals as goal

pub returns-clause-one : goal.returns-clause-one
returns-clause-one c bytes a b reads_a reads_b = reads_a.1 ∙ sym reads_b.1

pub returns-clause-not_refused : goal.returns-clause-not_refused
returns-clause-not_refused c bytes status refusal reads refuses = reads.0.none (defect_of refusal) refuses
