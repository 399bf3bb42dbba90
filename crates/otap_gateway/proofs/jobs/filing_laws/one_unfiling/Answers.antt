use Rattle.otap_gateway.proofs.FilesBack.{one_reply, some_reply}
use Rattle.otap_gateway.proofs.jobs.filing_laws.one_unfiling.Goals as goal

pub returns-clause-one : goal.returns-clause-one
returns-clause-one c = one_reply c.one_file.ensures c.file_or_defect.ensures.never_both c.file_or_defect.ensures.one

pub returns-clause-some : goal.returns-clause-some
returns-clause-some c = λ kind bytes fits. some_reply kind bytes (c.file_or_defect.ensures.some bytes fits)
