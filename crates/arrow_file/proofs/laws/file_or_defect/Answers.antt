use Rattle.arrow_file.proofs.Judged.{never_both, file_or_defect}
use Rattle.arrow_file.proofs.FirstDefect.{one_defect}
use Rattle.arrow_file.proofs.laws.file_or_defect.Goals as goal

pub returns-clause-never_both : goal.returns-clause-never_both
returns-clause-never_both c = never_both

pub returns-clause-some : goal.returns-clause-some
returns-clause-some c = file_or_defect

pub returns-clause-one : goal.returns-clause-one
returns-clause-one c = one_defect
