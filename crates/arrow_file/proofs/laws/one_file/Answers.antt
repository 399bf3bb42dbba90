use Rattle.arrow_file.proofs.Judged.{one_file}
use Rattle.arrow_file.proofs.laws.one_file.Goals as goal

pub returns : goal.returns
returns c = one_file
