use Rattle.otap_kept.proofs.ReadAgain.{attributes_read, main_read, parts_read}
use Rattle.otap_kept.proofs.laws.what_is_kept_reads_as_renewed.Goals as goal

pub returns-clause-main : goal.returns-clause-main
returns-clause-main c = main_read

pub returns-clause-parts : goal.returns-clause-parts
returns-clause-parts c = parts_read

pub returns-clause-attributes : goal.returns-clause-attributes
returns-clause-attributes c = attributes_read
