use Rattle.otap_checks.proofs.ReadAlike.{main_rows_same, pairs_same, disagrees_told, value_told, reads_named}
use Rattle.otap_checks.proofs.laws.rows_read_alike.Goals as goal

pub returns-clause-rows : goal.returns-clause-rows
returns-clause-rows c = main_rows_same

pub returns-clause-pairs : goal.returns-clause-pairs
returns-clause-pairs c = λ a b reads given id parent. pairs_same a b reads given parent id

pub returns-clause-alike : goal.returns-clause-alike
returns-clause-alike c = disagrees_told

pub returns-clause-values : goal.returns-clause-values
returns-clause-values c = value_told

pub returns-clause-named : goal.returns-clause-named
returns-clause-named c = reads_named
