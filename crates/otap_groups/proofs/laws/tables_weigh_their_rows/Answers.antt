use Rattle.otap_groups.proofs.RowsWeighed.{main_weighs, parts_weigh}
use Rattle.otap_groups.proofs.RowsApart.{rows_apart}
use Rattle.otap_groups.proofs.laws.tables_weigh_their_rows.Goals as goal

pub returns-clause-main : goal.returns-clause-main
returns-clause-main g c kind cells_of groups = main_weighs cells_of kind groups

pub returns-clause-parts : goal.returns-clause-parts
returns-clause-parts g c kind cells_of lists = parts_weigh kind cells_of lists

pub returns-clause-apart : goal.returns-clause-apart
returns-clause-apart g c of_resource of_scope own more groups = rows_apart of_resource of_scope own more groups
