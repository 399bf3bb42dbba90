use Rattle.otap_groups.proofs.CellsOnly.{same_main_rows, same_pair_rows, same_part_rows}
use Rattle.otap_groups.proofs.laws.rows_follow_from_cells.Goals as goal

pub returns-clause-main : goal.returns-clause-main
returns-clause-main c t u xs ys same main a b = same_main_rows t u xs ys same main a b

pub returns-clause-parts : goal.returns-clause-parts
returns-clause-parts c t u xs ys same part a b = same_part_rows t u xs ys same part a b

pub returns-clause-pairs : goal.returns-clause-pairs
returns-clause-pairs c t u xs ys same is_id a b = same_pair_rows t u xs ys same is_id a b
