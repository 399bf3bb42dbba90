use Rattle.otap_cells.proofs.IdLaws.{one_list}
use Rattle.otap_cells.proofs.laws.numbers_stand_for_one_list.Goals as goal

pub returns : goal.returns
returns c = λ how last rows numbers a b. one_list how last 0 rows numbers a b
