use Rattle.otap_kept.proofs.ComingBack.{back_unordered, unordered_back}
use Rattle.otap_kept.proofs.laws.numbers_fall_where_an_id_comes_back.Goals as goal

pub returns-clause-falls : goal.returns-clause-falls
returns-clause-falls c = unordered_back

pub returns-clause-comes_back : goal.returns-clause-comes_back
returns-clause-comes_back c = back_unordered
