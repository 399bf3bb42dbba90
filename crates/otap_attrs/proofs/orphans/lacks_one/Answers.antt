use Rattle.otap_attrs.proofs.Parentless.{none_lacks}
use Rattle.otap_attrs.proofs.orphans.lacks_one.Goals as goal

pub returns-clause-no : goal.returns-clause-no
returns-clause-no c = λ _. none_lacks c.args.parents.now c.args.sorted.now c.parents.parent-index c.parents-test.false c.parents.invariant
