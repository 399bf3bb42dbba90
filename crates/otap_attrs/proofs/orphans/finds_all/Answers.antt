use Rattle.otap_attrs.proofs.Parentless.{none_missing}
use Rattle.otap_attrs.proofs.orphans.finds_all.Goals as goal

pub returns : goal.returns
returns c = λ _. none_missing c.args.parents.now c.args.ids.now c.parents.parent-index c.parents-test.false c.parents.invariant.there
