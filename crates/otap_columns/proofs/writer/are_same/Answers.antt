use Rattle.std.proofs.lemmas.Slice.Eq.{slice_eq-Decides}
use Rattle.otap_columns.proofs.StateMade.{form_decides}
use Rattle.otap_columns.proofs.writer.are_same.Goals as goal

pub returns-clause-yes : goal.returns-clause-yes
returns-clause-yes c = (slice_eq-Decides form_decides c.args.before.now c.args.after.now c.eq.result c.eq.ensures).0

pub returns-clause-no : goal.returns-clause-no
returns-clause-no c = (slice_eq-Decides form_decides c.args.before.now c.args.after.now c.eq.result c.eq.ensures).1
