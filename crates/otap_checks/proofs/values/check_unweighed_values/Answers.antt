use Rattle.std.proofs.Common.{subst}
use Rattle.otap_cells.specs.Named.{table_named}
use Rattle.otap_attrs.specs.Defects.{WrongValue}
use Rattle.otap_checks.proofs.values.check_unweighed_values.Goals as goal

pub returns-then-column-eq-TYPE-clause-ok : goal.returns-then-column-eq-TYPE-clause-ok
returns-then-column-eq-TYPE-clause-ok g c = λ why wrong.
    let has = c.in-Some.ensures c.args.set.now c.requires.weights in
    has.fine why (subst (λ column. WrongValue (table_named c.args.kind c.args.set.now) column why) c.if-column-eq-TYPE.true wrong)
