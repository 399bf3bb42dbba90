use Rattle.otap_checks.proofs.values.check_values.Goals as goal

pub returns-in-Ok-clause-ok : goal.returns-in-Ok-clause-ok
returns-in-Ok-clause-ok g c = rw c.in-Some.ensures.table c.in-Ok.ensures.ok
