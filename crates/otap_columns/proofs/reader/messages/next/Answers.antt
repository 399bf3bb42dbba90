use Rattle.otap_columns.proofs.Bringing.{finds_rows, has_readable}
use Rattle.otap_columns.proofs.reader.messages.next.Goals as goal

pub returns-in-Some-Ok-clause-rows : goal.returns-in-Some-Ok-clause-rows
returns-in-Some-Ok-clause-rows c = finds_rows _ _ _ (rw c.in-Some-Ok.field-0-is at c.in-Some-Ok.ensures.message)

pub returns-in-Some-Ok-clause-readable : goal.returns-in-Some-Ok-clause-readable
returns-in-Some-Ok-clause-readable c = has_readable _ _ _ (rw c.in-Some-Ok.field-0-is at c.in-Some-Ok.ensures.message)
