use Rattle.std.proofs.Common.{◌∙◌, ap}
use Rattle.arrow_ipc.specs.Fronts.{record_batch_in}
use Rattle.arrow_ipc.proofs.Fronting.{rows_some, rows_none}
use Rattle.arrow_ipc.proofs.messages.rows_at.Goals as goal

pub returns-clause-some : goal.returns-clause-some
returns-clause-some c = rows_some _ c.rows-batch.result (c.rows-batch.ensures ∙ ap record_batch_in c.rest.ensures)

pub returns-clause-none : goal.returns-clause-none
returns-clause-none c = rows_none _ c.rows-batch.result (c.rows-batch.ensures ∙ ap record_batch_in c.rest.ensures)
