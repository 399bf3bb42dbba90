use Rattle.std.proofs.Common.{rules}
use Rattle.otap_gateway.proofs.FileAdded.{adds_batch}
use Rattle.otap_gateway.proofs.jobs.file.with_batch.Goals as goal

pub returns : goal.returns
returns g c =
    adds_batch (g.R.Rows.table c.args.rows.now) c.args.writer c.add_rows.new.self c.args.batches c.in_ok-batch.batch c.requires.counted c.requires.few (search rules) c.in_ok-batch.ensures.holds c.in_ok-add_rows.ensures.ok
