use Rattle.std.proofs.lemmas.Result.{IfOk-weaker}
use Rattle.otap_gateway.proofs.FileAdded.{closes_many, closes_none, closes_some}
use Rattle.otap_gateway.proofs.runs.filing.closing_of.Goals as goal

pub returns-in-Empty : goal.returns-in-Empty
returns-in-Empty c = rw c.in-Empty.is (IfOk-weaker _ _ _ closes_none c.no_substream.ensures)

pub returns-in-TooMany : goal.returns-in-TooMany
returns-in-TooMany c = rw c.in-TooMany.is (IfOk-weaker _ _ _ closes_many c.too_many_batches.ensures)

pub returns-in_ok-bytes-in-Written : goal.returns-in_ok-bytes-in-Written
returns-in_ok-bytes-in-Written c = rw (c.in-Written.is, c.on_out.ensures) (closes_some _ _ _ c.in_ok-bytes-in-Written.ensures)
