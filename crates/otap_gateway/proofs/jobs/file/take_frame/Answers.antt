use Rattle.std.proofs.Common.{rules}
use Rattle.std.proofs.lemmas.Result.{IfOk-weaker}
use Rattle.otap_gateway.proofs.FiledBatches.{frame_batch, frame_refused, frame_reset, has_accepted}
use Rattle.otap_gateway.proofs.jobs.file.take_frame.Goals as goal

pub take_batch-requires-clause-accepted : goal.take_batch-requires-clause-accepted
take_batch-requires-clause-accepted c =
    has_accepted c.args.kind _ c.args.segment.now c.take.new.self c.in_ok-returned.ensures.signal c.args.substream.now _ _ (rw c.in-Batch.is at c.in_ok-returned.ensures.next)
    (rw c.in-Batch.is at c.in_ok-returned.ensures.taken) c.requires

pub returns-in_ok-take_batch-in-Batch-clause-takes : goal.returns-in_ok-take_batch-in-Batch-clause-takes
returns-in_ok-take_batch-in-Batch-clause-takes c =
    frame_batch c.args.kind _ c.args.segment.now c.take.new.self c.in_ok-returned.ensures.signal c.args.substream.now c.take_batch.new.self _ _ c.args.number _
    (rw c.in-Batch.is at c.in_ok-returned.ensures.next) c.in_ok-take_batch-in-Batch.ensures (search rules)

pub returns-in-Refused-clause-takes : goal.returns-in-Refused-clause-takes
returns-in-Refused-clause-takes c =
    IfOk-weaker _ _ _ (λ reply says. frame_refused c.args.kind _ c.args.segment.now c.take.new.self c.in_ok-returned.ensures.signal c.args.substream.now c.in-Refused.refusal c.args.number reply
    (rw c.in-Refused.is at c.in_ok-returned.ensures.next) says) c.refused.ensures

pub returns-in-Reset-clause-takes : goal.returns-in-Reset-clause-takes
returns-in-Reset-clause-takes c =
    frame_reset c.args.kind _ c.args.segment.now c.take.new.self c.in_ok-returned.ensures.signal c.args.substream.now c.reset.new.self c.args.number _
    (rw c.in-Reset.is at c.in_ok-returned.ensures.next) (search rules) (search rules) (search rules) (search rules)
