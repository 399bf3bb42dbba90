use Rattle.std.proofs.lemmas.Result.{IfOk-weaker}
use Rattle.otap_signals.specs.BySignal.{rows_by}
use Rattle.otap_gateway.proofs.EncodedFrames.{frame_packed, frame_reset}
use Rattle.otap_gateway.proofs.jobs.encode.encode_frame.Goals as goal

pub returns-in-Packed-clause-encodes : goal.returns-in-Packed-clause-encodes
returns-in-Packed-clause-encodes c = rw c.in-Packed.is (IfOk-weaker _ _ _ (frame_packed (rows_by c.args.exporter.now.signal) _ _) c.refused.ensures)

pub returns-in-Reset-clause-encodes : goal.returns-in-Reset-clause-encodes
returns-in-Reset-clause-encodes c =
    rw c.in-Reset.is (IfOk-weaker _ _ _ (λ reply. frame_reset (rows_by c.args.exporter.now.signal) _ _ _ reply c.reset.ensures) c.reset-in-Reset.ensures)

pub returns-in-Reset-clause-signal : goal.returns-in-Reset-clause-signal
returns-in-Reset-clause-signal c = c.reset.ensures.same
