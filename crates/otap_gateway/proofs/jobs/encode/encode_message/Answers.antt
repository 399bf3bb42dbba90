use Rattle.std.proofs.Common.{arith}
use Rattle.std.proofs.lemmas.List.{get_or_default}
use Rattle.std.proofs.lemmas.Result.{IfOk-weaker}
use Rattle.lists.proofs.RealBytes.{real_octets}
use Rattle.otap_signals.specs.BySignal.{rows_by}
use Rattle.otap_gateway.proofs.EncodedFrames.{frame_named, frame_read}
use Rattle.otap_gateway.proofs.jobs.encode.encode_message.Goals as goal

pub encode_request-requires-clause-light : goal.encode_request-requires-clause-light
encode_request-requires-clause-light c =
    let reads = rw c.signal.ensures at c.in-Ok.ensures.reads in
    c.read_is_light.ensures c.args.exporter.now.signal c.args.bytes.now c.in-Ok.request reads

pub encode_request-requires-clause-real : goal.encode_request-requires-clause-real
encode_request-requires-clause-real c =
    let reads = rw c.signal.ensures at c.in-Ok.ensures.reads in
    let bytes = real_octets c.args.bytes.now (λ k d low. omega (arith, c.type_inv.bytes k, get_or_default c.args.bytes.now k d 0 low)) (omega arith) in
    c.read_is_real.ensures c.args.exporter.now.signal c.args.bytes.now c.in-Ok.request bytes reads

pub returns-in_ok-reply-in-Ok-clause-encodes : goal.returns-in_ok-reply-in-Ok-clause-encodes
returns-in_ok-reply-in-Ok-clause-encodes c =
    let reads = rw c.signal.ensures at c.in-Ok.ensures.reads in
    frame_read (rows_by c.args.exporter.now.signal) _ _ _ _ _ _ reads c.in_ok-reply-in-Ok.ensures.encodes

pub returns-in_ok-refusal_name-in-Err-clause-encodes : goal.returns-in_ok-refusal_name-in-Err-clause-encodes
returns-in_ok-refusal_name-in-Err-clause-encodes c =
    let so = rw c.signal.ensures at c.in-Err.ensures.fault in
    IfOk-weaker _ _ _ (frame_named (rows_by c.args.exporter.now.signal) _ _ _ _ _ c.in_ok-refusal_name-in-Err.ensures so) c.refused.ensures
