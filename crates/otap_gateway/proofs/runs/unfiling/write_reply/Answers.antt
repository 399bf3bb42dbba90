use Rattle.std.proofs.Common.{refl}
use Rattle.std.proofs.lemmas.Result.{err_from_is_err_and}
use Rattle.otap_gateway.proofs.UnfiledBatches.{frames_fit}
use Rattle.otap_gateway.proofs.UnfiledRuns.{opens_part, opens_whole, refused_part, refused_stop, refused_whole}
use Rattle.otap_gateway.proofs.runs.unfiling.write_reply.Goals as goal

pub write_batches-requires : goal.write_batches-requires
write_batches-requires g c = frames_fit c.args.bytes.now c.in-Ok.file c.in-Ok.ensures.short c.in-Ok.ensures.file

pub returns-in_err-write_batches-in-Ok-clause-replies : goal.returns-in_err-write_batches-in-Ok-clause-replies
returns-in_err-write_batches-in-Ok-clause-replies g c =
    let p = err_from_is_err_and c.from_residual.result c.from_residual.ensures.1 in
    rw (p.1, p.2) (opens_part c.args.kind c.args.bytes.now _ _ c.in-Ok.file _ c.in-Ok.ensures.short c.in-Ok.ensures.file c.in_err-write_batches-in-Ok.ensures.writes refl
    c.in_err-write_batches-in-Ok.ensures.faults)

pub returns-in_err-write_whole-in-Err-clause-replies : goal.returns-in_err-write_whole-in-Err-clause-replies
returns-in_err-write_whole-in-Err-clause-replies g c =
    let p = err_from_is_err_and c.from_residual-in_err-write_whole-in-Err.result c.from_residual-in_err-write_whole-in-Err.ensures.1 in
    rw (p.1, p.2) (refused_stop c.args.kind c.args.bytes.now _ _ _ (refused_part c.args.kind c.args.bytes.now _ _ c.in-Err.refusal _ c.in-Err.ensures.refused c.in-Ok-refusal_line.ensures.known
    c.in-Ok-refusal_line.ensures.text (rw c.deref.ensures.value at c.in_err-write_whole-in-Err.ensures.front) refl))

pub returns-in_ok-write_batches-in-Ok-clause-replies : goal.returns-in_ok-write_batches-in-Ok-clause-replies
returns-in_ok-write_batches-in-Ok-clause-replies g c =
    opens_whole c.args.kind c.args.bytes.now _ _ c.in-Ok.file c.in-Ok.ensures.short c.in-Ok.ensures.file c.in_ok-write_batches-in-Ok.ensures.writes refl

pub returns-in_ok-write_whole-in-Err-clause-replies : goal.returns-in_ok-write_whole-in-Err-clause-replies
returns-in_ok-write_whole-in-Err-clause-replies g c =
    refused_whole c.args.kind c.args.bytes.now _ _ c.in-Err.refusal _ c.in-Err.ensures.refused c.in-Ok-refusal_line.ensures.known c.in-Ok-refusal_line.ensures.text
    (rw c.deref.ensures.value at c.in_ok-write_whole-in-Err.ensures.whole) refl
