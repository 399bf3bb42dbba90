use Rattle.std.proofs.Common.{◌≡◌, ◌<◌, ◌∙◌, arith}
use Rattle.std.proofs.lemmas.Result.{err_from_is_err_and}
use Rattle.lists.proofs.Known.{Keeps-refl}
use Rattle.otap_signals.specs.BySignal.{rows_by}
use Rattle.otap_gateway.specs.Runs.{sinks}
use Rattle.otap_gateway.proofs.LoadRuns.{sent_more, leaves_none, leaves_early, leaves_frame, leaves_line, leaves_load}
use Rattle.otap_gateway.proofs.runs.selfrun.run_load.Goals as goal

pub returns-in_default-clause-leaves : goal.returns-in_default-clause-leaves
returns-in_default-clause-leaves g c = leaves_none c.args.load _

pub returns-in_default-next_message-clause-leaves : goal.returns-in_default-next_message-clause-leaves
returns-in_default-next_message-clause-leaves g c =
    let before = sinks g.O.Sink c.args.out.now g.E.Sink c.args.err.now in
    let now = sinks g.O.Sink c.requests.out g.E.Sink c.args.err.now in
    let part : c.requests.request < c.args.load.requests = c.requests-test.true in
    leaves_early c.args.load before now c.requests.request _ (omega arith) c.requests.invariant.sent (Keeps-refl _)

pub returns-in_err-write_frame-clause-leaves : goal.returns-in_err-write_frame-clause-leaves
returns-in_err-write_frame-clause-leaves g c =
    let p = err_from_is_err_and c.from_residual.result c.from_residual.ensures.1 in
    let before = sinks g.O.Sink c.args.out.now g.E.Sink c.args.err.now in
    let now = sinks g.O.Sink c.write_frame.new.sink g.E.Sink c.args.err.now in
    rw p.1 (leaves_frame c.args.load before now (g.O.Sink.written c.requests.out) c.requests.request _ _
    c.in-Ok-next_message.message.items c.requests-test.true c.requests.invariant.sent c.in-Ok-next_message.ensures (rw c.deref.ensures.value at c.in_err-write_frame.ensures.front) (Keeps-refl _))

pub requests-preserved : goal.requests-preserved
requests-preserved g c =
    let before = sinks g.O.Sink c.args.out.now g.E.Sink c.args.err.now in
    let now = sinks g.O.Sink c.requests.out g.E.Sink c.args.err.now in
    let after = sinks g.O.Sink c.write_frame.new.sink g.E.Sink c.args.err.now in
    record {
      sent = sent_more (rows_by c.args.load.signal) c.requests.request before.out.written now.out.written after.out.written _ _ c.in-Ok-next_message.message.items c.requests.invariant.sent c.in-Ok-next_message.ensures
          (rw c.deref.ensures.value at c.in_ok-write_frame.ensures.whole);
      faults = record { out = c.in_ok-write_frame.ensures.count ∙ c.requests.invariant.faults.out; err = c.requests.invariant.faults.err };
    }

pub returns-in_default-load_line-clause-leaves : goal.returns-in_default-load_line-clause-leaves
returns-in_default-load_line-clause-leaves g c =
    let before = sinks g.O.Sink c.args.out.now g.E.Sink c.args.err.now in
    let now = sinks g.O.Sink c.requests.out g.E.Sink c.args.err.now in
    leaves_early c.args.load before now
    c.requests.request _ (omega (arith, c.requests.auto.request-end)) c.requests.invariant.sent (Keeps-refl _)

pub returns-in_err-write_whole-clause-leaves : goal.returns-in_err-write_whole-clause-leaves
returns-in_err-write_whole-clause-leaves g c =
    let p = err_from_is_err_and c.from_residual-in_err-write_whole.result c.from_residual-in_err-write_whole.ensures.1 in
    let before = sinks g.O.Sink c.args.out.now g.E.Sink c.args.err.now in
    let now = sinks g.O.Sink c.requests.out g.E.Sink c.write_whole.new.sink in
    let all : c.requests.request ≡ c.args.load.requests = omega (arith, c.requests-test.false, c.requests.auto.request-end) in
    let sent = rw all at c.requests.invariant.sent in
    let text = rw (c.openings.ensures.count) at (c.as_bytes.ensures.value ∙ c.in-Ok-load_line.ensures) in
    rw p.1 (leaves_line c.args.load (c.requests_have_their_items.ensures.items c.args.load.signal)
    before now c.items_of-items.result _ c.items_of-items.ensures sent (rw text at c.in_err-write_whole.ensures.front))

pub returns-clause-leaves : goal.returns-clause-leaves
returns-clause-leaves g c =
    let before = sinks g.O.Sink c.args.out.now g.E.Sink c.args.err.now in
    let now = sinks g.O.Sink c.flush_both.new.out g.E.Sink c.flush_both.new.err in
    let all : c.requests.request ≡ c.args.load.requests = omega (arith, c.requests-test.false, c.requests.auto.request-end) in
    let sent = rw all at c.requests.invariant.sent in
    let text = rw (c.openings.ensures.count) at (c.as_bytes.ensures.value ∙ c.in-Ok-load_line.ensures) in
    leaves_load c.args.load (c.requests_have_their_items.ensures.items c.args.load.signal)
    before now (g.O.Sink.written c.requests.out) (g.E.Sink.written c.write_whole.new.sink) c.items_of-items.result _ c.flush_both.result c.items_of-items.ensures sent
    (rw text at c.in_ok-write_whole.ensures.whole) c.flush_both.ensures.out c.flush_both.ensures.err c.flush_both.ensures.flushed
