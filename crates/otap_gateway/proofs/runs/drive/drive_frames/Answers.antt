use Rattle.std.proofs.Common.{◌∙◌, arith, refl}
use Rattle.std.proofs.lemmas.Result.{err_from_is_err_and}
use Rattle.otap_gateway.specs.Endings.{RuleOf, BegunBy}
use Rattle.otap_gateway.specs.Runs.{sinks, world}
use Rattle.otap_gateway.specs.Turns.{world_ahead}
use Rattle.otap_gateway.proofs.Progress.{progress_all, progress_more, progress_part, progress_settled, progress_stops, so_far, none_failed-trans}
use Rattle.otap_gateway.proofs.runs.drive.drive_frames.Goals as goal

pub frames-preserved : goal.frames-preserved
frames-preserved g c =
    let kept = c.frames.invariant in
    let R = RuleOf (g.H.Handler.task c.args.handler.now) in
    let before = world g.S.Source c.args.source.now (sinks g.O.Sink c.args.out.now g.E.Sink c.args.err.now) in
    let now = world_ahead c.frames.frames g.S.Source c.frames.source (sinks g.O.Sink c.frames.out g.E.Sink c.frames.err) in
    let settled = world_ahead c.frames.frames g.S.Source c.frames.source (sinks g.O.Sink c.settle.new.out g.E.Sink c.settle.new.err) in
    let turn = rw (c.in-Frame.is, kept.same) at c.in_ok-handled.ensures.turns in
    let further = turn.takes.further in
    record {
      same = c.in_ok-handled.ensures.same ∙ kept.same;
      so_far = progress_more R before settled (progress_settled R before now settled.sinks kept.so_far c.in_ok-unflushed.ensures.settles) turn;
      goes_on = turn.takes.goes_on;
      room = let room = kept.room in omega arith;
      source = let source = c.in_ok-handled.ensures.faults.0 in let before = kept.source in omega arith;
      faults = none_failed-trans before.sinks settled.sinks _ (none_failed-trans before.sinks now.sinks _ kept.faults c.in_ok-unflushed.ensures.faults) c.in_ok-handled.ensures.faults.1;
    }

pub returns-in-End-clause-drives : goal.returns-in-End-clause-drives
returns-in-End-clause-drives g c =
    let R = RuleOf (g.H.Handler.task c.args.handler.now) in
    let before = world g.S.Source c.args.source.now (sinks g.O.Sink c.args.out.now g.E.Sink c.args.err.now) in
    let now = world_ahead c.frames.frames g.S.Source c.frames.source (sinks g.O.Sink c.frames.out g.E.Sink c.frames.err) in
    let settled = world_ahead c.frames.frames g.S.Source c.frames.source (sinks g.O.Sink c.settle.new.out g.E.Sink c.settle.new.err) in
    let untouched = rw c.in-End.is at c.in_ok-handled.ensures.stays in
    rw untouched (progress_all R before settled (progress_settled R before now settled.sinks c.frames.invariant.so_far c.in_ok-unflushed.ensures.settles) (rw c.in-End.is at c.in_ok-handled.ensures.turns))

pub returns-in_err-unflushed-clause-drives : goal.returns-in_err-unflushed-clause-drives
returns-in_err-unflushed-clause-drives g c =
    let p = err_from_is_err_and c.from_residual.result c.from_residual.ensures.1 in
    let R = RuleOf (g.H.Handler.task c.args.handler.now) in
    let B = BegunBy (g.H.Handler.task c.args.handler.now) in
    let before = world g.S.Source c.args.source.now (sinks g.O.Sink c.args.out.now g.E.Sink c.args.err.now) in
    let now = world_ahead c.frames.frames g.S.Source c.frames.source (sinks g.O.Sink c.frames.out g.E.Sink c.frames.err) in
    rw p.1 (so_far R B before now _ c.frames.invariant.so_far c.in_err-unflushed.ensures.settles)

pub returns-in_err-handled-clause-drives : goal.returns-in_err-handled-clause-drives
returns-in_err-handled-clause-drives g c =
    let p = err_from_is_err_and c.from_residual-in_err-handled.result c.from_residual-in_err-handled.ensures.1 in
    let R = RuleOf (g.H.Handler.task c.args.handler.now) in
    let B = BegunBy (g.H.Handler.task c.args.handler.now) in
    let before = world g.S.Source c.args.source.now (sinks g.O.Sink c.args.out.now g.E.Sink c.args.err.now) in
    let now = world_ahead c.frames.frames g.S.Source c.frames.source (sinks g.O.Sink c.frames.out g.E.Sink c.frames.err) in
    let settled = world_ahead c.frames.frames g.S.Source c.frames.source (sinks g.O.Sink c.settle.new.out g.E.Sink c.settle.new.err) in
    rw p.1 (progress_part R B before settled (progress_settled R before now settled.sinks c.frames.invariant.so_far c.in_ok-unflushed.ensures.settles)
    (rw c.frames.invariant.same at c.in_err-handled.ensures.turns))

pub returns-in_err-handled-clause-stops : goal.returns-in_err-handled-clause-stops
returns-in_err-handled-clause-stops g c =
    let p = err_from_is_err_and c.from_residual-in_err-handled.result c.from_residual-in_err-handled.ensures.1 in
    let R = RuleOf (g.H.Handler.task c.args.handler.now) in
    let before = world g.S.Source c.args.source.now (sinks g.O.Sink c.args.out.now g.E.Sink c.args.err.now) in
    let now = world_ahead c.frames.frames g.S.Source c.frames.source (sinks g.O.Sink c.frames.out g.E.Sink c.frames.err) in
    let settled = world_ahead c.frames.frames g.S.Source c.frames.source (sinks g.O.Sink c.settle.new.out g.E.Sink c.settle.new.err) in
    let after = world_ahead c.take_turn.new.frames g.S.Source c.take_turn.new.source (sinks g.O.Sink c.take_turn.new.out g.E.Sink c.take_turn.new.err) in
    rw (p.1, p.2) (progress_stops R before settled c.frames.frames c.take_turn.new.frames (g.S.Source.left c.take_turn.new.source) (g.S.Source.faults c.take_turn.new.source) after c.in_err-handled.field-0.0
    (progress_settled R before now settled.sinks c.frames.invariant.so_far c.in_ok-unflushed.ensures.settles) c.in_ok-unflushed.ensures.settles.asks c.in_err-handled.ensures.asks refl)
