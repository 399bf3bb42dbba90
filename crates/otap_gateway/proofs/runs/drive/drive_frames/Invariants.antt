use Rattle.std.proofs.Common.{◌≡◌, ◌-◌, ◌*◌, ◌≤◌, None}
use Rattle.otap_capture.specs.Capture.{capture_limit}
use Rattle.otap_gateway.specs.Endings.{RuleOf}
use Rattle.otap_gateway.specs.Runs.{sinks, world, NoneFailed}
use Rattle.otap_gateway.specs.Turns.{world_ahead}
use Rattle.otap_gateway.proofs.Progress.{Progress}
use Rattle.otap_gateway.proofs.runs.drive.drive_frames.Given as goal

abbrev pub invariant-frames : goal.invariant-frames
invariant-frames g l =
    let before = sinks g.O.Sink l.initial.out g.E.Sink l.initial.err in
    let now = sinks g.O.Sink l.out g.E.Sink l.err in
    record {
      same : g.H.Handler.task l.handler ≡ g.H.Handler.task l.initial.handler;
      so_far : Progress (RuleOf (g.H.Handler.task l.initial.handler)) (g.H.Handler.histories l.handler) (world g.S.Source l.initial.source before) (world_ahead l.frames g.S.Source l.source now)
          l.frames.handed l.number l.refused l.unflushed;
      goes_on : l.frames.ended ≡ None;
      room : 5 * l.number ≤ l.frames.handed;
      source : g.S.Source.faults l.source ≡ g.S.Source.faults l.initial.source;
      faults : NoneFailed before now;
    }

abbrev pub decreases-frames : goal.decreases-frames
decreases-frames g l = capture_limit - l.frames.handed
