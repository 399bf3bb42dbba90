use Rattle.std.proofs.Common.{◌≡◌, ◌⊎◌, None}
use Rattle.otap_capture.specs.Cutting.{Fills}
use Rattle.otap_capture.specs.Reading.{ahead, IsWaiting, KeepsFew}
use Rattle.otap_capture.proofs.Waiting.{still_to_take}
use Rattle.otap_capture.proofs.frames.Frames.fill.Given as goal

abbrev pub invariant-pieces : goal.invariant-pieces
invariant-pieces g l = record {
  fills : Fills l.initial.self l.self (ahead l.initial.self (g.S.Source.left l.initial.source)) (ahead l.self (g.S.Source.left l.source));
  shown : l.self.frame ≡ None;
  count : g.S.Source.faults l.source ≡ g.S.Source.faults l.initial.source;
  asked : IsWaiting l.initial.self ⊎ (l.self ≡ l.initial.self);
  few : KeepsFew l.initial.self l.self;
}

abbrev pub decreases-pieces : goal.decreases-pieces
decreases-pieces g l = still_to_take l.self
