use Rattle.std.proofs.Common.{◌≡◌, drop}
use Rattle.otlp_model.specs.Walk.{left}
use Rattle.otlp_model.proofs.Places.{steps}
use Rattle.otlp_model.proofs.walk.ItemCursor.run.Given as goal

abbrev pub invariant-loop-self : goal.invariant-loop-self
invariant-loop-self g l = record {
  groups : l.self.groups ≡ l.initial.self.groups;
  left : left l.self.groups.now l.self.group l.self.scope l.self.item
      ≡ left l.initial.self.groups.now l.initial.self.group l.initial.self.scope l.initial.self.item;
}

abbrev pub decreases-loop-self : goal.decreases-loop-self
decreases-loop-self g l = steps (drop l.self.group l.self.groups.now) l.self.scope
