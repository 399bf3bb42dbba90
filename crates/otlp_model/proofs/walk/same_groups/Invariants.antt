use Rattle.std.proofs.Common.{length}
use Rattle.std.specs.Prelude.{◌↔◌}
use Rattle.std.specs.List.{AllZip}
use Rattle.otlp_model.specs.Same.{SameEntry}
use Rattle.otlp_model.specs.Telemetry.{item_entries}
use Rattle.otlp_model.specs.Walk.{left}
use Rattle.otlp_model.proofs.Runs.{Compared}
use Rattle.otlp_model.proofs.walk.same_groups.Given as goal

abbrev pub invariant-runs : goal.invariant-runs
invariant-runs g l = record {
  same : AllZip (SameEntry g.I.Alike.alike) (left l.left.groups.now l.left.group l.left.scope l.left.item)
      (left l.right.groups.now l.right.group l.right.scope l.right.item)
      ↔ AllZip (SameEntry g.I.Alike.alike) (item_entries l.a) (item_entries l.b);
  compared : Compared l.left.groups.now l.right.groups.now l.compared.0 l.compared.1;
}

abbrev pub decreases-runs : goal.decreases-runs
decreases-runs g l = length (left l.left.groups.now l.left.group l.left.scope l.left.item)
