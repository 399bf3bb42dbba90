use Rattle.std.proofs.Common.{◌≡◌, ◌++◌, take, drop, length}
use Rattle.otap_cells.specs.Ids.{RiseAfter}
use Rattle.otap_cells.specs.Inside.{stored_after}
use Rattle.otap_cells.proofs.ids.code.Given as goal

abbrev pub invariant-ids : goal.invariant-ids
invariant-ids l = record {
  rise : RiseAfter l.how l.before (drop l.place l.continues) (drop l.place l.ids);
  same : take l.place l.ids ++ stored_after l.how l.before (drop l.place l.continues) (drop l.place l.ids) ≡ stored_after l.how 0 l.continues l.initial.ids;
  long : length l.ids ≡ length l.initial.ids;
}
