use Rattle.std.proofs.Common.{◌≡◌, ◌++◌, take, drop, map, length, Some}
use Rattle.otap_cells.specs.declared.profile.Coding.TheVariants.{Run}
use Rattle.otap_cells.specs.Ids.{RiseAfter}
use Rattle.otap_cells.specs.Inside.{stored_after}
use Rattle.otap_cells.proofs.ids.run_ids.Given as goal

abbrev pub invariant-ids : goal.invariant-ids
invariant-ids l = record {
  rise : RiseAfter Run l.before (drop l.place l.continues) (drop l.place (map Some l.ids));
  same : take l.place (map Some l.ids) ++ stored_after Run l.before (drop l.place l.continues) (drop l.place (map Some l.ids)) ≡ stored_after Run 0 l.continues (map Some l.initial.ids);
  long : length l.ids ≡ length l.initial.ids;
}
