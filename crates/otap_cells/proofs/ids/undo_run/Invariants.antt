use Rattle.std.proofs.Common.{◌≡◌, ◌++◌, take, drop, map, length, Some}
use Rattle.otap_cells.specs.declared.profile.Coding.TheVariants.{Run}
use Rattle.otap_cells.specs.Ids.{fits_after, undone_after}
use Rattle.otap_cells.proofs.ids.undo_run.Given as goal

abbrev pub invariant-ids : goal.invariant-ids
invariant-ids l = record {
  fit : fits_after Run l.last l.before (drop l.place l.continues) (drop l.place (map Some l.ids)) ≡ fits_after Run l.last 0 l.continues (map Some l.initial.ids);
  same : take l.place (map Some l.ids) ++ undone_after Run l.last l.before (drop l.place l.continues) (drop l.place (map Some l.ids)) ≡ undone_after Run l.last 0 l.continues (map Some l.initial.ids);
  long : length l.ids ≡ length l.initial.ids;
}
