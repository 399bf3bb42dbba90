use Rattle.std.proofs.Common.{◌≡◌, ◌++◌, take, drop, length}
use Rattle.otap_cells.specs.Ids.{fits_after, undone_after}
use Rattle.otap_cells.proofs.ids.undo.Given as goal

abbrev pub invariant-ids : goal.invariant-ids
invariant-ids l = record {
  fit : fits_after l.how l.last l.before (drop l.place l.continues) (drop l.place l.ids) ≡ fits_after l.how l.last 0 l.continues l.initial.ids;
  same : take l.place l.ids ++ undone_after l.how l.last l.before (drop l.place l.continues) (drop l.place l.ids) ≡ undone_after l.how l.last 0 l.continues l.initial.ids;
  long : length l.ids ≡ length l.initial.ids;
}
