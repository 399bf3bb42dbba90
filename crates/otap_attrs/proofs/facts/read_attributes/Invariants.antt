use Rattle.std.proofs.Common.{◌≡◌, ◌-◌, true, [], drop, take}
use Rattle.std.specs.List.{slice_index_or}
use Rattle.otap_cells.specs.Continuing.{attribute_in, continues_in, seen_attribute}
use Rattle.otap_attrs.specs.Facts.{HasWeightsSoFar}
use Rattle.otap_attrs.proofs.facts.read_attributes.Given as goal

-- `before` is the row before the next one
abbrev pub invariant-rows : goal.invariant-rows
invariant-rows g l = record {
  continues : l.found.continues.items ≡ take l.row (continues_in (g.R.Rows.table l.rows));
  weights : l.found.fine ≡ true → HasWeightsSoFar (g.R.Rows.table l.rows).rows l.row l.found.weights.items;
  before : seen_attribute l.before ≡ attribute_in (drop 1 (slice_index_or (g.R.Rows.table l.rows).rows (l.row - 1) []));
}
