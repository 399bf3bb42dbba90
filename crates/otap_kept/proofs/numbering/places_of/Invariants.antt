use Rattle.std.proofs.Common.{◌≡◌, ◌++◌, drop}
use Rattle.otap_groups.specs.Inside.{entries_from}
use Rattle.otap_kept.proofs.numbering.places_of.Given as goal

abbrev pub invariant-ids : goal.invariant-ids
invariant-ids l = l.entries.items ++ entries_from l.place (drop l.place l.ids) ≡ entries_from 0 l.ids
