use Rattle.std.proofs.Common.{◌≡◌, ◌++◌, drop, None}
use Rattle.otap_kept.specs.Numbering.{runs_after}
use Rattle.otap_kept.proofs.first_ids.runs_of.Given as goal

abbrev pub invariant-ids : goal.invariant-ids
invariant-ids l = l.runs.items ++ runs_after l.last (drop l.place l.ids) ≡ runs_after None l.ids
