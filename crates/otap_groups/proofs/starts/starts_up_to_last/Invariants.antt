use Rattle.otap_groups.proofs.StartLaws.{StartsBefore}
use Rattle.otap_groups.proofs.starts.starts_up_to_last.Given as goal

abbrev pub invariant-entries : goal.invariant-entries
invariant-entries l = StartsBefore l.entries l.starts.items l.place
