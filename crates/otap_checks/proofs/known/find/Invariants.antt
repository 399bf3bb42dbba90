use Rattle.std.proofs.Common.{◌≡◌, drop}
use Rattle.otap_checks.specs.Known.{ids_named}
use Rattle.otap_checks.proofs.known.find.Given as goal

abbrev pub invariant-known : goal.invariant-known
invariant-known l = ids_named l.kind l.column (drop l.ids-index l.known) ≡ ids_named l.kind l.column l.fn.known
