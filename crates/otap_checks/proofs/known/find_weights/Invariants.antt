use Rattle.otap_checks.proofs.known.find_weights.Given as goal

abbrev pub invariant-known : goal.invariant-known
invariant-known l = Unit {0}
