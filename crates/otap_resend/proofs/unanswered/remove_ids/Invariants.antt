use Rattle.std.specs.Prelude.{◌≡◌}
use Rattle.otap_resend.proofs.Removing.{reset_to}
use Rattle.otap_resend.proofs.unanswered.remove_ids.Given as goal

abbrev pub invariant-requests : goal.invariant-requests
invariant-requests l = l.requests ≡ reset_to l.request-index l.initial.requests
