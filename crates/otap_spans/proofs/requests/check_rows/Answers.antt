use Rattle.std.proofs.Common.{refl}
use Rattle.otap_spans.proofs.SpansRegrouped.{no_spans}
use Rattle.otap_spans.proofs.requests.check_rows.Goals as goal

pub returns-in_default-clause-weight : goal.returns-in_default-clause-weight
returns-in_default-clause-weight g c = rw (no_spans c.args.set.now c.in_default.ensures.table) refl
