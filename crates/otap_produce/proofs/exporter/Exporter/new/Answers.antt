use Rattle.otap_produce.proofs.Beginning.{is_exporter_begun}
use Rattle.otap_produce.proofs.exporter.Exporter.new.Goals as goal

pub invariant_of-result : goal.invariant_of-result
invariant_of-result c = is_exporter_begun c.args.signal _ _ _ c.in_ok-senders.ensures.kinds c.in_ok-senders.ensures.sent
