use Rattle.otap_gateway.proofs.FilteredFrames.{has_pairs}
use Rattle.otap_gateway.proofs.jobs.filter.FilterJob.new.Goals as goal

pub new-requires : goal.new-requires
new-requires c = rw (c.signal.ensures, c.whose.ensures) (has_pairs c.args.owner)
