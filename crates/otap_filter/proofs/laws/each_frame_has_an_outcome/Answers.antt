use Rattle.std.proofs.Common.{[]}
use Rattle.otap_filter.specs.Filtering.{outcomes_in}
use Rattle.otap_filter.proofs.Answered.{answered, are_received}
use Rattle.otap_filter.proofs.laws.each_frame_has_an_outcome.Goals as goal

pub returns : goal.returns
returns c = λ of whose pair frames given frame bytes is_bytes each.
    let some = c.received_some_outcome.ensures.next of frames (outcomes_in given) frame bytes is_bytes (are_received of whose pair [] [] frames given each) in
    record { outcome = some.0; received = some.1; answered = answered of whose pair given some.0 }
