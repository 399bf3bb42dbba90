use Rattle.std.proofs.Common.{◌≡◌, length}
use Rattle.otap_capture.specs.Batch.{payloads_in}
use Rattle.otap_capture.specs.BatchInside.{HasFinePayloads}
use Rattle.otap_capture.proofs.batch.PayloadsIterator.next.Given as goal

abbrev pub invariant-fields : goal.invariant-fields
invariant-fields l = record {
  same : payloads_in l.self-inside.fields ≡ l.fn.self;
  fine : HasFinePayloads l.self-inside.fields;
}

abbrev pub decreases-fields : goal.decreases-fields
decreases-fields l = length l.self-inside.fields
