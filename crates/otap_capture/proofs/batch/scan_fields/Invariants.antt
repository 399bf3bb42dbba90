use Rattle.std.proofs.Common.{◌+◌, ◌≤◌, length}
use Rattle.otap_capture.proofs.BatchFields.{Scanned}
use Rattle.otap_capture.proofs.batch.scan_fields.Given as goal

abbrev pub invariant-fields : goal.invariant-fields
invariant-fields l = record {
  scanned : Scanned l.bytes l.scan l.next-iterator;
  few : l.scan.count + length l.next-iterator ≤ length l.bytes;
}
