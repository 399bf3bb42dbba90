use Rattle.std.proofs.Common.{◌≡◌}
use Rattle.otlp_wire.specs.Fields.{end_of}
use Rattle.otap_capture.specs.SendEvents.{parts}
use Rattle.otap_capture.proofs.event.read_event.Given as goal

-- no field so far is the request or the status
abbrev pub invariant-fields : goal.invariant-fields
invariant-fields l = record {
  requests : parts 1 l.next-iterator ≡ parts 1 l.bytes;
  statuses : parts 2 l.next-iterator ≡ parts 2 l.bytes;
  end : end_of l.next-iterator ≡ end_of l.bytes;
}
