use Rattle.std.proofs.Common.{◌≡◌, find}
use Rattle.otap_columns.specs.Streams.{is_of}
use Rattle.otap_gateway.proofs.jobs.file.payload_of.Given as goal

abbrev pub invariant-payloads : goal.invariant-payloads
invariant-payloads l = find (is_of l.number) l.payload-iterator ≡ find (is_of l.number) l.initial.payload-iterator
