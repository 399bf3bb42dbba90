use Rattle.std.proofs.Common.{◌≡◌, ◌++◌}
use Rattle.std.specs.List.{flat_map}
use Rattle.otap_gateway.specs.Listing.{payload_text}
use Rattle.otap_gateway.proofs.jobs.list.push_payloads.Given as goal

abbrev pub invariant-payloads : goal.invariant-payloads
invariant-payloads l = l.line.items ++ flat_map payload_text l.payload-iterator ≡ l.initial.line.items ++ flat_map payload_text l.initial.payload-iterator
