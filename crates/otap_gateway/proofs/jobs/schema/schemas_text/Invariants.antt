use Rattle.std.proofs.Common.{◌≡◌, ◌++◌, List}
use Rattle.std.specs.List.{flat_map}
use Rattle.lists.specs.Payloads.{PayloadIn}
use Rattle.otap_gateway.specs.Schemas.{BeginWell, payload_lines}
use Rattle.otap_gateway.proofs.jobs.schema.schemas_text.Given as goal

-- the payloads so far come before those that are left, their lines are written, and their records begin well
abbrev pub invariant-payloads : goal.invariant-payloads
invariant-payloads l = record {
  front : List PayloadIn;
  whole : l.initial.payload-iterator ≡ front ++ l.payload-iterator;
  text : l.out.items ≡ l.initial.out.items ++ flat_map payload_lines front;
  well : BeginWell front;
}
