use Rattle.std.proofs.Common.{◌≡◌, ◌++◌, List}
use Rattle.std.specs.List.{AllByRecursion}
use Rattle.lists.specs.Payloads.{PayloadIn}
use Rattle.otap_consume.specs.PayloadTypes.{IsFineType}
use Rattle.otap_consume.proofs.payload_types.check_types.Given as goal

-- the payloads so far are fine, and come before those that are left
abbrev pub invariant-payloads : goal.invariant-payloads
invariant-payloads l = record {
  front : List PayloadIn;
  whole : l.initial.payload-iterator ≡ front ++ l.payload-iterator;
  fine : AllByRecursion (IsFineType l.signal l.initial.payload-iterator) front;
}
