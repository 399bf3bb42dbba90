use Rattle.std.proofs.Common.{◌≡◌, ◌++◌, List}
use Rattle.lists.specs.Payloads.{PayloadIn}
use Rattle.otap_consume.specs.Streams.{kinds_in}
use Rattle.otap_consume.specs.Records.{TakesPayloads}
use Rattle.otap_consume.proofs.records.take_records.Given as goal

-- the payloads so far are taken, and come before those that are left
abbrev pub invariant-payloads : goal.invariant-payloads
invariant-payloads l = record {
  front : List PayloadIn;
  whole : l.initial.payload-iterator ≡ front ++ l.payload-iterator;
  takes : TakesPayloads l.initial.streams front l.streams;
  kinds : kinds_in l.streams ≡ kinds_in l.initial.streams;
}
