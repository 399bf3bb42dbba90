use Rattle.std.proofs.Common.{◌≡◌, ◌+◌, cond}
use Rattle.otap_consume.specs.PayloadTypes.{times}
use Rattle.otap_consume.proofs.payload_types.occurs_twice.Given as goal

abbrev pub invariant-payloads : goal.invariant-payloads
invariant-payloads l = cond l.found 1 0 + times l.kind l.payload-iterator ≡ times l.kind l.initial.payload-iterator
