use Rattle.std.proofs.Common.{◌≡◌, ◌+◌, length}
use Rattle.otlp_wire.specs.Varint.{varint}
use Rattle.otlp_wire.proofs.varint.len_varint.Given as goal

abbrev pub invariant-sevens : goal.invariant-sevens
invariant-sevens l = l.len + length (varint l.rest) ≡ length (varint l.value) + 1

abbrev pub decreases-sevens : goal.decreases-sevens
decreases-sevens l = l.rest
