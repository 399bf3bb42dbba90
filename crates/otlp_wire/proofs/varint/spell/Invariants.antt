use Rattle.otlp_wire.proofs.Shortest.{Spelled}
use Rattle.otlp_wire.proofs.varint.spell.Given as goal

abbrev pub invariant-sevens : goal.invariant-sevens
invariant-sevens l = Spelled l.bytes l.len l.rest l.value

abbrev pub decreases-sevens : goal.decreases-sevens
decreases-sevens l = l.rest
