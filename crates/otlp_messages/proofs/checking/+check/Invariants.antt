use Rattle.std.proofs.Common.{◌+◌, ◌*◌, length}
use Rattle.otlp_wire.specs.Wire.{value_of}
use Rattle.otlp_wire.proofs.Readings.{part_len}
use Rattle.otlp_messages.proofs.Steps.{Checked}
use Rattle.otlp_messages.proofs.checking.+check.Given as goal

abbrev pub decreases-check : goal.decreases-check
decreases-check l = 3 * length l.bytes.now

abbrev pub decreases-check_part : goal.decreases-check_part
decreases-check_part l = 3 * length l.part.now + 1

abbrev pub decreases-check_value : goal.decreases-check_value
decreases-check_value l = 3 * part_len (value_of l.value.now) + 2

abbrev pub invariant-check-fields : goal.invariant-check-fields
invariant-check-fields l = Checked l.message l.levels l.bytes l.seen l.next-iterator
