use Rattle.std.proofs.Common.{◌≡◌, ◌+◌, ◌*◌, ◌≤◌, length, vec_capacity}
use Rattle.arrow_buffers.specs.Building.{ended_times}
use Rattle.arrow_buffers.proofs.nulls.push_null_spans.Given as goal

abbrev pub invariant-rows : goal.invariant-rows
invariant-rows l =
    (l.offsets.items ≡ ended_times l.element l.counter l.fn.offsets.items l.values)
    × (length l.fn.offsets.items + 4 * l.count ≤ vec_capacity l.offsets)
