use Rattle.std.proofs.Common.{◌≡◌, ◌+◌, ◌-◌, ◌*◌, length}
use Rattle.lists.proofs.AllBytes.{IsBytes}
use Rattle.cbor_values.specs.Reading.{many_at, open_at, pair_at, item_at}
use Rattle.cbor_values.proofs.Loops.{with_front}
use Rattle.cbor_values.proofs.reading.+read.Given as goal

abbrev pub decreases-item : goal.decreases-item
decreases-item l = 5 * l.depth

abbrev pub decreases-body : goal.decreases-body
decreases-body l = 5 * l.depth + 4

abbrev pub decreases-members : goal.decreases-members
decreases-members l = 5 * l.depth + 1

abbrev pub decreases-open_members : goal.decreases-open_members
decreases-open_members l = 5 * l.depth + 1

abbrev pub decreases-pairs : goal.decreases-pairs
decreases-pairs l = 5 * l.depth + 2

abbrev pub decreases-open_pairs : goal.decreases-open_pairs
decreases-open_pairs l = 5 * l.depth + 2

abbrev pub decreases-pair : goal.decreases-pair
decreases-pair l = 5 * l.depth + 1

abbrev pub invariant-members-loop : goal.invariant-members-loop
invariant-members-loop l = with_front l.members (many_at (item_at l.depth) (l.count - l.counter) l.rest) ≡ many_at (item_at l.depth) l.count l.bytes

abbrev pub invariant-pairs-loop : goal.invariant-pairs-loop
invariant-pairs-loop l = with_front l.pairs (many_at (pair_at (item_at l.depth)) (l.count - l.counter) l.rest) ≡ many_at (pair_at (item_at l.depth)) l.count l.bytes

abbrev pub invariant-open_members-members : goal.invariant-open_members-members
invariant-open_members-members l = record {
  told : with_front l.members (open_at (item_at l.depth) l.rest) ≡ open_at (item_at l.depth) l.bytes;
  fits : IsBytes l.rest;
}

abbrev pub decreases-open_members-members : goal.decreases-open_members-members
decreases-open_members-members l = length l.rest

abbrev pub invariant-open_pairs-pairs : goal.invariant-open_pairs-pairs
invariant-open_pairs-pairs l = record {
  told : with_front l.pairs (open_at (pair_at (item_at l.depth)) l.rest) ≡ open_at (pair_at (item_at l.depth)) l.bytes;
  fits : IsBytes l.rest;
}

abbrev pub decreases-open_pairs-pairs : goal.decreases-open_pairs-pairs
decreases-open_pairs-pairs l = length l.rest
