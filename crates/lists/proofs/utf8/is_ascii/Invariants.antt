use Rattle.std.proofs.Common.{ℕ, ◌+◌, ◌-◌, ◌<◌, ◌≤◌, slice_index}
use Rattle.lists.proofs.utf8.is_ascii.Given as goal

abbrev pub invariant-words : goal.invariant-words
invariant-words l = record {
  near : l.at ≤ l.last + 7;
  low : (k : ℕ) → k < l.at → slice_index l.part k < 128;
}

abbrev pub decreases-words : goal.decreases-words
decreases-words l = l.last - l.at
