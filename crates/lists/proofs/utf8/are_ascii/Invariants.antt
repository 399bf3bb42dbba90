use Rattle.std.proofs.Common.{ℕ, ◌<◌, slice_index}
use Rattle.lists.proofs.utf8.are_ascii.Given as goal

abbrev pub invariant-bytes : goal.invariant-bytes
invariant-bytes l = (k : ℕ) → k < l.byte-index → slice_index l.part k < 128
