use Rattle.std.proofs.Common.{◌≡◌, ℕ, ◌*◌, ◌<◌, ◌++◌, drop, get_or, vec_len}
use Rattle.std.specs.Prelude.{pos}
use Rattle.arrow_ipc.specs.Laying.{FitsPair, pairs_bytes}
use Rattle.arrow_ipc.proofs.write.pairs.Given as goal

-- what is written and what is left to write are all structs, and those so far fit 64 bits
abbrev pub invariant-loop-pair : goal.invariant-loop-pair
invariant-loop-pair l = record {
  written : l.bytes.items ++ pairs_bytes (drop l.pair-index l.pairs) ≡ pairs_bytes l.pairs;
  len : vec_len l.bytes ≡ 16 * l.pair-index;
  fit : (k : ℕ) → k < l.pair-index → FitsPair (get_or l.pairs k (pos 0, pos 0));
}
