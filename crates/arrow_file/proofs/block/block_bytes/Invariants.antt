use Rattle.std.proofs.Common.{◌≡◌, ℕ, ◌*◌, ◌<◌, ◌++◌, drop, get_or, vec_len}
use Rattle.arrow_file.specs.BlockBytes.{Fits, no_block, blocks_bytes}
use Rattle.arrow_file.proofs.block.block_bytes.Given as goal

-- what is written and what is left to write are all blocks, and those so far fit their numbers
abbrev pub invariant-loop-block : goal.invariant-loop-block
invariant-loop-block l = record {
  written : l.bytes.items ++ blocks_bytes (drop l.block-index l.blocks) ≡ blocks_bytes l.blocks;
  len : vec_len l.bytes ≡ 24 * l.block-index;
  fit : (k : ℕ) → k < l.block-index → Fits (get_or l.blocks k no_block);
}
