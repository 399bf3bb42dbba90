use Rattle.std.proofs.Common.{◌≡◌, drop, map, length}
use Rattle.arrow_file.specs.Blocks.{blocks_in}
use Rattle.arrow_file.proofs.Taking.{Took}
use Rattle.arrow_file.proofs.message.messages_in.Given as goal

-- the messages of the blocks so far were taken
abbrev pub invariant-loop-place : goal.invariant-loop-place
invariant-loop-place l = record {
  took : Took l.bytes l.kind l.fn.from (blocks_in l.blocks) (drop l.place (blocks_in l.blocks)) l.end (map (λ m. m.now) l.messages.items);
  count : length l.messages.items ≡ l.place;
}
