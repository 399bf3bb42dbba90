use Rattle.std.proofs.Common.{rules}
use Rattle.otap_capture.proofs.Buffers.{reads_behind}
use Rattle.otap_capture.proofs.buffer.read_behind.Goals as goal

pub returns-clause-reads : goal.returns-clause-reads
returns-clause-reads g c =
    reads_behind c.args.filled _ c.read.new.room _ _ _ _ c.split_at_mut-back.ensures.front_len (search rules) c.read.ensures.bound c.read.ensures.bytes
