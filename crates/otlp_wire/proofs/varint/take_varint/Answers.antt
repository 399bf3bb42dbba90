use Rattle.std.proofs.Common.{arith}
use Rattle.otlp_wire.proofs.Sevens.{ends_before, one_byte}
use Rattle.otlp_wire.proofs.varint.take_varint.Goals as goal

pub returns-in-len1-up-clause-ok : goal.returns-in-len1-up-clause-ok
returns-in-len1-up-clause-ok c = ends_before c.args.bytes.now 0 c.from.result c.in-len1-up.len_at_least (omega arith) (λ i h. absurd (omega arith)) c.if-byte-lt128.true (λ e. absurd (omega arith))
    (one_byte c.args.bytes.now c.from.result c.in-len1-up.len_at_least c.if-byte-lt128.true c.from.ensures)
