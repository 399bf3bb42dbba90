use Rattle.std.proofs.Common.{arith}
use Rattle.arrow_buffers.proofs.Full.{built-full, holds-parts}
use Rattle.arrow_buffers.proofs.builder.ColumnBuilder.full.Goals as goal

pub invariant_of-result : goal.invariant_of-result
invariant_of-result c =
    rw (c.new.ensures.items, c.new-2.ensures.items) (built-full c.args.width c.args.rows c.args.values.items (omega arith) c.requires)

pub returns : goal.returns
returns c =
    rw (c.new.ensures.items, c.new-2.ensures.items) (holds-parts c.args.width c.args.rows c.args.values.items)
