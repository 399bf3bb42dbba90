use Rattle.arrow_buffers.proofs.Ending.{built-none}
use Rattle.arrow_buffers.proofs.builder.ColumnBuilder.new.Goals as goal

pub invariant_of-result : goal.invariant_of-result
invariant_of-result c =
    rw (c.new.ensures.items, c.new-2.ensures.items, c.new-3.ensures.items) (built-none c.args.width c.requires)
