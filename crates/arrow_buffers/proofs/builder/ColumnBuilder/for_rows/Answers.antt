use Rattle.arrow_buffers.proofs.Ending.{built-none}
use Rattle.arrow_buffers.proofs.builder.ColumnBuilder.for_rows.Goals as goal

pub invariant_of-result : goal.invariant_of-result
invariant_of-result c =
    rw (c.new.ensures.items, c.in_ok-offsets.ensures.items, c.in_ok-values.ensures.items) (built-none c.args.width c.requires)
