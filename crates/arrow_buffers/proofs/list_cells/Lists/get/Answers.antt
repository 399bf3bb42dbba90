use Rattle.arrow_buffers.proofs.Spans.{span-fits}
use Rattle.arrow_buffers.proofs.list_cells.Lists.get.Goals as goal

pub span-requires : goal.span-requires
span-requires c =
    let l = c.self.inside in
    let fits = span-fits l.width l.offsets.now l.values.now l.rows c.args.row c.if-row-self.false c.self.invariant.1 in
    record { there = fits.there; order = fits.order; within = fits.within }
