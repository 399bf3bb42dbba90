use Rattle.arrow_buffers.proofs.Spans.{span-fits}
use Rattle.arrow_buffers.proofs.vars.Vars.get.Goals as goal

pub span-requires : goal.span-requires
span-requires c =
    let fits = span-fits 1 c.self.inside.offsets.now c.self.inside.values.now c.self.inside.rows c.args.row c.if-row-self.false c.self.invariant in
    record { there = fits.there; order = fits.order; within = fits.within }
