use Rattle.std.proofs.Common.{◌∙◌, ◌≤◌, length, ap, arith}
use Rattle.otap_kept.proofs.FineLinks.{links_are}
use Rattle.otap_kept.proofs.keeping.below.Goals as goal

pub slice_bounds-result-count : goal.slice_bounds-result-count
slice_bounds-result-count c = omega (arith, ap length (c.links_of.ensures ∙ links_are c.args.signal))

pub slice_bounds-result-start : goal.slice_bounds-result-start
slice_bounds-result-start c = let some : 1 ≤ length c.links_of.result.now = omega (arith, ap length (c.links_of.ensures ∙ links_are c.args.signal)) in some
