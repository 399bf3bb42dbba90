use Rattle.std.proofs.Common.{refl}
use Rattle.otap_points.proofs.PointColumns.{hist_exemplars_are_parts}
use Rattle.otap_points.proofs.exemplars.ExemplarWriter.of_hist_points.Goals as goal

pub invariant_of-result : goal.invariant_of-result
invariant_of-result c = record { columns = refl; part = hist_exemplars_are_parts; apart = λ before next. refl }
