use Rattle.std.proofs.Common.{refl}
use Rattle.otap_points.proofs.PointColumns.{exemplars_are_parts}
use Rattle.otap_points.proofs.exemplars.ExemplarWriter.of_points.Goals as goal

pub invariant_of-result : goal.invariant_of-result
invariant_of-result c = record { columns = refl; part = exemplars_are_parts; apart = λ before next. refl }
