use Rattle.std.proofs.Common.{arith, refl}
use Rattle.lists.proofs.Zipped.{zipped_from_places}
use Rattle.otlp_model.proofs.sameness.each_same.Goals as goal

pub returns : goal.returns
returns g c =
    let kept = c.loop-i.invariant in
    (λ _. zipped_from_places _ _ _ kept.same_length (λ k d e h. kept.so_far k d e (omega arith)), λ _. refl)
