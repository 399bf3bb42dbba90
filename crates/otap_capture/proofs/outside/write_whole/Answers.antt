use Rattle.std.proofs.Common.{arith, ap, length, ◌∙◌, ◌<◌}
use Rattle.std.proofs.lemmas.List.{take_rest}
use Rattle.lists.proofs.Known.{Keeps-trans}
use Rattle.otap_capture.proofs.Known.{part_more}
use Rattle.otap_capture.proofs.outside.write_whole.Goals as goal

pub parts-preserved : goal.parts-preserved
parts-preserved g c =
    let took : 0 < c.in_ok-count.count = omega arith in
    record {
      bytes = rw take_rest (part_more _ _ _ _ _ _ c.parts.invariant.bytes c.in_ok-count.ensures.bytes);
      kept = Keeps-trans _ _ _ c.parts.invariant.kept c.in_ok-count.ensures.kept;
      count = c.in_ok-count.ensures.count.some took ∙ c.parts.invariant.count;
      nothing = λ none. let rest = ap length (c.parts.invariant.nothing none).0 in let most = c.in_ok-count.ensures.bound in absurd (omega (arith, rest, most));
    }
