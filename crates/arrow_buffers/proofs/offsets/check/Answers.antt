use Rattle.std.proofs.Common.{◌≡◌, ◌+◌, false, arith}
use Rattle.std.proofs.lemmas.Grind.{common_steps}
use Rattle.arrow_buffers.specs.Below.{all_below}
use Rattle.arrow_buffers.specs.Offsets.{offsets_check, is_fine_at}
use Rattle.arrow_buffers.proofs.EachBelow.{all_below-fails}
use Rattle.arrow_buffers.proofs.offsets.check.Goals as goal

pub returns-then-not-is_fine : goal.returns-then-not-is_fine
unfolding offsets_check
returns-then-not-is_fine c =
    let test = is_fine_at c.args.width c.args.offsets.now c.args.values.now in
    let here : test c.places.place ≡ false = cc in
    let fails : all_below test (c.args.rows + 1) ≡ false = all_below-fails test (c.args.rows + 1) c.places.place here (omega arith) in
    grind (arith, common_steps)
