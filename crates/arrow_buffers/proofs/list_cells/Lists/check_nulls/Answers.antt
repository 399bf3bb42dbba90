use Rattle.std.proofs.Common.{◌≡◌, false, arith}
use Rattle.std.proofs.lemmas.Grind.{common_steps}
use Rattle.arrow_buffers.specs.Below.{all_below}
use Rattle.arrow_buffers.specs.Lists.{nulls_check, is_full_at}
use Rattle.arrow_buffers.proofs.EachBelow.{all_below-fails}
use Rattle.arrow_buffers.proofs.list_cells.Lists.check_nulls.Goals as goal

pub returns-then-not-is_full_at : goal.returns-then-not-is_full_at
unfolding nulls_check
returns-then-not-is_full_at c =
    let test = is_full_at c.args.self.now c.args.valid.now c.args.elements.now in
    let rows : c.args.self.now.rows ≡ c.self.inside.rows = grind arith in
    let here : test c.rows.row ≡ false = cc in
    let fails : all_below test c.args.self.now.rows ≡ false = all_below-fails test c.args.self.now.rows c.rows.row here (omega arith) in
    grind (arith, common_steps)
