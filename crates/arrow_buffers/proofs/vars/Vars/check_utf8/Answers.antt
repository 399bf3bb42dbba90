use Rattle.std.proofs.Common.{◌≡◌, false, arith}
use Rattle.std.proofs.lemmas.Grind.{common_steps}
use Rattle.arrow_buffers.specs.Below.{all_below}
use Rattle.arrow_buffers.specs.Vars.{utf8_check, is_text_at}
use Rattle.arrow_buffers.proofs.EachBelow.{all_below-fails}
use Rattle.arrow_buffers.proofs.vars.Vars.check_utf8.Goals as goal

pub returns-then-not-is_text : goal.returns-then-not-is_text
unfolding utf8_check
returns-then-not-is_text c =
    let test = is_text_at c.args.self.now c.args.valid.now in
    let rows : c.args.self.now.rows ≡ c.self.inside.rows = grind arith in
    let here : test c.rows.row ≡ false = cc in
    let fails : all_below test c.args.self.now.rows ≡ false = all_below-fails test c.args.self.now.rows c.rows.row here (omega arith) in
    grind (arith, common_steps)
