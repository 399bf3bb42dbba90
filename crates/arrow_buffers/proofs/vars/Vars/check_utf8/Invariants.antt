use Rattle.std.proofs.Common.{◌≡◌, true}
use Rattle.arrow_buffers.specs.Below.{all_below}
use Rattle.arrow_buffers.specs.Vars.{is_text_at}
use Rattle.arrow_buffers.proofs.vars.Vars.check_utf8.Given as goal

abbrev pub invariant-rows : goal.invariant-rows
invariant-rows l = all_below (is_text_at l.self l.valid) l.row ≡ true
