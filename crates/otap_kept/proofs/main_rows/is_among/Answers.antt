use Rattle.std.proofs.Common.{◌∙◌, sym, ap}
use Rattle.otap_kept.specs.Holding.{is_among}
use Rattle.otap_kept.proofs.WrittenSteps.{among_told}
use Rattle.otap_kept.proofs.main_rows.is_among.Goals as goal

pub returns-in-Some : goal.returns-in-Some
returns-in-Some c = among_told c.args.sorted.now c.in-Some.number _ c.holds.ensures ∙ ap (is_among c.args.sorted.now) (sym c.in-Some.is)
