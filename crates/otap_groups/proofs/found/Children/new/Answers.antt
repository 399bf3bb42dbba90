use Rattle.std.proofs.Common.{◌∙◌}
use Rattle.otap_groups.proofs.BesideLaws.{beside_found}
use Rattle.otap_groups.proofs.found.Children.new.Goals as goal

pub returns : goal.returns
returns g c = λ parent.
    let index = c.in_ok-index.index in
    beside_found (g.C.RowReader.item index.reader) index.ids.now (g.C.RowReader.cells index.reader) _ parent ∙ c.in_ok-index.ensures.found parent
