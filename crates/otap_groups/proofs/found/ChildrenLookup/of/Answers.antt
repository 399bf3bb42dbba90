use Rattle.std.proofs.Common.{◌∙◌, sym}
use Rattle.otap_groups.proofs.BesideLaws.{beside_seen}
use Rattle.otap_groups.proofs.found.ChildrenLookup.of.Goals as goal

pub returns : goal.returns
returns g c =
    let index = c.self.inside.index in
    c.in_ok-children.ensures
    ∙ sym (beside_seen (g.C.RowReader.item index.reader) index.ids.now (g.C.RowReader.cells index.reader) _ _ c.args.parent c.self.view_is)
