use Rattle.otap_groups.proofs.BesideLaws.{beside_seen}
use Rattle.otap_groups.proofs.found.ChildrenLookup.weight_of.Goals as goal

pub returns : goal.returns
returns g c =
    let index = c.self.inside.index in
    rw (beside_seen (g.C.RowReader.item index.reader) index.ids.now (g.C.RowReader.cells index.reader) _ _ c.args.parent c.self.view_is) c.weight_of.ensures
