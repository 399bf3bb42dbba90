use Rattle.otap_cells.proofs.ByPlace.{id_within}
use Rattle.otap_columns.proofs.Tabled.{same_id, bounded}
use Rattle.otap_columns.proofs.reader.view.RowsViewRows.greatest.Goals as goal

pub greatest-requires : goal.greatest-requires
greatest-requires c =
    id_within c.self.inside.reader.now.kind c.args.column
    (same_id c.self.inside.reader.now.kind c.self.inside.reader.now.substream c.self.inside.batch _ c.self.view_is c.args.column c.requires)

pub returns : goal.returns
returns c =
    bounded c.self.inside.reader.now.kind c.self.inside.reader.now.substream c.self.inside.batch _ c.self.view_is c.args.column c.greatest.result c.greatest.ensures c.requires
