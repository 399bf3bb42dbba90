use Rattle.otap_cells.proofs.ByPlace.{id_within}
use Rattle.otap_columns.proofs.Tabled.{same_id, coded}
use Rattle.otap_columns.proofs.reader.view.RowsViewRows.coding.Goals as goal

pub coding-requires : goal.coding-requires
coding-requires c =
    id_within c.self.inside.reader.now.kind c.args.column
    (same_id c.self.inside.reader.now.kind c.self.inside.reader.now.substream c.self.inside.batch _ c.self.view_is c.args.column c.requires)

pub returns : goal.returns
returns c =
    coded c.self.inside.reader.now.kind c.self.inside.reader.now.substream c.self.inside.batch _ c.self.view_is c.args.column c.coding.result c.coding.ensures c.requires
