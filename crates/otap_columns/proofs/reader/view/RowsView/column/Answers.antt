use Rattle.std.proofs.Common.{◌<◌, sym, subst, arith}
use Rattle.otap_cells.specs.Columns.{width_of}
use Rattle.otap_columns.specs.declared.reader.resolved.ResolvedColumn.{ResolvedColumn}
use Rattle.otap_columns.specs.Resolved.{IsColumn}
use Rattle.otap_columns.proofs.Resolving.{shows_column}
use Rattle.otap_columns.proofs.Tabled.{same_width}
use Rattle.otap_columns.proofs.reader.view.RowsView.column.Goals as goal

pub bounds-columns-column : goal.bounds-columns-column
bounds-columns-column c =
    let below : c.args.column < width_of c.self.inside.reader.now.kind = same_width c.self.inside.reader.now.kind c.self.inside.reader.now.substream c.self.inside.batch _ c.self.view_is c.args.column c.requires in
    omega (arith, below, c.self.invariant.room)

pub returns : goal.returns
returns c =
    let below : c.args.column < width_of c.self.inside.reader.now.kind = same_width c.self.inside.reader.now.kind c.self.inside.reader.now.substream c.self.inside.batch _ c.self.view_is c.args.column c.requires in
    let here : IsColumn c.self.inside.reader.now.kind c.self.inside.reader.now.substream c.self.inside.batch c.args.column c.index-columns-column.result =
    subst (λ (x : ResolvedColumn). IsColumn c.self.inside.reader.now.kind c.self.inside.reader.now.substream c.self.inside.batch c.args.column x) (sym c.index-columns-column.is)
    (c.self.invariant.columns c.args.column c.index-columns-column.result below) in
    shows_column c.self.inside.reader.now.kind c.self.inside.reader.now.substream c.self.inside.batch _ c.self.view_is c.self.invariant.sound c.args.column c.index-columns-column.result here c.requires
