use Rattle.std.proofs.Common.{◌≡◌, ◌<◌, length, ap, arith, length-set}
use Rattle.otap_cells.specs.Columns.{width_of}
use Rattle.otap_columns.proofs.Resolving.{one_more_column}
use Rattle.otap_cells.proofs.Widths.{few_columns}
use Rattle.otap_columns.proofs.reader.view.RowsView.new.Goals as goal

pub bounds-found-column : goal.bounds-found-column
bounds-found-column c = omega (arith, few_columns c.kind.result, c.columns-column-end.ensures.width)

pub columns-preserved : goal.columns-preserved
columns-preserved c =
    let inside : c.columns.column < length c.columns.found = omega (arith, few_columns c.kind.result, c.columns-column-end.ensures.width, c.columns.invariant.long) in
    record {
      long = omega (arith, length-set c.columns.found c.columns.column c.column.result, c.columns.invariant.long);
      columns = λ k d below.
          one_more_column c.args.reader.now.kind c.args.reader.now.substream c.args.batch c.columns.found c.columns.column c.column.result inside c.columns.invariant.columns c.column.ensures k d below;
    }

pub invariant_of-result : goal.invariant_of-result
invariant_of-result c =
    let same : width_of c.kind.result ≡ width_of c.args.reader.now.kind = ap width_of c.kind.ensures in
    record {
      fine = c.requires.fine;
      sound = c.requires.sound;
      room = omega (arith, few_columns c.args.reader.now.kind, c.columns.invariant.long);
      columns = λ column d below. c.columns.invariant.columns column d (omega (arith, below, same, c.columns-column-end.ensures.width));
    }
