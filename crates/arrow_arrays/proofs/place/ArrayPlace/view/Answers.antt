use Rattle.arrow_arrays.proofs.Fits.{check_reads, own_if_fits}
use Rattle.arrow_arrays.proofs.place.ArrayPlace.view.Goals as goal

pub own_column-requires : goal.own_column-requires
own_column-requires c = check_reads c.args.batch.now c.args.self c.requires.fine

pub returns-clause-fits : goal.returns-clause-fits
returns-clause-fits c =
    λ row. own_if_fits c.args.batch.now c.args.self row _ c.requires.fine (c.own_column.ensures.cells row)
