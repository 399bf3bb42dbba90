use Rattle.std.proofs.Common.{List, ap, ◌∙◌}
use Rattle.arrow_schema.specs.Limits.{max_depth}
use Rattle.arrow_arrays.specs.declared.spec.ArraySpec.{ArraySpec}
use Rattle.arrow_arrays.specs.Arrays.{cell_within}
use Rattle.arrow_arrays.proofs.Fits.{cell_if_fits}
use Rattle.arrow_arrays.proofs.arrays.Arrays.view.Goals as goal

pub returns-clause-fits : goal.returns-clause-fits
returns-clause-fits c =
    λ row. cell_if_fits max_depth c.args.self.now c.args.batch.now c.args.place row _ c.requires.fine
    (c.view_within.ensures.cells row ∙ ap (λ (arrays : List ArraySpec). cell_within max_depth arrays c.args.batch.now c.args.place row) (c.deref.ensures.value ∙ c.self.view_is))
