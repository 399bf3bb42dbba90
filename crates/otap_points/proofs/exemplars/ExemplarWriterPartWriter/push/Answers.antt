use Rattle.std.proofs.Common.{◌∙◌, true, refl, ap}
use Rattle.otap_cells.specs.declared.profile.Base.TheVariants as base
use Rattle.otap_cells.specs.Columns.{columns_of}
use Rattle.otap_points.proofs.PointRows.{exemplar_fits}
use Rattle.otap_points.proofs.exemplars.ExemplarWriterPartWriter.push.Goals as goal

pub push_cells-requires : goal.push_cells-requires
push_cells-requires c =
    exemplar_fits c.args.table.now.kind _ _ _ _ _ _ _ (ap columns_of c.requires.kind ∙ c.args.self.now.columns) (c.id_cell.ensures.fits true) (c.id_cell-2.ensures.fits true)
    (c.bits_cell.ensures.fits base.Timestamp refl) c.int_value.ensures.fits c.double_value.ensures.fits
    (c.octets_cell.ensures.span c.requires.part.span_id) (c.octets_cell-2.ensures.trace c.requires.part.trace_id)
