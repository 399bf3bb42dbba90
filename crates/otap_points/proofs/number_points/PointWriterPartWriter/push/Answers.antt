use Rattle.std.proofs.Common.{true, false, refl}
use Rattle.otap_cells.specs.declared.profile.Base.TheVariants as base
use Rattle.otap_points.proofs.PointRows.{point_fits}
use Rattle.otap_points.proofs.number_points.PointWriterPartWriter.push.Goals as goal

pub push_cells-requires : goal.push_cells-requires
push_cells-requires c =
    point_fits c.args.table.now.kind _ _ _ _ _ _ _ c.requires.kind (c.id_cell.ensures.fits true) (c.id_cell-2.ensures.fits false)
    (c.bits_cell.ensures.fits base.Timestamp refl) (c.bits_cell-2.ensures.fits base.Timestamp refl) c.int_value.ensures.fits c.double_value.ensures.fits c.number_cell.ensures.fits
