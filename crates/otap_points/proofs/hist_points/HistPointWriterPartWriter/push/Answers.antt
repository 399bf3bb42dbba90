use Rattle.std.proofs.Common.{true, false, ◌∙◌, refl}
use Rattle.otap_cells.specs.declared.profile.Base.TheVariants as base
use Rattle.otap_points.proofs.PointRows.{hist_fits}
use Rattle.otap_points.proofs.ListBytes.{whole_bytes}
use Rattle.otap_points.proofs.hist_points.HistPointWriterPartWriter.push.Goals as goal

pub list_cell-requires : goal.list_cell-requires
list_cell-requires c = whole_bytes c.deref.result.now c.as_slice.result.now (c.deref.ensures.value ∙ c.in_ok-buckets.ensures)

pub list_cell-requires-2 : goal.list_cell-requires-2
list_cell-requires-2 c = whole_bytes c.deref-2.result.now c.as_slice-2.result.now (c.deref-2.ensures.value ∙ c.in_ok-bounds.ensures)

pub push_cells-requires : goal.push_cells-requires
push_cells-requires c =
    hist_fits c.args.table.now.kind _ _ _ _ _ _ _ _ _ _ _ c.requires.kind (c.id_cell.ensures.fits true) (c.id_cell-2.ensures.fits false)
    (c.bits_cell.ensures.fits base.Timestamp refl) (c.bits_cell-2.ensures.fits base.Timestamp refl) (c.bits_cell-3.ensures.fits base.U64 refl)
    c.list_cell.ensures.numbers c.list_cell-2.ensures.doubles c.optional_cell.ensures.fits c.number_cell.ensures.fits c.optional_cell-2.ensures.fits c.optional_cell-3.ensures.fits
