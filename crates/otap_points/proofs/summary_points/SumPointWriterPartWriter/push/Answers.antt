use Rattle.std.proofs.Common.{true, false, List, map, ap, ◌∙◌, refl}
use Rattle.otlp_model.specs.declared.histograms.Quantile.{Quantile}
use Rattle.otap_cells.specs.declared.profile.Base.TheVariants as base
use Rattle.otap_cells.specs.Scalars.{text_cell}
use Rattle.otap_points.specs.Lists.{bytes_of}
use Rattle.otap_points.proofs.PointRows.{summary_fits, summary_row}
use Rattle.otap_points.proofs.ListBytes.{whole_bytes}
use Rattle.otap_points.proofs.summary_points.SumPointWriterPartWriter.push.Goals as goal

pub list_cell-requires : goal.list_cell-requires
list_cell-requires c = whole_bytes c.deref.result.now (map (λ (q : Quantile). q.quantile) c.as_slice.result.now) (c.deref.ensures.value ∙ c.in_ok-quantiles.ensures)

pub list_cell-requires-2 : goal.list_cell-requires-2
list_cell-requires-2 c = whole_bytes c.deref-2.result.now (map (λ (q : Quantile). q.value) c.as_slice-2.result.now) (c.deref-2.ensures.value ∙ c.in_ok-values.ensures)

pub push_cells-requires : goal.push_cells-requires
push_cells-requires c =
    summary_fits c.args.table.now.kind _ _ _ _ _ _ _ _ _ c.requires.kind (c.id_cell.ensures.fits true) (c.id_cell-2.ensures.fits false)
    (c.bits_cell.ensures.fits base.Timestamp refl) (c.bits_cell-2.ensures.fits base.Timestamp refl) (c.bits_cell-3.ensures.fits base.U64 refl)
    (c.bits_cell-4.ensures.fits base.Double refl) c.list_cell.ensures.doubles c.list_cell-2.ensures.doubles c.number_cell.ensures.fits

pub returns-clause-ok : goal.returns-clause-ok
returns-clause-ok c =
    summary_row c.args.table.now _ c.args.id c.args.parent c.args.point.now _ _ _ _ _ _ _ _ _ c.in_ok-push_cells.ensures.ok c.id_cell.ensures.value c.id_cell-2.ensures.value
    c.bits_cell.ensures.value c.bits_cell-2.ensures.value c.bits_cell-3.ensures.value c.bits_cell-4.ensures.value
    (c.list_cell.ensures.value ∙ ap text_cell (c.deref.ensures.value ∙ c.in_ok-quantiles.ensures ∙ ap (λ (qs : List Quantile). bytes_of (map (λ (q : Quantile). q.quantile) qs)) c.as_slice.ensures))
    (c.list_cell-2.ensures.value ∙ ap text_cell (c.deref-2.ensures.value ∙ c.in_ok-values.ensures ∙ ap (λ (qs : List Quantile). bytes_of (map (λ (q : Quantile). q.value) qs)) c.as_slice-2.ensures))
    c.number_cell.ensures.value
