use Rattle.std.proofs.Common.{refl, rules}
use Rattle.std.proofs.lemmas.Int.{ints}
use Rattle.otap_cells.specs.declared.profile.Base.TheVariants as base
use Rattle.otap_groups.specs.Views.{front_cells}
use Rattle.otap_spans.proofs.SpanRows.{span_fits}
use Rattle.otap_spans.proofs.writers.SpanWriterRowWriter.push.Goals as goal

pub push_cells-requires : goal.push_cells-requires
push_cells-requires c =
    span_fits c.args.table.now.kind (front_cells c.args.front.now) _ _ _ _ _ _ _ _ _ _ _ _ _ _ c.requires.kind c.requires.front
    (c.bits_cell.ensures.fits base.Timestamp refl) (c.bits_cell-2.ensures.fits base.Duration refl) (c.octets_cell.ensures.trace c.requires.item.trace_id)
    (c.octets_cell-2.ensures.span c.requires.item.span_id) c.text_cell.ensures.fits (c.octets_cell-3.ensures.span c.requires.item.parent_span_id) c.text_cell-2.ensures.fits
    (c.int_cell.ensures.small (search (rules, ints))) c.number_cell.ensures.fits c.number_cell-2.ensures.fits c.number_cell-3.ensures.fits
    (c.int_cell-2.ensures.small (search (rules, ints))) c.text_cell-3.ensures.fits c.number_cell-4.ensures.fits
