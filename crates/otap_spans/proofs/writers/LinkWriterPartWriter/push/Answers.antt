use Rattle.std.proofs.Common.{rules}
use Rattle.std.proofs.lemmas.Int.{ints}
use Rattle.otap_spans.proofs.SpanRows.{link_fits}
use Rattle.otap_spans.proofs.writers.LinkWriterPartWriter.push.Goals as goal

pub push_cells-requires : goal.push_cells-requires
push_cells-requires c =
    link_fits c.args.table.now.kind _ _ _ _ _ _ _ c.requires.kind (search (rules, ints)) (search (rules, ints)) (c.octets_cell.ensures.trace c.requires.part.trace_id)
    (c.octets_cell-2.ensures.span c.requires.part.span_id) c.text_cell.ensures.fits c.number_cell.ensures.fits c.number_cell-2.ensures.fits
