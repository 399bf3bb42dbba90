use Rattle.std.proofs.Common.{refl, rules}
use Rattle.std.proofs.lemmas.Int.{ints}
use Rattle.otap_cells.specs.declared.profile.Base.TheVariants as base
use Rattle.otap_spans.proofs.SpanRows.{event_fits}
use Rattle.otap_spans.proofs.writers.EventWriterPartWriter.push.Goals as goal

pub push_cells-requires : goal.push_cells-requires
push_cells-requires c =
    event_fits c.args.table.now.kind _ _ _ _ _ c.requires.kind (search (rules, ints)) (search (rules, ints)) (c.bits_cell.ensures.fits base.Timestamp refl) c.text_cell.ensures.fits
    c.number_cell.ensures.fits
