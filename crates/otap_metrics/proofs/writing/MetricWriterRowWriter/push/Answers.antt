use Rattle.std.proofs.Common.{◌<◌, rules, subst, sym}
use Rattle.std.proofs.lemmas.Int.{ints}
use Rattle.otap_groups.specs.Views.{front_cells}
use Rattle.otap_metrics.proofs.MetricRows.{metric_fits, small_type}
use Rattle.otap_metrics.proofs.writing.MetricWriterRowWriter.push.Goals as goal

pub push_cells-requires : goal.push_cells-requires
push_cells-requires c =
    metric_fits c.args.table.now.kind (front_cells c.args.front.now) _ _ _ _ _ _ c.requires.kind c.requires.front
    (c.number_cell.ensures.small (subst (λ n. n < 256) (sym c.type_of.ensures) (small_type c.args.metric.now.shape)))
    c.text_cell.ensures.fits c.text_cell-2.ensures.fits c.text_cell-3.ensures.fits (c.int_cell.ensures.small (search (rules, ints))) c.flag_cell.ensures.fits
