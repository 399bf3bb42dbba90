use Rattle.std.proofs.Common.{◌∙◌, drop, map, refl, sym, ap, arith}
use Rattle.otlp_model.specs.declared.request.Signal.TheVariants as signal
use Rattle.otap_cells.specs.declared.payload.Kind.TheVariants as table
use Rattle.otap_cells.specs.Named.{table_named}
use Rattle.otap_cells.specs.Tables.{Table}
use Rattle.otap_groups.specs.Children.{children}
use Rattle.otap_checks.specs.Links.{links_of}
use Rattle.otap_checks.specs.Reading.{part_rows_in}
use Rattle.otap_checks.proofs.MissingRows.{no_parts}
use Rattle.otap_checks.proofs.RulesFit.{known_at}
use Rattle.otap_points.specs.Found.{summary_point_in}
use Rattle.otap_points.specs.Points.{sum_point_of}
use Rattle.otap_points.proofs.PointColumns.{summaries_are_parts}
use Rattle.otap_points.proofs.indexing.find_summary_points.Goals as goal

pub returns-in_default : goal.returns-in_default
returns-in_default g c = λ parent.
    let item = summary_point_in (table_named table.SummaryPointAttrs c.args.set.now) in
    no_parts item table.SummaryPoints parent ∙ ap (λ (t : Table). children item (part_rows_in t) parent) (sym c.in_default.ensures.table)

pub find_pairs-requires-clause-known : goal.find_pairs-requires-clause-known
unfolding links_of
find_pairs-requires-clause-known g c = known_at signal.Metrics c.args.set.now c.args.known.now.ids c.requires.known 7 table.SummaryPointAttrs (omega arith) refl

pub index_rows-requires-clause-part : goal.index_rows-requires-clause-part
index_rows-requires-clause-part g c = summaries_are_parts

pub index_rows-requires-clause-known : goal.index_rows-requires-clause-known
unfolding links_of
index_rows-requires-clause-known g c = known_at signal.Metrics c.args.set.now c.args.known.now.ids c.requires.known 4 table.SummaryPoints (omega arith) refl

pub index_rows-requires-clause-rows : goal.index_rows-requires-clause-rows
index_rows-requires-clause-rows g c = ap (λ (t : Table). map (drop 2) t.rows) (sym c.in-Some.ensures.table)

pub returns : goal.returns
returns g c = λ parent.
    c.in_ok-made.ensures parent ∙ (λ i. children (λ id own. sum_point_of own (c.in_ok-pairs.ensures id i)) (part_rows_in (table_named table.SummaryPoints c.args.set.now)) parent)
