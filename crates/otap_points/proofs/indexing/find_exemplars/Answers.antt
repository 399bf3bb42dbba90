use Rattle.std.proofs.Common.{◌∙◌, drop, map, sym, ap}
use Rattle.otap_cells.specs.Named.{table_named}
use Rattle.otap_cells.specs.Tables.{Table}
use Rattle.otap_groups.specs.Children.{children}
use Rattle.otap_checks.specs.Reading.{part_rows_in}
use Rattle.otap_checks.proofs.MissingRows.{no_parts}
use Rattle.otap_points.specs.Found.{exemplar_in}
use Rattle.otap_points.specs.Points.{exemplar_of}
use Rattle.otap_points.proofs.indexing.find_exemplars.Goals as goal

pub returns-in_default : goal.returns-in_default
returns-in_default g c = λ parent.
    let item = exemplar_in (table_named c.args.attributes c.args.set.now) in
    no_parts item c.args.kind parent ∙ ap (λ (t : Table). children item (part_rows_in t) parent) (sym c.in_default.ensures.table)

pub index_rows-requires-clause-rows : goal.index_rows-requires-clause-rows
index_rows-requires-clause-rows g c = ap (λ (t : Table). map (drop 2) t.rows) (sym c.in-Some.ensures.table)

pub returns : goal.returns
returns g c = λ parent.
    c.in_ok-made.ensures parent ∙ (λ i. children (λ id own. exemplar_of own (c.in_ok-pairs.ensures id i)) (part_rows_in (table_named c.args.kind c.args.set.now)) parent)
