use Rattle.std.proofs.Common.{◌≡◌, List, map, ap, sym, subst, ◌∙◌}
use Rattle.std.specs.Prelude.{IfOk}
use Rattle.otap_cells.specs.Cells.{Cell}
use Rattle.otap_cells.specs.Tables.{profile_table}
use Rattle.otap_attrs.specs.Inside.{ParentsRise, placed_row}
use Rattle.otap_attrs.specs.Sorting.{coded_rows}
use Rattle.otap_attrs.specs.Tables.{attribute_table, row_of_pair}
use Rattle.otap_attrs.proofs.RisingParents.{parents_rise}
use Rattle.otap_attrs.proofs.WrittenRows.{rows_of_placed}
use Rattle.otap_attrs.proofs.written.write_attributes.Goals as goal

pub coded_table-requires-clause-rise : goal.coded_table-requires-clause-rise
coded_table-requires-clause-rise g c =
    let rows = ap (map placed_row) c.deref.ensures.value ∙ rows_of_placed c.in_ok-placed.placed.items ∙ ap (map row_of_pair) c.in_ok-placed.ensures.are in
    subst ParentsRise (sym rows) (parents_rise _)

pub returns : goal.returns
unfolding attribute_table
returns g c =
    let rows = ap (map placed_row) c.deref.ensures.value ∙ rows_of_placed c.in_ok-placed.placed.items ∙ ap (map row_of_pair) c.in_ok-placed.ensures.are in
    subst (λ (rows : List (List Cell)). IfOk c.coded_table.result (λ table. table ≡ profile_table c.args.kind (coded_rows rows))) rows c.coded_table.ensures
