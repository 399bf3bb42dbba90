use Rattle.std.proofs.Common.{List, drop, [], ap, sym, ◌∙◌}
use Rattle.std.specs.List.{slice_index_or}
use Rattle.otap_cells.specs.Cells.{Cell, bytes_in, nat_in}
use Rattle.otap_attrs.proofs.ValueColumns.{value_cell, value_first}
use Rattle.otap_attrs.proofs.ValueFaults.{array_fine, map_fine}
use Rattle.otap_attrs.proofs.values.check_value.Goals as goal

pub returns-in-5-clause-ok : goal.returns-in-5-clause-ok
returns-in-5-clause-ok g c =
    let cells : List Cell = slice_index_or (g.R.Rows.table c.args.rows.now).rows c.args.row [] in
    map_fine (drop c.args.column cells) _ c.check_nested.result
    (ap nat_in (value_first cells c.args.column) ∙ sym c.number_in.ensures ∙ c.in-5.is)
    (c.bytes_in.ensures ∙ ap bytes_in (sym (value_cell cells c.args.column 6))) c.check_nested.ensures.ok

pub returns-in-6-clause-ok : goal.returns-in-6-clause-ok
returns-in-6-clause-ok g c =
    let cells : List Cell = slice_index_or (g.R.Rows.table c.args.rows.now).rows c.args.row [] in
    array_fine (drop c.args.column cells) _ c.check_nested-in-6.result
    (ap nat_in (value_first cells c.args.column) ∙ sym c.number_in.ensures ∙ c.in-6.is)
    (c.bytes_in-in-6.ensures ∙ ap bytes_in (sym (value_cell cells c.args.column 6))) c.check_nested-in-6.ensures.ok
