use Rattle.std.proofs.Common.{[], ap, ◌∙◌, arith}
use Rattle.otap_cells.specs.Tables.{Table, profile_table}
use Rattle.otap_columns.proofs.PlainForms.{copied_all, copied_more}
use Rattle.otap_columns.proofs.plain.copied.Goals as goal

pub rows-init : goal.rows-init
rows-init g c = c.for_rows-table.ensures ∙ ap (λ kind. profile_table kind []) c.kind.ensures

pub copy_row-requires-clause-kind : goal.copy_row-requires-clause-kind
copy_row-requires-clause-kind g c = ap (λ (t : Table). t.kind) c.rows.invariant

pub rows-preserved : goal.rows-preserved
rows-preserved g c = copied_more (g.R.Rows.table c.args.rows.now) c.rows.table c.copy_row.new.table c.rows.row (omega (arith, c.rows-count.ensures.count)) c.rows.invariant c.in_ok-copy_row.ensures

pub returns : goal.returns
returns g c = copied_all (g.R.Rows.table c.args.rows.now) c.rows.table c.rows.row (omega (arith, c.rows-count.ensures.count)) c.rows.invariant
