use Rattle.std.proofs.Common.{◌≡◌, ◌++◌, length, drop}
use Rattle.otap_cells.specs.Sets.{tables_in}
use Rattle.otap_gateway.specs.Showing.{payloads_text}
use Rattle.otap_gateway.proofs.jobs.show.batch_text.Given as goal

abbrev pub invariant-tables : goal.invariant-tables
invariant-tables g l = record {
  text : l.out.items ++ payloads_text l.payloads (tables_in g.R.Rows.table (drop l.rows-index l.rows-items))
      ≡ l.initial.out.items ++ payloads_text l.initial.payloads (tables_in g.R.Rows.table l.rows-items);
  long : length l.payloads ≡ length (drop l.rows-index l.rows-items);
}
