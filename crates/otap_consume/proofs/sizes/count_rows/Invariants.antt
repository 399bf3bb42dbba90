use Rattle.std.proofs.Common.{◌≡◌, ◌^◌, min, take}
use Rattle.std.specs.Prelude.{All}
use Rattle.otap_cells.specs.Sets.{tables_in}
use Rattle.otap_cells.specs.Tables.{IsTable}
use Rattle.otap_consume.specs.Sizes.{count_of_rows}
use Rattle.otap_consume.proofs.sizes.count_rows.Given as goal

abbrev pub invariant-tables : goal.invariant-tables
invariant-tables g l = record {
  count : l.total ≡ min (count_of_rows (tables_in g.R.Rows.table (take l.rows-index l.rows-items))) (2 ^ 63);
  sound : All (λ pair. IsTable (g.R.Rows.table pair.1)) (take l.rows-index l.rows-items);
}
