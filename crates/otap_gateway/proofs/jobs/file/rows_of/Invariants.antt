use Rattle.std.proofs.Common.{◌≡◌, drop, find}
use Rattle.otap_cells.specs.Payload.{is_kind}
use Rattle.otap_cells.specs.Sets.{tables_in}
use Rattle.otap_gateway.proofs.jobs.file.rows_of.Given as goal

abbrev pub invariant-tables : goal.invariant-tables
invariant-tables g l =
    find (λ t. is_kind t.kind l.kind) (tables_in g.R.Rows.table (drop l.rows-index l.rows-items)) ≡ find (λ t. is_kind t.kind l.kind) (tables_in g.R.Rows.table l.rows-items)
