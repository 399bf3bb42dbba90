use Rattle.otap_checks.proofs.NamedWritten.{main_named, written_named}
use Rattle.otap_checks.proofs.written_laws.written_tables_are_named.Goals as goal

pub returns-clause-main : goal.returns-clause-main
returns-clause-main g c = λ main cells_of ws groups far. main_named main cells_of ws groups far

pub returns-clause-below : goal.returns-clause-below
returns-clause-below g c = λ main cells_of ws groups far. written_named main cells_of ws groups far
