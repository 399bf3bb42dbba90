use Rattle.otap_checks.proofs.AllWritten.{kinds_listed, kinds_written, profile, weighs}
use Rattle.otap_checks.proofs.written_laws.written_tables_add_up.Goals as goal

pub returns-clause-listed : goal.returns-clause-listed
returns-clause-listed g c = kinds_listed

pub returns-clause-kinds : goal.returns-clause-kinds
returns-clause-kinds g c = λ main cells_of ws groups far. kinds_written main cells_of ws groups far

pub returns-clause-weight : goal.returns-clause-weight
returns-clause-weight g c = λ main cells_of ws groups. weighs main cells_of ws groups

pub returns-clause-profile : goal.returns-clause-profile
returns-clause-profile g c = λ main cells_of ws groups first all. profile main cells_of ws groups first all
