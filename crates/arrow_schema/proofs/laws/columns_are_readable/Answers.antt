use Rattle.arrow_schema.proofs.Branched.{branches_readable, branches_count, branches_names, branches_named}
use Rattle.arrow_schema.proofs.laws.columns_are_readable.Goals as goal

pub returns-clause-readable : goal.returns-clause-readable
returns-clause-readable c = branches_readable

pub returns-clause-count : goal.returns-clause-count
returns-clause-count c = branches_count

pub returns-clause-names : goal.returns-clause-names
returns-clause-names c = branches_names

pub returns-clause-encodings : goal.returns-clause-encodings
returns-clause-encodings c = branches_named
