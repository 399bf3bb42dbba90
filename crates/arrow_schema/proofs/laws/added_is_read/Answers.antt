use Rattle.std.proofs.Common.{arith}
use Rattle.flat_tables.proofs.Standing.{stands_later}
use Rattle.arrow_schema.specs.Limits.{max_depth}
use Rattle.arrow_schema.specs.Writing.{IsSchemaTable}
use Rattle.arrow_schema.proofs.Writable.{readable_fits}
use Rattle.arrow_schema.proofs.laws.added_is_read.Goals as goal

pub returns-clause-few : goal.returns-clause-few
returns-clause-few c = λ schema readable. omega (arith, readable.count)

pub returns-clause-widths : goal.returns-clause-widths
returns-clause-widths c = λ schema readable. readable_fits max_depth schema readable.each

pub returns-clause-again : goal.returns-clause-again
returns-clause-again c = λ schema built bytes place readable grows stands.
    let s = stands_later (IsSchemaTable schema) built bytes place grows stands in
    (s.table, s.read, s.reads readable)
