use Rattle.std.proofs.Common.{◌≡◌, drop}
use Rattle.arrow_schema.specs.Trees.{names_differ}
use Rattle.arrow_schema.proofs.agreement.names_differ.Given as goal

abbrev pub invariant-loop-place : goal.invariant-loop-place
invariant-loop-place l = names_differ (drop l.place l.fields) ≡ names_differ l.fields
