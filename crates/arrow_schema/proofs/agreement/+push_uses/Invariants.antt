use Rattle.std.proofs.Common.{◌≡◌, ◌++◌, drop}
use Rattle.arrow_schema.specs.Trees.{uses_of}
use Rattle.arrow_schema.proofs.agreement.+push_uses.Given as goal

-- the uses so far and those of the fields that are left are all uses
abbrev pub invariant-loop-field : goal.invariant-loop-field
invariant-loop-field l = l.uses.items ++ uses_of (drop l.field-index l.fields) ≡ l.fn.uses.items ++ uses_of l.fields
