use Rattle.std.proofs.Common.{◌≡◌, ◌++◌, drop}
use Rattle.otap_gateway.specs.Fields.{fields_text}
use Rattle.otap_gateway.proofs.texts.fields.+push_fields.Given as goal

-- the lines so far and those of the fields that are left are all lines
abbrev pub invariant-loop-field : goal.invariant-loop-field
invariant-loop-field l = l.out.items ++ fields_text l.path (drop l.field-index l.fields) ≡ l.fn.out.items ++ fields_text l.path l.fields
