use Rattle.std.proofs.Common.{arith}
use Rattle.otlp_wire.proofs.Values.{field_after}
use Rattle.otlp_wire.proofs.reading.take_field.Goals as goal

pub returns-clause-ok : goal.returns-clause-ok
returns-clause-ok c =
    field_after _ _ _ _ _ c.in_ok-tag.ensures.ok c.in_ok-value.ensures.ok (omega arith, omega arith) c.in_ok-value.ensures.kind
