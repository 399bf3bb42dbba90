use Rattle.otlp_wire.proofs.Values.{part_after}
use Rattle.otlp_wire.proofs.reading.take_value.Goals as goal

pub returns-in_ok-part-in-2-clause-ok : goal.returns-in_ok-part-in-2-clause-ok
returns-in_ok-part-in-2-clause-ok c =
    part_after _ _ _ _ _ c.in_ok-len-in-2.ensures.ok c.in_ok-part-in-2.ensures.ok.0 c.in_ok-part-in-2.ensures.ok.1
