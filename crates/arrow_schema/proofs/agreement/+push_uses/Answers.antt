use Rattle.std.proofs.Common.{arith}
use Rattle.arrow_schema.proofs.FieldTrees.{push_step}
use Rattle.arrow_schema.proofs.agreement.+push_uses.Goals as goal

pub loop-field-preserved : goal.loop-field-preserved
loop-field-preserved t c =
    push_step c.loop-field.uses.items c.push_use.new.uses.items c.push_uses.new.uses.items _ c.args.fields.now c.loop-field.field-index c.field-item.result c.as_slice.result.now
    (omega arith) c.field-item.is c.as_slice.ensures c.in_ok-push_use.ensures c.in_ok-push_uses.ensures c.loop-field.invariant
