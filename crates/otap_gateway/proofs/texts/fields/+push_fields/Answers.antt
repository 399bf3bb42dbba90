use Rattle.std.proofs.Common.{◌∙◌, ap, arith}
use Rattle.otap_gateway.specs.Fields.{inner_path}
use Rattle.otap_gateway.proofs.FieldLines.{lines_step}
use Rattle.otap_gateway.proofs.texts.fields.+push_fields.Goals as goal

pub loop-field-preserved : goal.loop-field-preserved
loop-field-preserved t c =
    let path = c.args.path.now in
    let below = c.deref.ensures.value ∙ c.in_ok-inner.ensures ∙ ap (inner_path path) c.as_slice.ensures.value in
    lines_step c.loop-field.out.items c.push_field.new.out.items c.push_fields.new.out.items _ path c.deref.result.now c.args.fields.now c.loop-field.field-index c.field-item.result
    c.as_slice-in-loop-field.result.now (omega arith) c.field-item.is c.as_slice-in-loop-field.ensures below c.in_ok-push_field.ensures c.in_ok-push_fields.ensures c.loop-field.invariant
