use Rattle.std.proofs.Common.{◌++◌, ◌∙◌, arith}
use Rattle.otap_gateway.specs.Rows.{bits_text}
use Rattle.otap_gateway.proofs.Printed.{commas_go_on}
use Rattle.otap_gateway.proofs.texts.rows.push_more.Goals as goal

pub elements-preserved : goal.elements-preserved
elements-preserved c =
    commas_go_on c.args.base _ _ _ c.elements.rest.now _ _ (omega arith) c.split_at.ensures.front c.split_at.ensures.back c.elements.invariant
    (c.in_ok-push_bits.ensures ∙ (λ i. c.in_ok-push.ensures.items i ++ bits_text c.args.base (c.read_u64.ensures i)))
