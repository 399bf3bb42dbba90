use Rattle.std.proofs.Common.{◌++◌, ◌∙◌, ap, arith}
use Rattle.otap_gateway.specs.Rows.{bits_text}
use Rattle.otap_gateway.proofs.Printed.{elements_split, elements_empty}
use Rattle.otap_gateway.proofs.texts.rows.push_elements.Goals as goal

pub returns-then-part-lt8 : goal.returns-then-part-lt8
returns-then-part-lt8 c = elements_empty c.args.base c.args.to.now.items c.args.part.now (omega arith)

pub returns : goal.returns
returns c =
    elements_split c.args.base _ _ _ c.args.part.now _ _ (omega arith) c.split_at.ensures.front c.split_at.ensures.back
    (c.in_ok-push_bits.ensures ∙ ap (λ n. c.args.to.now.items ++ bits_text c.args.base n) c.read_u64.ensures) c.in_ok-push_more.ensures
