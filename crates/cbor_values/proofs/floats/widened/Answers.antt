use Rattle.std.proofs.Common.{arith}
use Rattle.std.proofs.lemmas.Grind.{common_steps}
use Rattle.cbor_values.proofs.Fractions.{exponent_below, power_is, widened_subnormal}
use Rattle.cbor_values.proofs.floats.widened.Goals as goal

pub aligned-requires-then-fraction-gt0-clause-bits : goal.aligned-requires-then-fraction-gt0-clause-bits
aligned-requires-then-fraction-gt0-clause-bits c =
    let below = exponent_below c.ilog2-top.result c.args.format.fraction_bits c.args.fraction c.ilog2-top.ensures.power_le c.requires.fraction in
    omega (arith, below)

pub returns-then-fraction-gt0 : goal.returns-then-fraction-gt0
returns-then-fraction-gt0 c =
    let top = c.ilog2-top.result in
    let below = exponent_below top c.args.format.fraction_bits c.args.fraction c.ilog2-top.ensures.power_le c.requires.fraction in
    let power = power_is top (omega (arith, below)) in
    let value = widened_subnormal c.args.format.greatest c.args.format.fraction_bits c.args.format.bias c.args.sign c.args.exponent c.args.fraction top
    c.if-exponent-format.false c.if-exponent-gt0.false c.if-fraction-gt0.true c.ilog2-top.ensures.power_le c.ilog2-top.ensures.next_power_gt c.requires.fraction in
    grind (arith, common_steps, value, power)
