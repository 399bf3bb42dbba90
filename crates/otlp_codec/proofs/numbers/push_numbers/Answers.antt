use Rattle.std.proofs.Common.{◌*◌, ap, ◌∙◌, arith}
use Rattle.std.proofs.lemmas.List.{take_rest}
use Rattle.byteorder.specs.Endian.{little_number}
use Rattle.otlp_codec.proofs.PackedLoop.{one_more}
use Rattle.otlp_codec.proofs.numbers.push_numbers.Goals as goal

pub numbers-preserved : goal.numbers-preserved
numbers-preserved c =
    one_more c.args.part.now c.numbers.to c.push.new.self _ _ c.numbers.place c.read_u64.result (omega arith) c.numbers.invariant
    (c.read_u64.ensures ∙ ap (little_number 8) (take_rest c.args.part.now (8 * c.numbers.place))) c.in_ok-push.ensures.ok
