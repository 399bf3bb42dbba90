use Rattle.std.proofs.Common.{◌*◌, ap, ◌∙◌, arith}
use Rattle.std.proofs.lemmas.List.{take_rest}
use Rattle.byteorder.specs.Endian.{little_number}
use Rattle.otap_points.proofs.ListBytes.{one_more}
use Rattle.otap_points.proofs.number_lists.numbers_in.Goals as goal

pub numbers-preserved : goal.numbers-preserved
numbers-preserved c =
    one_more c.args.bytes.now c.numbers.numbers c.push.new.self _ _ c.numbers.place c.read_u64.result (omega arith) c.numbers.invariant
    (c.read_u64.ensures ∙ ap (little_number 8) (take_rest c.args.bytes.now (8 * c.numbers.place))) c.in_ok-push.ensures.ok
