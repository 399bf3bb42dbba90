use Rattle.std.proofs.Common.{◌<◌, length, arith}
use Rattle.otlp_codec.proofs.Lens.{more_len}
use Rattle.otlp_codec.proofs.lengths.len_more.Goals as goal

pub loop-part-preserved : goal.loop-part-preserved
loop-part-preserved g c =
    let small : c.loop-part.part-index < length c.args.parts.now = omega arith in
    record {
      sum = more_len c.args.number g.P.Spelled.spelled c.args.parts.now c.loop-part.part-index c.part-item.result c.loop-part.total c.len.result c.len_part.result c.add_capped-total.result _
          small c.part-item.is c.loop-part.invariant.capped c.loop-part.invariant.sum c.len.ensures c.len_part.ensures c.add_capped-total.ensures;
      capped = omega (arith, c.add_capped-total.ensures);
    }
