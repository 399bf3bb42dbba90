use Rattle.std.proofs.Common.{◌*◌, ◌/◌, length, ap, ◌∙◌, arith}
use Rattle.std.proofs.lemmas.List.{take_rest}
use Rattle.byteorder.specs.Endian.{little_number}
use Rattle.otap_points.proofs.ListBytes.{quantiles_end, quantiles_more}
use Rattle.otap_points.proofs.number_lists.quantiles_in.Goals as goal

pub quantiles-preserved : goal.quantiles-preserved
quantiles-preserved c =
    quantiles_more c.args.quantiles.now c.args.values.now c.quantiles.found c.push.new.self _ (length c.args.quantiles.now / 8) (length c.args.values.now / 8)
    c.quantiles.place c.read_u64.result c.read_u64-in-quantiles.result (omega (arith, c.min-count.ensures)) (omega (arith, c.min-count.ensures)) c.quantiles.invariant
    (c.read_u64.ensures ∙ ap (little_number 8) (take_rest c.args.quantiles.now (8 * c.quantiles.place)))
    (c.read_u64-in-quantiles.ensures ∙ ap (little_number 8) (take_rest c.args.values.now (8 * c.quantiles.place))) c.in_ok-push.ensures.ok

pub returns : goal.returns
returns c =
    quantiles_end c.args.quantiles.now c.args.values.now c.quantiles.found _ (length c.args.quantiles.now / 8) (length c.args.values.now / 8)
    c.quantiles.place (omega (arith, c.min-count.ensures)) c.quantiles.invariant
