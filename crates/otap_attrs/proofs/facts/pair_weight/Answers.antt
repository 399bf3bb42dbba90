use Rattle.std.proofs.Common.{arith}
use Rattle.otap_cells.specs.Continuing.{seen_attribute}
use Rattle.otap_attrs.proofs.FactsFound.{fine_pair}
use Rattle.otap_attrs.proofs.facts.pair_weight.Goals as goal

pub returns-in-Some : goal.returns-in-Some
returns-in-Some c =
    fine_pair (seen_attribute c.args.says.now) c.in-Some.weight c.add_capped.result c.in-Some.ensures (omega (arith, c.add_capped.ensures, c.capped_len.ensures))
