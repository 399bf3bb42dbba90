use Rattle.otap_attrs.proofs.FactsFound.{array_some, map_some}
use Rattle.otap_attrs.proofs.facts.value_weight.Goals as goal

pub returns-in-5 : goal.returns-in-5
returns-in-5 c = map_some c.args.kind c.args.bytes.now c.nested_weight.result c.in-5.is c.nested_weight.ensures.fine c.nested_weight.ensures.weight

pub returns-in-6 : goal.returns-in-6
returns-in-6 c =
    array_some c.args.kind c.args.bytes.now c.nested_weight-in-6.result c.in-6.is c.nested_weight-in-6.ensures.fine c.nested_weight-in-6.ensures.weight
