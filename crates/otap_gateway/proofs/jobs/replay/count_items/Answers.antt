use Rattle.std.proofs.Common.{◌∙◌}
use Rattle.otap_gateway.proofs.ItemsWeigh.{items_counted}
use Rattle.otap_gateway.proofs.jobs.replay.count_items.Goals as goal

pub returns : goal.returns
returns c = c.items.ensures ∙ items_counted c.args.request.now c.requires
