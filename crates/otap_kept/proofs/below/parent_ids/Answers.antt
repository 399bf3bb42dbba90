use Rattle.std.proofs.Common.{◌∙◌, map, sym, ap}
use Rattle.otap_kept.specs.Kept.{parent_ids}
use Rattle.otap_kept.specs.Writing.{seen_ids}
use Rattle.otap_kept.proofs.KeptSets.{named_seen}
use Rattle.otap_kept.proofs.below.parent_ids.Goals as goal

pub returns-in-Some : goal.returns-in-Some
returns-in-Some c = c.of.ensures ∙ named_seen c.in-Some.parents.of c.in-Some.parents.at c.args.kept.now
    ∙ ap (λ parents. parent_ids parents (map seen_ids c.args.kept.now)) (sym c.in-Some.is)
