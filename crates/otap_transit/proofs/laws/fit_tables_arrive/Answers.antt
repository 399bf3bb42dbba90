use Rattle.std.proofs.Common.{◌≡◌, [], length, arith}
use Rattle.std.proofs.lemmas.List.Elements.{recursion_from_All}
use Rattle.lists.proofs.Growing.{each_after-length}
use Rattle.otap_signals.specs.BySignal.{meaning_by}
use Rattle.otap_transit.specs.Arrivals.{IsFitSet, IsMessageOfSet}
use Rattle.otap_transit.proofs.Reaching.{nothing_so_far}
use Rattle.otap_transit.proofs.SetsArriving.{sets_arrive}
use Rattle.otap_transit.proofs.laws.fit_tables_arrive.Goals as goal

pub returns : goal.returns
returns c = λ signal sets messages fit few each.
    let long : length sets ≡ length messages = each_after-length IsMessageOfSet [] [] sets messages each in
    sets_arrive c.far_end_reads.ensures (meaning_by signal) [] [] sets messages nothing_so_far (omega (arith, few, long))
    (recursion_from_All (IsFitSet (meaning_by signal)) sets fit) each
