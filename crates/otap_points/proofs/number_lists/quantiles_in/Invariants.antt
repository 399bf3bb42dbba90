use Rattle.std.proofs.Common.{◌≡◌, ◌/◌, ◌++◌, length}
use Rattle.lists.specs.Numbers.{little_numbers}
use Rattle.otap_points.specs.Points.{quantiles_of}
use Rattle.otap_points.proofs.ListBytes.{from}
use Rattle.otap_points.proofs.number_lists.quantiles_in.Given as goal

abbrev pub invariant-quantiles : goal.invariant-quantiles
invariant-quantiles l = l.found ++ quantiles_of (from l.quantiles (length l.quantiles / 8) l.place) (from l.values (length l.values / 8) l.place)
    ≡ quantiles_of (little_numbers (length l.quantiles / 8) l.quantiles) (little_numbers (length l.values / 8) l.values)
