use Rattle.std.proofs.Common.{◌≡◌}
use Rattle.std.specs.Prelude.{map}
use Rattle.std.specs.List.{range_with_len}
use Rattle.otlp_load.specs.Load.{group_of}
use Rattle.otlp_load.proofs.groups.groups.Given as goal

abbrev pub invariant-groups : goal.invariant-groups
invariant-groups g l = l.groups ≡ map (group_of g.I.LoadItem.item_of l.request) (range_with_len 0 l.place)
