use Rattle.std.proofs.Common.{◌≡◌, ◌++◌, map, take}
use Rattle.std.specs.Prelude.{All}
use Rattle.otap_groups.specs.Flat.{placed_at}
use Rattle.otap_attrs.specs.Inside.{HasNested, seen_placed}
use Rattle.otap_attrs.proofs.pairs.place_pairs.Given as goal

abbrev pub invariant-pairs : goal.invariant-pairs
invariant-pairs l = record {
  are : map seen_placed l.placed.items ≡ map seen_placed l.fn.placed.items ++ map (placed_at l.parent) (take l.pair-index l.pairs);
  nested : All HasNested l.placed.items;
}
