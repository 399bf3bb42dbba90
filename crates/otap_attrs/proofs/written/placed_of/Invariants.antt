use Rattle.std.proofs.Common.{◌≡◌, ◌++◌, drop, map}
use Rattle.std.specs.Prelude.{All}
use Rattle.otap_groups.specs.Flat.{placed_from}
use Rattle.otap_attrs.specs.Inside.{HasNested, seen_placed}
use Rattle.otap_attrs.proofs.written.placed_of.Given as goal

abbrev pub invariant-parents : goal.invariant-parents
invariant-parents g l = record {
  are : map seen_placed l.found.items ++ placed_from l.place (map (λ parent. g.P.Attributed.pairs parent.now) (drop l.place l.parents))
      ≡ placed_from 0 (map (λ parent. g.P.Attributed.pairs parent.now) l.parents);
  nested : All HasNested l.found.items;
}
