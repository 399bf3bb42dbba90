use Rattle.std.proofs.Common.{◌≡◌, ◌++◌, drop, map}
use Rattle.std.specs.List.{flat_map}
use Rattle.otap_attrs.specs.Tables.{beside_kind, where_rows}
use Rattle.otap_kept.specs.Kept.{kept_below}
use Rattle.otap_kept.specs.Writing.{seen_ids}
use Rattle.otap_kept.proofs.below.add_below.Given as goal

abbrev pub invariant-links : goal.invariant-links
invariant-links g l =
    l.tables.items ++ map beside_kind (flat_map where_rows (kept_below l.set (map seen_ids l.kept) (drop l.place l.links)))
    ≡ l.fn.tables.items ++ map beside_kind (flat_map where_rows (kept_below l.set (map seen_ids l.fn.kept) l.links))
