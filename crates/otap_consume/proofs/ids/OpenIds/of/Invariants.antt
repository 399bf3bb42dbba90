use Rattle.std.proofs.Common.{◌≡◌, map, take}
use Rattle.otap_consume.specs.Ids.{ids_of}
use Rattle.otap_consume.specs.IdsInside.{open_id_in}
use Rattle.otap_consume.proofs.ids.OpenIds.of.Given as goal

abbrev pub invariant-streams : goal.invariant-streams
invariant-streams l = map open_id_in l.ids.items ≡ ids_of (take l.stream-index l.streams)
