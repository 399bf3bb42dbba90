use Rattle.std.proofs.Common.{◌≡◌, map, drop}
use Rattle.otap_capture.specs.Batch.{content_of}
use Rattle.otap_consume.specs.Ids.{has_other}
use Rattle.otap_consume.specs.IdsInside.{open_id_in}
use Rattle.otap_consume.proofs.ids.OpenIds.has_other.Given as goal

abbrev pub invariant-ids : goal.invariant-ids
invariant-ids l = has_other (content_of l.payload) (map open_id_in (drop l.id-index l.id-items)) ≡ has_other (content_of l.payload) (map open_id_in l.id-items)
