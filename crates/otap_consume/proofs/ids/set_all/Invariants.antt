use Rattle.std.proofs.Common.{◌≡◌}
use Rattle.otap_capture.specs.Batch.{content_of}
use Rattle.otap_consume.specs.declared.ids.OpenId.{OpenId}
use Rattle.otap_consume.specs.Ids.{with_open_id}
use Rattle.otap_consume.specs.IdsInside.{open_id_in}
use Rattle.otap_consume.proofs.Lists.{UpTo}
use Rattle.otap_consume.proofs.ids.set_all.Given as goal

-- the ids up to the index are those after the payload, the others are as they were
abbrev pub invariant-ids : goal.invariant-ids
invariant-ids l = UpTo (λ (old new : OpenId). open_id_in new ≡ with_open_id (content_of l.payload) (open_id_in old)) l.initial.ids l.ids l.place
