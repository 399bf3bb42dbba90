use Rattle.std.proofs.Common.{◌≡◌, ◌∙◌, sym, ap, arith}
use Rattle.std.proofs.lemmas.List.{get_or_default}
use Rattle.std.proofs.lemmas.Simd.{map-map}
use Rattle.otap_capture.specs.Batch.{content_of}
use Rattle.otap_consume.specs.declared.ids.OpenId.{OpenId}
use Rattle.otap_consume.specs.Ids.{with_open_id}
use Rattle.otap_consume.specs.IdsInside.{open_id_in}
use Rattle.otap_consume.proofs.Lists.{map_same, up_to_none, up_to_more}
use Rattle.otap_consume.proofs.ids.set_all.Goals as goal

pub ids-init : goal.ids-init
ids-init c = up_to_none (λ (old new : OpenId). open_id_in new ≡ with_open_id (content_of c.args.payload.now) (open_id_in old)) c.args.ids.now

pub ids-preserved : goal.ids-preserved
ids-preserved c =
    up_to_more (λ (old new : OpenId). open_id_in new ≡ with_open_id (content_of c.args.payload.now) (open_id_in old)) c.args.ids.now c.ids.ids c.ids.place c.index-ids-place.result c.set.new.self
    c.ids.auto.ids (omega arith) c.set.ensures c.ids.invariant

pub returns : goal.returns
returns c =
    let p = content_of c.args.payload.now in
    map_same open_id_in (λ (x : OpenId). with_open_id p (open_id_in x)) c.ids.ids c.args.ids.now c.ids.auto.ids
    (λ k a b inside.
    c.ids.invariant.done k a (omega arith)
    ∙ ap (λ (x : OpenId). with_open_id p (open_id_in x)) (get_or_default c.args.ids.now k a b (omega arith)))
    ∙ sym (map-map (with_open_id p) open_id_in c.args.ids.now)
