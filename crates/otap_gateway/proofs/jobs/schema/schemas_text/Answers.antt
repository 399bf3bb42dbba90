use Rattle.std.proofs.Common.{◌∙◌, ◌++◌, ◌∷◌, [], ℕ, List, ap}
use Rattle.std.proofs.lemmas.List.{flat_map_more}
use Rattle.lists.proofs.Every.{every_append}
use Rattle.otap_capture.specs.Batch.{content_of}
use Rattle.otap_gateway.specs.Openings.{BeginsWell}
use Rattle.otap_gateway.specs.Schemas.{payload_lines}
use Rattle.lists.proofs.Lists.{front_more}
use Rattle.lists.specs.Payloads.{PayloadIn}
use Rattle.otap_gateway.proofs.jobs.schema.schemas_text.Goals as goal

pub payloads-preserved : goal.payloads-preserved
payloads-preserved c =
    let kept = c.payloads.invariant in
    let payload = content_of c.in-Some.payload in
    record {
      front = kept.front ++ payload ∷ [];
      whole = front_more c.into_iter-payload-iterator.result kept.front c.payloads.payload-iterator payload c.next.new.self kept.whole c.in-Some.ensures.steps;
      text = c.in_ok-push_payload.ensures.text ∙ ap (λ (text : List ℕ). text ++ payload_lines payload) kept.text ∙ flat_map_more payload_lines c.push_head_line.new.to.items kept.front payload;
      well = every_append (λ (p : PayloadIn). BeginsWell p.bytes) kept.front (payload ∷ []) kept.well (c.in_ok-push_payload.ensures.well, tt);
    }
