use Rattle.std.proofs.Common.{◌≡◌, ◌∙◌, ◌++◌, ◌∷◌, [], ℤ, ap, nat_lt, w32, rules}
use Rattle.std.proofs.lemmas.Int.{to_z-of_z}
use Rattle.otap_capture.specs.Batch.{content_of}
use Rattle.otap_cells.specs.Payload.{kind_numbered}
use Rattle.otap_consume.specs.PayloadTypes.{IsFineType, times}
use Rattle.otap_consume.proofs.Lists.{all_push}
use Rattle.lists.proofs.Lists.{front_more}
use Rattle.otap_consume.proofs.FineTypes.{fine_type}
use Rattle.otap_consume.proofs.payload_types.check_types.Goals as goal

pub payloads-preserved : goal.payloads-preserved
payloads-preserved c =
    let kept = c.payloads.invariant in
    let payload = content_of c.in-Some.payload in
    let all = c.into_iter-payload-iterator.result in
    let named : c.table_of.result ≡ kind_numbered c.args.signal payload.kind = search rules in
    let counted : c.occurs_twice.result ≡ nat_lt 1 (times payload.kind c.args.batch.now.payloads) =
    c.occurs_twice.ensures ∙ ap (λ (k : ℤ). nat_lt 1 (times k c.args.batch.now.payloads)) (to_z-of_z w32 c.in-Some.payload.kind (search rules)) in
    let fine = fine_type c.args.signal all c.args.batch.now.payloads payload c.table_of.result c.is_none.result c.occurs_twice.result
    (c.into_iter-payload-iterator.ensures.into_iter_gives ∙ c.payloads-payload-items.ensures) named c.is_none.ensures c.if-is_none.false counted c.if-occurs_twice.false in
    record {
      front = kept.front ++ payload ∷ [];
      whole = front_more all kept.front c.payloads.payload-iterator payload c.next.new.self kept.whole c.in-Some.ensures.steps;
      fine = all_push (IsFineType c.args.signal all) kept.front payload kept.fine fine;
    }
