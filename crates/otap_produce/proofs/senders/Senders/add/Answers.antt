use Rattle.std.proofs.Common.{◌≡◌, ◌<◌, ◌^◌, ◌∷◌, [], List, get_or, set, length, pos, refl, sym, ap, ◌∙◌, subst, arith}
use Rattle.std.specs.Prelude.{IsUtf8}
use Rattle.std.specs.Fmt.{decimal}
use Rattle.std.specs.Int.{w32, cast_signed, cast_unsigned}
use Rattle.std.proofs.lemmas.Int.{to_z-of_z}
use Rattle.lists.specs.Payloads.{PayloadIn}
use Rattle.otap_capture.specs.BatchWriting.{with_payload}
use Rattle.otap_cells.specs.declared.payload.Kind.{Kind}
use Rattle.otap_cells.specs.Payload.{number_of}
use Rattle.otap_produce.specs.Senders.{SenderIn, SendersIn, kinds_in}
use Rattle.otap_produce.specs.SentMessages.{Adds}
use Rattle.otap_produce.proofs.Adding.{adds_one, kinds_set}
use Rattle.otap_produce.proofs.Stepping.{SendsOne}
use Rattle.otap_produce.proofs.senders.Senders.add.Goals as goal
use Rattle.otap_cells.proofs.KindsApart.{number_fits}

pub returns-in_err-written-clause-kinds : goal.returns-in_err-written-clause-kinds
returns-in_err-written-clause-kinds c =
    kinds_set c.self.inside.senders.items c.place_of-place.result c.index_mut-sender.result.now c.send.new.self c.index_mut-sender.ensures.value c.in_err-written.ensures.kind
    ∙ ap (λ (s : SendersIn). kinds_in s.senders) c.self.view_is

pub returns-in_err-schema_id-clause-kinds : goal.returns-in_err-schema_id-clause-kinds
returns-in_err-schema_id-clause-kinds c =
    kinds_set c.self.inside.senders.items c.place_of-place.result c.index_mut-sender.result.now c.send.new.self c.index_mut-sender.ensures.value c.in_ok-written.ensures.kind
    ∙ ap (λ (s : SendersIn). kinds_in s.senders) c.self.view_is

pub returns-in_err-add-clause-kinds : goal.returns-in_err-add-clause-kinds
returns-in_err-add-clause-kinds c =
    kinds_set c.self.inside.senders.items c.place_of-place.result c.index_mut-sender.result.now c.send.new.self c.index_mut-sender.ensures.value c.in_ok-written.ensures.kind
    ∙ ap (λ (s : SendersIn). kinds_in s.senders) c.self.view_is

pub returns-clause-kinds : goal.returns-clause-kinds
returns-clause-kinds c =
    kinds_set c.self.inside.senders.items c.place_of-place.result c.index_mut-sender.result.now c.send.new.self c.index_mut-sender.ensures.value c.in_ok-written.ensures.kind
    ∙ ap (λ (s : SendersIn). kinds_in s.senders) c.self.view_is

pub returns-clause-adds : goal.returns-clause-adds
returns-clause-adds c =
    let t = c.args.table.now in
    let place = c.place_of-place.result in
    let s = c.index_mut-sender.result.now in
    let changed = c.send.new.self in
    let written = c.in_ok-written.written in
    let old : SendersIn = record { senders = c.self.inside.senders.items; openings = c.self.inside.openings } in
    let new : SendersIn = record { senders = set c.self.inside.senders.items place changed; openings = c.openings_after-self-inside.result } in
    let p : PayloadIn = record { schema_id = decimal changed.last; kind = pos (number_of t.kind); bytes = written.bytes.items } in
    let id_is : c.deref-2.result.now ≡ decimal changed.last = c.deref-2.ensures ∙ c.in_ok-schema_id.ensures.ok ∙ ap decimal c.last-number.ensures in
    let number_is : c.number.result ≡ pos (number_of t.kind) = c.number.ensures ∙ ap (λ (k : Kind). pos (number_of k)) c.kind-kind.ensures in
    let kind_is : cast_signed w32 (cast_unsigned w32 c.number.result) ≡ pos (number_of t.kind) =
    ap (λ z. cast_signed w32 (cast_unsigned w32 z)) number_is ∙ to_z-of_z w32 (pos (number_of t.kind)) (number_fits t.kind) in
    let small : c.last-number.result < 2 ^ 64 = c.last-number.type_inv in
    let one : SendsOne s changed old.openings t written.opens p = record {
      kind =
          ap (λ (x : SenderIn). x.writer.kind) c.index_mut-sender.ensures.value ∙ ap (λ (xs : List SenderIn). (get_or xs place s).writer.kind) (sym c.deref.ensures.value)
          ∙ c.place_of-place.ensures.kind s ∙ c.kind-kind.ensures;
      writes = c.in_ok-written.ensures.writes;
      last = c.in_ok-written.ensures.last;
      kept = c.in_ok-written.ensures.kind;
      writable = c.requires.can.writable;
      schema_id = refl;
      type = refl;
      room = omega (arith, c.requires.room, ap (λ (x : SendersIn). x.openings) c.self.view_is);
    } in
    subst (λ (o : SendersIn). Adds (t ∷ []) o new c.args.batch.now c.add.new.self) c.self.view_is
    (adds_one c.requires.signal old new place s changed t written.opens p c.args.batch.now c.add.new.self
    (ap (λ (x : SendersIn). kinds_in x.senders) c.self.view_is ∙ c.requires.kinds) (omega (arith, c.place_of-place.ensures.inside, ap length c.deref.ensures.value))
    c.index_mut-sender.ensures.value one refl c.openings_after-self-inside.ensures
    (c.in_ok-add.ensures.ok ∙ (λ i. with_payload c.args.batch.now (record { schema_id = id_is i; kind = kind_is i; bytes = c.deref-3.ensures.value i })))
    (subst IsUtf8 id_is c.deref-2.utf8) (number_fits t.kind) c.in_ok-written.ensures.bound (omega (arith, small, c.last-number.ensures)))
