use Rattle.std.proofs.Common.{◌∙◌, sym, ap, subst, refl, Option}
use Rattle.std.proofs.lemmas.Result.{err_from_is_err_and}
use Rattle.otap_capture.specs.Batch.{content_of}
use Rattle.otap_columns.specs.declared.refusal.ColumnRefusal.{ColumnRefusal}
use Rattle.otap_consume.specs.declared.stream.Substream.{Substream}
use Rattle.otap_consume.specs.StreamInside.{HasReader, open_in}
use Rattle.otap_consume.specs.Streams.{OpenIn, StreamIn}
use Rattle.otap_consume.specs.StreamSteps.{DoesNotTake}
use Rattle.otap_consume.proofs.StreamSteps.{goes_on, goes_on_not}
use Rattle.otap_consume.proofs.stream.Stream.go_on.Goals as goal

pub returns-clause-ok : goal.returns-clause-ok
returns-clause-ok c =
    let kept = sym (ap (λ (x : StreamIn). x.kind) c.self.view_is) in
    let reader = subst (λ (o : Option Substream). HasReader c.self.inside.kind o) (sym c.in-Some.ensures.value) c.self.invariant.reader in
    goes_on c.args.self.now (record { schema_id = c.in-Some.substream.schema_id; reader = c.in-Some.substream.reader }) (content_of c.args.payload.now) c.self.inside.kind
    c.in-Some.substream.schema_id c.take-2.new.self kept (sym (ap (λ (x : StreamIn). x.current) c.self.view_is) ∙ ap open_in (sym c.in-Some.ensures.value)) refl
    (reader.0 ∙ sym kept) c.requires.of_type c.requires.same c.in_ok-take.ensures.takes c.in_ok-take.ensures.shows

pub returns-in_err-take-clause-err : goal.returns-in_err-take-clause-err
returns-in_err-take-clause-err c =
    let s = c.args.self.now in
    let payload = content_of c.args.payload.now in
    let kept = sym (ap (λ (x : StreamIn). x.kind) c.self.view_is) in
    let reader = subst (λ (o : Option Substream). HasReader c.self.inside.kind o) (sym c.in-Some.ensures.value) c.self.invariant.reader in
    let current : OpenIn = record { schema_id = c.in-Some.substream.schema_id; reader = c.in-Some.substream.reader } in
    let p = err_from_is_err_and c.from_residual.result c.from_residual.ensures.1 in
    let here : DoesNotTake s payload c.in_err-take.field-0.0
    = goes_on_not s current payload c.in_err-take.field-0.0 (sym (ap (λ (x : StreamIn). x.current) c.self.view_is) ∙ ap open_in (sym c.in-Some.ensures.value)) (reader.0 ∙ sym kept)
    c.requires.of_type c.requires.same c.in_err-take.ensures.refused in
    rw p.1 (subst (λ (why : ColumnRefusal). DoesNotTake s payload why) (sym p.2) here)
