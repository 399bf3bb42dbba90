use Rattle.std.proofs.Common.{sym, ap, subst}
use Rattle.std.proofs.lemmas.Result.{err_from_is_err_and}
use Rattle.otap_capture.specs.Batch.{content_of}
use Rattle.otap_columns.specs.declared.refusal.ColumnRefusal.{ColumnRefusal}
use Rattle.otap_consume.specs.Streams.{StreamIn}
use Rattle.otap_consume.specs.StreamSteps.{DoesNotTake}
use Rattle.otap_consume.proofs.StreamSteps.{begins, begins_not}
use Rattle.otap_consume.proofs.stream.Stream.begin.Goals as goal

pub returns-in_err-reader-clause-err : goal.returns-in_err-reader-clause-err
returns-in_err-reader-clause-err c =
    let s = c.args.self.now in
    let payload = content_of c.args.payload.now in
    let p = err_from_is_err_and c.from_residual.result c.from_residual.ensures.1 in
    let here : DoesNotTake s payload c.in_err-reader.field-0.0
    = begins_not s payload c.in_err-reader.field-0.0 c.self.inside.kind (sym (ap (λ (x : StreamIn). x.kind) c.self.view_is)) c.requires.of_type c.requires.other c.in_err-reader.ensures.refused in
    rw p.1 (subst (λ (why : ColumnRefusal). DoesNotTake s payload why) (sym p.2) here)

pub returns-clause-ok : goal.returns-clause-ok
returns-clause-ok c =
    begins c.args.self.now (content_of c.args.payload.now) c.self.inside.kind c.in_ok-schema_id.schema_id c.in_ok-reader.reader (sym (ap (λ (x : StreamIn). x.kind) c.self.view_is))
    c.in_ok-schema_id.ensures c.requires.of_type c.requires.other c.in_ok-reader.ensures.read c.in_ok-reader.ensures.stands c.in_ok-reader.ensures.shows
