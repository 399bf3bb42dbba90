use Rattle.std.proofs.Common.{◌≡◌, ℕ, false, List, Some, None, set, refl, sym, ap, ◌∙◌, subst}
use Rattle.std.specs.Prelude.{find, position}
use Rattle.otlp_model.specs.declared.request.Signal.{Signal}
use Rattle.otap_signals.specs.BySignal.{rows_by}
use Rattle.otap_signals.specs.Meanings.{SignalRows}
use Rattle.otap_produce.specs.declared.refusal.ProduceRefusal.{ProduceRefusal}
use Rattle.otap_produce.specs.declared.refusal.ProduceRefusal.TheVariants as produce
use Rattle.otap_produce.specs.Exporters.{Exports}
use Rattle.otap_produce.specs.Exporters as exporters
use Rattle.otap_resend.specs.declared.unanswered.Unanswered.{Unanswered}
use Rattle.otap_resend.specs.Inside.{IsResender}
use Rattle.otap_resend.specs.Resenders.{ResenderIn, TakesTurn, IsBroken}
use Rattle.otap_resend.specs.States.{Resend, Wrote, Refused, Broken, OutOfMemory, Nothing, is_unwritten, with_first_written}
use Rattle.otap_resend.proofs.Kept.{one_more, kept_resent}
use Rattle.otap_resend.proofs.Places.{IsFirst, first_at, none_at, item_at, written_first}
use Rattle.otap_resend.proofs.Turning as turning
use Rattle.otap_resend.proofs.resender.Resender.resend.Goals as goal

pub returns-then-is_broken-clause-refuses : goal.returns-then-is_broken-clause-refuses
returns-then-is_broken-clause-refuses c =
    let old : ResenderIn = record { window = c.self.inside.window; unanswered = c.self.inside.unanswered.items; sent = c.self.inside.sent; exporter = c.self.inside.exporter } in
    subst (λ (o : ResenderIn). TakesTurn Resend (Refused Broken) o o) c.self.view_is
    (turning.resend_broken (rows_by c.self.inside.exporter.signal) old old (sym c.is_broken.ensures ∙ c.if-is_broken.true) refl)

pub returns-in_default-clause-none : goal.returns-in_default-clause-none
returns-in_default-clause-none c =
    let old : ResenderIn = record { window = c.self.inside.window; unanswered = c.self.inside.unanswered.items; sent = c.self.inside.sent; exporter = c.self.inside.exporter } in
    let place : c.place_unwritten.result ≡ position is_unwritten old.unanswered = c.place_unwritten.ensures ∙ ap (λ us. position is_unwritten us) c.deref.ensures.value in
    let sound : old.exporter.broken ≡ false = sym c.is_broken.ensures ∙ c.if-is_broken.false in
    let none : find is_unwritten old.unanswered ≡ None = none_at is_unwritten old.unanswered (sym place ∙ c.in_default.is) in
    subst (λ (o : ResenderIn). TakesTurn Resend Nothing o o) c.self.view_is (turning.all_written (rows_by c.self.inside.exporter.signal) old old sound none refl)

pub encode-requires-clause-batches : goal.encode-requires-clause-batches
encode-requires-clause-batches c =
    let old : ResenderIn = record { window = c.self.inside.window; unanswered = c.self.inside.unanswered.items; sent = c.self.inside.sent; exporter = c.self.inside.exporter } in
    let place : c.place_unwritten.result ≡ position is_unwritten old.unanswered = c.place_unwritten.ensures ∙ ap (λ us. position is_unwritten us) c.deref.ensures.value in
    let first : IsFirst is_unwritten old.unanswered c.in-Some.place = first_at is_unwritten old.unanswered c.in-Some.place (sym place ∙ c.in-Some.is) in
    one_more (rows_by c.self.inside.exporter.signal) c.self.inside.window c.self.inside.sent c.self.inside.exporter.batches c.self.inside.unanswered.cap old.unanswered c.self.invariant first.request first.found

pub invariant_of-self : goal.invariant_of-self
invariant_of-self c =
    let old : ResenderIn = record { window = c.self.inside.window; unanswered = c.self.inside.unanswered.items; sent = c.self.inside.sent; exporter = c.self.inside.exporter } in
    let place : c.place_unwritten.result ≡ position is_unwritten old.unanswered = c.place_unwritten.ensures ∙ ap (λ us. position is_unwritten us) c.deref.ensures.value in
    let first : IsFirst is_unwritten old.unanswered c.in-Some.place = first_at is_unwritten old.unanswered c.in-Some.place (sym place ∙ c.in-Some.is) in
    let item : c.index_mut.result.now ≡ first.request = c.index_mut.ensures.value ∙ item_at old.unanswered c.in-Some.place c.index_mut.result.now first.request first.at in
    let written : Unanswered = record { number = c.index_mut.result.now.number; request = c.index_mut.result.now.request; id = Some c.batches-id.result } in
    let same : written ≡ record { number = first.request.number; request = first.request.request; id = Some old.exporter.batches } =
    (λ j. record { number = (item j).number; request = (item j).request; id = Some (c.batches-id.ensures j) }) in
    let list : set old.unanswered c.in-Some.place written ≡ with_first_written old.exporter.batches old.unanswered =
    written_first old.exporter.batches old.unanswered c.in-Some.place first written same in
    let now : List Unanswered = set old.unanswered c.in-Some.place written in
    let rows : SignalRows = rows_by old.exporter.signal in
    subst (λ (s : Signal). IsResender (rows_by s) old.window old.sent c.encode.new.self.batches c.self.inside.unanswered.cap now) (sym c.encode.ensures.signal)
    (subst (λ (us : List Unanswered). IsResender rows old.window old.sent c.encode.new.self.batches c.self.inside.unanswered.cap us) (sym list)
    (subst (λ (n : ℕ). IsResender rows old.window old.sent n c.self.inside.unanswered.cap (with_first_written old.exporter.batches old.unanswered)) (sym c.in-Ok.ensures.exports.batches)
    (kept_resent rows old.window old.sent old.exporter.batches c.self.inside.unanswered.cap old.unanswered c.self.invariant first.request old.exporter.batches first.found)))

pub returns-in-Ok-clause-resends : goal.returns-in-Ok-clause-resends
returns-in-Ok-clause-resends c =
    let old : ResenderIn = record { window = c.self.inside.window; unanswered = c.self.inside.unanswered.items; sent = c.self.inside.sent; exporter = c.self.inside.exporter } in
    let place : c.place_unwritten.result ≡ position is_unwritten old.unanswered = c.place_unwritten.ensures ∙ ap (λ us. position is_unwritten us) c.deref.ensures.value in
    let first : IsFirst is_unwritten old.unanswered c.in-Some.place = first_at is_unwritten old.unanswered c.in-Some.place (sym place ∙ c.in-Some.is) in
    let item : c.index_mut.result.now ≡ first.request = c.index_mut.ensures.value ∙ item_at old.unanswered c.in-Some.place c.index_mut.result.now first.request first.at in
    let written : Unanswered = record { number = c.index_mut.result.now.number; request = c.index_mut.result.now.request; id = Some c.batches-id.result } in
    let same : written ≡ record { number = first.request.number; request = first.request.request; id = Some old.exporter.batches } =
    (λ j. record { number = (item j).number; request = (item j).request; id = Some (c.batches-id.ensures j) }) in
    let list : set old.unanswered c.in-Some.place written ≡ with_first_written old.exporter.batches old.unanswered =
    written_first old.exporter.batches old.unanswered c.in-Some.place first written same in
    let new : ResenderIn = record { window = old.window; unanswered = set old.unanswered c.in-Some.place written; sent = old.sent; exporter = c.encode.new.self } in
    let request : c.index.result.now ≡ first.request = c.index.ensures ∙ item_at old.unanswered c.in-Some.place c.index.result.now first.request first.at in
    let exports : Exports (rows_by c.self.inside.exporter.signal) first.request.request old.exporter c.encode.new.self c.in-Ok.message.items =
    subst (λ (w : Unanswered). Exports (rows_by c.self.inside.exporter.signal) w.request old.exporter c.encode.new.self c.in-Ok.message.items) request c.in-Ok.ensures.exports in
    subst (λ (o : ResenderIn). TakesTurn Resend (Wrote c.in-Ok.message.items) o new) c.self.view_is
    (turning.resends (rows_by c.self.inside.exporter.signal) old new first.request c.in-Ok.message.items first.found exports refl refl list)

pub returns-in-Err-Memory-clause-refuses : goal.returns-in-Err-Memory-clause-refuses
returns-in-Err-Memory-clause-refuses c =
    let old : ResenderIn = record { window = c.self.inside.window; unanswered = c.self.inside.unanswered.items; sent = c.self.inside.sent; exporter = c.self.inside.exporter } in
    let place : c.place_unwritten.result ≡ position is_unwritten old.unanswered = c.place_unwritten.ensures ∙ ap (λ us. position is_unwritten us) c.deref.ensures.value in
    let first : IsFirst is_unwritten old.unanswered c.in-Some.place = first_at is_unwritten old.unanswered c.in-Some.place (sym place ∙ c.in-Some.is) in
    let sound : old.exporter.broken ≡ false = sym c.is_broken.ensures ∙ c.if-is_broken.false in
    let new : ResenderIn = record old { exporter = c.encode.new.self } in
    let after : exporters.AfterRefusal (produce.Memory c.in-Err-Memory.error) old.exporter c.encode.new.self =
    subst (λ (r : ProduceRefusal). exporters.AfterRefusal r old.exporter c.encode.new.self) c.in-Err-Memory.field-0-is c.in-Err-Memory.ensures.after in
    let breaks : IsBroken old new = record { broken = after.0; signal = c.encode.ensures.signal; same = refl } in
    subst (λ (o : ResenderIn). TakesTurn Resend OutOfMemory o new) c.self.view_is
    (turning.resend_breaks (rows_by c.self.inside.exporter.signal) old new first.request sound first.found breaks)
