use Rattle.std.proofs.Common.{◌≡◌, ℕ, List, ◌++◌, length, take, drop, map, refl, sym, ap, ◌∙◌, subst}
use Rattle.otlp_model.specs.declared.request.Signal.{Signal}
use Rattle.otap_signals.specs.BySignal.{rows_by}
use Rattle.otap_signals.specs.Meanings.{SignalRows}
use Rattle.otap_resend.specs.declared.unanswered.Unanswered.{Unanswered}
use Rattle.otap_resend.specs.Inside.{IsResender}
use Rattle.otap_resend.specs.Resenders.{ResenderIn, TakesTurn}
use Rattle.otap_resend.specs.States.{Reset, Nothing, without_id}
use Rattle.otap_resend.proofs.Kept.{kept_reset}
use Rattle.otap_resend.proofs.Removing.{refilled}
use Rattle.otap_resend.proofs.Turning as turning
use Rattle.otap_resend.proofs.resender.Resender.reset.Goals as goal

pub invariant_of-self : goal.invariant_of-self
invariant_of-self c =
    let old : ResenderIn = record { window = c.self.inside.window; unanswered = c.self.inside.unanswered.items; sent = c.self.inside.sent; exporter = c.self.inside.exporter } in
    let ids : c.remove_ids.new.requests ≡ map without_id old.unanswered = c.remove_ids.ensures ∙ ap (λ us. map without_id us) c.deref_mut.ensures.value in
    let long : c.self.inside.unanswered.len ≡ length old.unanswered = sym c.deref_mut.ensures.len ∙ ap (λ (us : List Unanswered). length us) c.deref_mut.ensures.value in
    let list = refilled old.unanswered c.remove_ids.new.requests c.self.inside.unanswered.len ids long in
    let now : List Unanswered = take c.self.inside.unanswered.len (c.remove_ids.new.requests ++ drop (length c.remove_ids.new.requests) old.unanswered) in
    let rows : SignalRows = rows_by old.exporter.signal in
    subst (λ (s : Signal). IsResender (rows_by s) old.window old.sent c.reset.new.self.batches c.self.inside.unanswered.cap now) (sym c.reset.ensures.same)
    (subst (λ (us : List Unanswered). IsResender rows old.window old.sent c.reset.new.self.batches c.self.inside.unanswered.cap us) (sym list)
    (subst (λ (n : ℕ). IsResender rows old.window old.sent n c.self.inside.unanswered.cap (map without_id old.unanswered)) (sym c.reset.ensures.batches)
    (kept_reset rows old.window old.sent old.exporter.batches c.self.inside.unanswered.cap old.unanswered c.self.invariant)))

pub returns : goal.returns
returns c =
    let old : ResenderIn = record { window = c.self.inside.window; unanswered = c.self.inside.unanswered.items; sent = c.self.inside.sent; exporter = c.self.inside.exporter } in
    let ids : c.remove_ids.new.requests ≡ map without_id old.unanswered = c.remove_ids.ensures ∙ ap (λ us. map without_id us) c.deref_mut.ensures.value in
    let long : c.self.inside.unanswered.len ≡ length old.unanswered = sym c.deref_mut.ensures.len ∙ ap (λ (us : List Unanswered). length us) c.deref_mut.ensures.value in
    let list = refilled old.unanswered c.remove_ids.new.requests c.self.inside.unanswered.len ids long in
    let new : ResenderIn = record {
      window = old.window;
      unanswered = take c.self.inside.unanswered.len (c.remove_ids.new.requests ++ drop (length c.remove_ids.new.requests) old.unanswered);
      sent = old.sent;
      exporter = c.reset.new.self;
    } in
    subst (λ (o : ResenderIn). TakesTurn Reset Nothing o new) c.self.view_is (turning.resets (rows_by c.self.inside.exporter.signal) old new refl list refl c.reset.ensures)
