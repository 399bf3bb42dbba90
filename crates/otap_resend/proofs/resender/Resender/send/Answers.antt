use Rattle.std.proofs.Common.{◌+◌, refl, sym, subst}
use Rattle.otap_signals.specs.BySignal.{rows_by}
use Rattle.otap_resend.specs.declared.refusal.SendRefusal.{SendRefusal}
use Rattle.otap_resend.specs.Inside.{TakesMore}
use Rattle.otap_resend.specs.Resenders.{ResenderIn, TakesTurn, not_sent}
use Rattle.otap_resend.specs.States.{Send, Wrote}
use Rattle.otap_resend.proofs.Turning as turning
use Rattle.otap_resend.proofs.resender.Resender.send.Goals as goal

pub returns-in-Err-clause-refuses : goal.returns-in-Err-clause-refuses
returns-in-Err-clause-refuses c = turning.takes_none (rows_by c.args.self.now.exporter.signal) c.args.self.now c.args.self.now c.args.request c.in-Err.why c.in-Err.ensures.refuses refl

pub returns-in-Ok-clause-sends : goal.returns-in-Ok-clause-sends
returns-in-Ok-clause-sends c =
    let old : ResenderIn = record { window = c.self.inside.window; unanswered = c.self.inside.unanswered.items; sent = c.self.inside.sent; exporter = c.self.inside.exporter } in
    let new : ResenderIn = record { window = c.self.inside.window; unanswered = c.keep.new.requests.items; sent = c.self.inside.sent + 1; exporter = c.encode.new.self } in
    let more : TakesMore old = subst TakesMore (sym c.self.view_is) c.in_default.ensures.takes in
    subst (λ (o : ResenderIn). TakesTurn (Send c.args.request) (Wrote c.in-Ok.message.items) o new) c.self.view_is
    (turning.sends (rows_by c.self.inside.exporter.signal) old new c.args.request c.in-Ok.message.items more c.in-Ok.ensures.exports refl refl (rw c.batches-id.ensures at c.keep.ensures.items))

pub returns-in-Err-encode-clause-refuses : goal.returns-in-Err-encode-clause-refuses
returns-in-Err-encode-clause-refuses c =
    let old : ResenderIn = record { window = c.self.inside.window; unanswered = c.self.inside.unanswered.items; sent = c.self.inside.sent; exporter = c.self.inside.exporter } in
    let new : ResenderIn = record old { exporter = c.encode.new.self } in
    let more : TakesMore old = subst TakesMore (sym c.self.view_is) c.in_default.ensures.takes in
    let after = turning.after_encode old c.encode.new.self c.in-Err-encode.refusal c.in-Err-encode.ensures.after c.encode.ensures.signal in
    subst (λ (o : ResenderIn). TakesTurn (Send c.args.request) (not_sent c.refusal_of.result) o new) c.self.view_is
    (subst (λ (why : SendRefusal). TakesTurn (Send c.args.request) (not_sent why) old new) (sym c.refusal_of.ensures)
    (turning.not_exported (rows_by c.self.inside.exporter.signal) old new c.args.request c.in-Err-encode.refusal more c.in-Err-encode.ensures.refuses after))
