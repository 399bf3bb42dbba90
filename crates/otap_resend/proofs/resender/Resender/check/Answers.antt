use Rattle.std.proofs.Common.{◌≡◌, ◌<◌, List, length, None, sym, ap, ◌∙◌, subst, arith}
use Rattle.std.specs.Prelude.{find, position}
use Rattle.otap_resend.specs.declared.refusal.SendRefusal.TheVariants as unsent
use Rattle.otap_resend.specs.declared.unanswered.Unanswered.{Unanswered}
use Rattle.otap_resend.specs.Inside.{TakesMore, TakesNone}
use Rattle.otap_resend.specs.Resenders.{ResenderIn}
use Rattle.otap_resend.specs.States.{is_unwritten}
use Rattle.otap_resend.proofs.Places.{some_at, none_found}
use Rattle.otap_resend.proofs.resender.Resender.check.Goals as goal

pub returns-then-is_some-clause-refuses : goal.returns-then-is_some-clause-refuses
returns-then-is_some-clause-refuses c =
    let old : ResenderIn = record { window = c.self.inside.window; unanswered = c.self.inside.unanswered.items; sent = c.self.inside.sent; exporter = c.self.inside.exporter } in
    let place : c.place_unwritten.result ≡ position is_unwritten old.unanswered = c.place_unwritten.ensures ∙ ap (λ us. position is_unwritten us) c.deref.ensures.value in
    let few : length old.unanswered < old.window = omega (arith, c.if-len-self.false, c.len.ensures, c.deref.ensures.len, ap (λ (us : List Unanswered). length us) c.deref.ensures.value) in
    let pending : TakesNone old unsent.Pending = (few, some_at is_unwritten old.unanswered c.place_unwritten.result place (sym c.is_some.ensures ∙ c.if-is_some.true)) in
    subst (λ (o : ResenderIn). TakesNone o unsent.Pending) c.self.view_is pending

pub returns-then-is_broken-clause-refuses : goal.returns-then-is_broken-clause-refuses
returns-then-is_broken-clause-refuses c =
    let old : ResenderIn = record { window = c.self.inside.window; unanswered = c.self.inside.unanswered.items; sent = c.self.inside.sent; exporter = c.self.inside.exporter } in
    let place : c.place_unwritten.result ≡ position is_unwritten old.unanswered = c.place_unwritten.ensures ∙ ap (λ us. position is_unwritten us) c.deref.ensures.value in
    let few : length old.unanswered < old.window = omega (arith, c.if-len-self.false, c.len.ensures, c.deref.ensures.len, ap (λ (us : List Unanswered). length us) c.deref.ensures.value) in
    let none : find is_unwritten old.unanswered ≡ None = none_found is_unwritten old.unanswered c.place_unwritten.result place (sym c.is_some.ensures ∙ c.if-is_some.false) in
    let broken : TakesNone old unsent.Broken = (record { room = few; written = none }, sym c.is_broken.ensures ∙ c.if-is_broken.true) in
    subst (λ (o : ResenderIn). TakesNone o unsent.Broken) c.self.view_is broken

pub returns-clause-takes : goal.returns-clause-takes
returns-clause-takes c =
    let old : ResenderIn = record { window = c.self.inside.window; unanswered = c.self.inside.unanswered.items; sent = c.self.inside.sent; exporter = c.self.inside.exporter } in
    let place : c.place_unwritten.result ≡ position is_unwritten old.unanswered = c.place_unwritten.ensures ∙ ap (λ us. position is_unwritten us) c.deref.ensures.value in
    let few : length old.unanswered < old.window = omega (arith, c.if-len-self.false, c.len.ensures, c.deref.ensures.len, ap (λ (us : List Unanswered). length us) c.deref.ensures.value) in
    let none : find is_unwritten old.unanswered ≡ None = none_found is_unwritten old.unanswered c.place_unwritten.result place (sym c.is_some.ensures ∙ c.if-is_some.false) in
    let more : TakesMore old = record { room = record { room = few; written = none }; sound = sym c.is_broken.ensures ∙ c.if-is_broken.false } in
    subst TakesMore c.self.view_is more
