use Rattle.std.proofs.Common.{rules, ◌≡◌, true, false, None, w32, w64, to_z, of_z, refl, sym, ap, ◌∙◌, subst}
use Rattle.std.specs.Prelude.{find, position, FitsSigned}
use Rattle.std.proofs.lemmas.Int.{to_z-of_z}
use Rattle.otap_signals.specs.BySignal.{rows_by}
use Rattle.otap_resend.specs.declared.unanswered.Unanswered.{Unanswered}
use Rattle.otap_resend.specs.Resenders.{ResenderIn, TakesTurn}
use Rattle.otap_resend.specs.States.{Answer, Done, GivenUp, Kept, Unknown, has_id}
use Rattle.otap_resend.specs.Turns.{is_accepted, is_refused}
use Rattle.otap_resend.proofs.Places.{IsFirst, first_at, none_at, item_at}
use Rattle.otap_resend.proofs.Turning as turning
use Rattle.otap_resend.proofs.resender.Resender.answer.Goals as goal

pub returns-in_default-clause-turn : goal.returns-in_default-clause-turn
returns-in_default-clause-turn c =
    let old : ResenderIn = record { window = c.self.inside.window; unanswered = c.self.inside.unanswered.items; sent = c.self.inside.sent; exporter = c.self.inside.exporter } in
    let id = c.args.status.now.id in
    let code = c.args.status.now.code in
    let fits : FitsSigned w64 c.args.status.now.id = search rules in
    let same : to_z w64 (of_z w64 c.args.status.now.id) ≡ c.args.status.now.id = to_z-of_z w64 c.args.status.now.id fits in
    let place : c.place_with_id.result ≡ position (has_id c.args.status.now.id) old.unanswered = c.place_with_id.ensures ∙ (λ j. position (has_id (same j)) (c.deref.ensures.value j)) in
    let none : find (has_id id) old.unanswered ≡ None = none_at (has_id id) old.unanswered (sym place ∙ c.in_default.is) in
    subst (λ (o : ResenderIn). TakesTurn (Answer id code) Unknown o o) c.self.view_is (turning.unknown (rows_by c.self.inside.exporter.signal) old old id code none refl)

pub returns-then-is_accepted-clause-turn : goal.returns-then-is_accepted-clause-turn
returns-then-is_accepted-clause-turn c =
    let old : ResenderIn = record { window = c.self.inside.window; unanswered = c.self.inside.unanswered.items; sent = c.self.inside.sent; exporter = c.self.inside.exporter } in
    let new : ResenderIn = record { window = c.self.inside.window; unanswered = c.remove-done.new.self.items; sent = c.self.inside.sent; exporter = c.self.inside.exporter } in
    let id = c.args.status.now.id in
    let code = c.args.status.now.code in
    let fits : FitsSigned w64 c.args.status.now.id = search rules in
    let same : to_z w64 (of_z w64 c.args.status.now.id) ≡ c.args.status.now.id = to_z-of_z w64 c.args.status.now.id fits in
    let place : c.place_with_id.result ≡ position (has_id c.args.status.now.id) old.unanswered = c.place_with_id.ensures ∙ (λ j. position (has_id (same j)) (c.deref.ensures.value j)) in
    let first : IsFirst (has_id id) old.unanswered c.in-Some.place = first_at (has_id id) old.unanswered c.in-Some.place (sym place ∙ c.in-Some.is) in
    let request : c.remove-done.result ≡ first.request = c.remove-done.ensures.value ∙ item_at old.unanswered c.in-Some.place c.remove-done.result first.request first.at in
    let leaves : turning.Leaves (rows_by c.self.inside.exporter.signal) old new id = record { window = refl; unanswered = c.remove-done.ensures.items ∙ first.without; sent = refl; exporter = refl } in
    let fits' : FitsSigned w32 c.args.status.now.code = search rules in
    let same' : to_z w32 (of_z w32 c.args.status.now.code) ≡ c.args.status.now.code = to_z-of_z w32 c.args.status.now.code fits' in
    let accepted : is_accepted c.args.status.now.code ≡ true = ap is_accepted (sym same') ∙ sym c.is_accepted.ensures ∙ c.if-is_accepted.true in
    subst (λ (o : ResenderIn). TakesTurn (Answer id code) (Done c.remove-done.result.number) o new) c.self.view_is
    (subst (λ (w : Unanswered). TakesTurn (Answer id code) (Done w.number) old new) (sym request)
    (turning.done (rows_by c.self.inside.exporter.signal) old new id code first.request first.found accepted leaves))

pub returns-then-is_refused-clause-turn : goal.returns-then-is_refused-clause-turn
returns-then-is_refused-clause-turn c =
    let old : ResenderIn = record { window = c.self.inside.window; unanswered = c.self.inside.unanswered.items; sent = c.self.inside.sent; exporter = c.self.inside.exporter } in
    let new : ResenderIn = record { window = c.self.inside.window; unanswered = c.remove-number.new.self.items; sent = c.self.inside.sent; exporter = c.self.inside.exporter } in
    let id = c.args.status.now.id in
    let code = c.args.status.now.code in
    let fits : FitsSigned w64 c.args.status.now.id = search rules in
    let same : to_z w64 (of_z w64 c.args.status.now.id) ≡ c.args.status.now.id = to_z-of_z w64 c.args.status.now.id fits in
    let place : c.place_with_id.result ≡ position (has_id c.args.status.now.id) old.unanswered = c.place_with_id.ensures ∙ (λ j. position (has_id (same j)) (c.deref.ensures.value j)) in
    let first : IsFirst (has_id id) old.unanswered c.in-Some.place = first_at (has_id id) old.unanswered c.in-Some.place (sym place ∙ c.in-Some.is) in
    let request : c.remove-number.result ≡ first.request = c.remove-number.ensures.value ∙ item_at old.unanswered c.in-Some.place c.remove-number.result first.request first.at in
    let leaves : turning.Leaves (rows_by c.self.inside.exporter.signal) old new id = record { window = refl; unanswered = c.remove-number.ensures.items ∙ first.without; sent = refl; exporter = refl } in
    let fits' : FitsSigned w32 c.args.status.now.code = search rules in
    let same' : to_z w32 (of_z w32 c.args.status.now.code) ≡ c.args.status.now.code = to_z-of_z w32 c.args.status.now.code fits' in
    let refused : is_refused c.args.status.now.code ≡ true = ap is_refused (sym same') ∙ sym c.is_refused.ensures ∙ c.if-is_refused.true in
    subst (λ (o : ResenderIn). TakesTurn (Answer id code) (GivenUp c.remove-number.result.number c.remove-number.result.request) o new) c.self.view_is
    (subst (λ (w : Unanswered). TakesTurn (Answer id code) (GivenUp w.number w.request) old new) (sym request)
    (turning.given_up (rows_by c.self.inside.exporter.signal) old new id code first.request first.found refused leaves))

pub returns-clause-turn : goal.returns-clause-turn
returns-clause-turn c =
    let old : ResenderIn = record { window = c.self.inside.window; unanswered = c.self.inside.unanswered.items; sent = c.self.inside.sent; exporter = c.self.inside.exporter } in
    let id = c.args.status.now.id in
    let code = c.args.status.now.code in
    let fits : FitsSigned w64 c.args.status.now.id = search rules in
    let same : to_z w64 (of_z w64 c.args.status.now.id) ≡ c.args.status.now.id = to_z-of_z w64 c.args.status.now.id fits in
    let place : c.place_with_id.result ≡ position (has_id c.args.status.now.id) old.unanswered = c.place_with_id.ensures ∙ (λ j. position (has_id (same j)) (c.deref.ensures.value j)) in
    let first : IsFirst (has_id id) old.unanswered c.in-Some.place = first_at (has_id id) old.unanswered c.in-Some.place (sym place ∙ c.in-Some.is) in
    let request : c.index.result.now ≡ first.request = c.index.ensures ∙ item_at old.unanswered c.in-Some.place c.index.result.now first.request first.at in
    let fits' : FitsSigned w32 c.args.status.now.code = search rules in
    let same' : to_z w32 (of_z w32 c.args.status.now.code) ≡ c.args.status.now.code = to_z-of_z w32 c.args.status.now.code fits' in
    let not_accepted : is_accepted c.args.status.now.code ≡ false = ap is_accepted (sym same') ∙ sym c.is_accepted.ensures ∙ c.if-is_accepted.false in
    let not_refused : is_refused c.args.status.now.code ≡ false = ap is_refused (sym same') ∙ sym c.is_refused.ensures ∙ c.if-is_refused.false in
    let other = turning.neither (is_accepted c.args.status.now.code) (is_refused c.args.status.now.code) not_accepted not_refused in
    subst (λ (o : ResenderIn). TakesTurn (Answer id code) (Kept c.index.result.now.number) o o) c.self.view_is
    (subst (λ (w : Unanswered). TakesTurn (Answer id code) (Kept w.number) old old) (sym request)
    (turning.kept (rows_by c.self.inside.exporter.signal) old old id code first.request first.found other refl))
