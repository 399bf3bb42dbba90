use Rattle.std.proofs.Common.{◌≡◌, ℤ, true, Some, None, sym, ap, subst, ◌∙◌, rules, w64, to_z, of_z}
use Rattle.std.proofs.lemmas.Int.{to_z-of_z}
use Rattle.otap_filter.specs.Filtering.{Unordered}
use Rattle.otap_filter.specs.Filters.{FilterIn}
use Rattle.otap_filter.specs.Inside.{FiltersOpened, IsKeptOfOpened}
use Rattle.otap_filter.proofs.Steps.{frame_refused, opened_unordered, send_opened}
use Rattle.otap_filter.proofs.filter.Filter.take_batch.Goals as goal

pub returns-in-Ok-Some-clause-next : goal.returns-in-Ok-Some-clause-next
returns-in-Ok-Some-clause-next c =
    let id : to_z w64 (of_z w64 c.id.result) ≡ c.args.batch.now.id = to_z-of_z w64 c.id.result (search rules) ∙ c.id.ensures in
    let kept : IsKeptOfOpened c.args.self.now c.args.batch.now.payloads (Some c.in-Ok-Some.set) =
    subst (IsKeptOfOpened c.args.self.now c.args.batch.now.payloads) c.in-Ok-Some.field-0-is c.in-Ok-Some.ensures.keeps in
    send_opened c.checked_frames_have_outcomes.ensures.accepted c.args.self.now c.args.batch.now c.in-Ok-Some.set kept _ id c.send.new.self c.send.result c.send.ensures.sends

pub returns-in-Ok-None-clause-next : goal.returns-in-Ok-None-clause-next
returns-in-Ok-None-clause-next c =
    let id : to_z w64 (of_z w64 c.id-in-Ok-None.result) ≡ c.args.batch.now.id = to_z-of_z w64 c.id-in-Ok-None.result (search rules) ∙ c.id-in-Ok-None.ensures in
    let kept : IsKeptOfOpened c.args.self.now c.args.batch.now.payloads None =
    subst (IsKeptOfOpened c.args.self.now c.args.batch.now.payloads) c.in-Ok-None.field-0-is c.in-Ok-None.ensures.keeps in
    subst (λ (n : ℤ). FiltersOpened c.args.batch.now c.args.self.now c.args.self.now (Unordered n)) (sym id)
    (opened_unordered c.checked_frames_have_outcomes.ensures.accepted c.args.self.now c.args.batch.now kept)

pub returns-in_ok-refuse_batch-in-Err-clause-next : goal.returns-in_ok-refuse_batch-in-Err-clause-next
returns-in_ok-refuse_batch-in-Err-clause-next c = λ before frame opened.
    let refusal = c.in_ok-refuse_batch-in-Err.field-0 in
    let mid = c.args.self.now.segment in
    let broken : c.refuse_batch.new.self ≡ record mid { broken = true }
    = c.refuse_batch.ensures.broken ∙ ap (λ (f : FilterIn). record f.segment { broken = true }) c.self.view_is in
    let next = c.checked_frames_have_outcomes.ensures.not_taken before mid c.refuse_batch.new.self frame c.args.batch.now c.in-Err.why refusal opened c.in-Err.ensures.stops broken
    (sym c.in_ok-refuse_batch-in-Err.ensures.refusal) in
    frame_refused (record c.args.self.now { segment = before }) _ frame refusal next
    (ap (λ (f : FilterIn). f.whose) c.self.view_is) (ap (λ (f : FilterIn). f.pair) c.self.view_is) (ap (λ (f : FilterIn). f.batches) c.self.view_is)
