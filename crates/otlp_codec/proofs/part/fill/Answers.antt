use Rattle.std.proofs.Common.{◌≡◌, ℕ, refl, ◌∙◌, subst}
use Rattle.std.specs.Prelude.{slice_index_or, true, false}
use Rattle.std.proofs.lemmas.Result.{err_from_is_err_and}
use Rattle.lists.proofs.Parts.{same_all_over}
use Rattle.otlp_wire.specs.Wire.{entry}
use Rattle.otlp_messages.specs.Defects.{wire_error}
use Rattle.otlp_messages.specs.Limits.{mark_limit}
use Rattle.otlp_messages.proofs.Steps.{twice_stands}
use Rattle.otlp_codec.proofs.Passing.{passes_none, passes_more, passes_all, refused_value}
use Rattle.otlp_codec.proofs.part.fill.Goals as goal

pub fields-init : goal.fields-init
fields-init g c =
    rw (c.into_iter-next-iterator.ensures.into_iter_gives, c.new-next-items.ensures, c.requires) (passes_none _ _ _ _ _ _ refl (same_all_over mark_limit false))

pub returns-in_default-clause-fault : goal.returns-in_default-clause-fault
returns-in_default-clause-fault g c =
    let last = rw c.in_default.is at c.in-Some.ensures.steps in
    wire_error _ _ _ _ (c.fields.invariant.checked.end ∙ last.1)

pub returns-then-seen-mark-clause-fault : goal.returns-then-seen-mark-clause-fault
returns-then-seen-mark-clause-fault g c =
    let first = rw c.in-Ok.is at c.in-Some.ensures.steps in
    twice_stands _ _ _ _ _ _ (entry c.in-Ok.field) c.fields.invariant.checked first.0
    (subst (λ (k : ℕ). slice_index_or c.fields.seen k false ≡ true) c.mark_of-mark.ensures.mark c.if-seen-mark.true)

pub fields-preserved : goal.fields-preserved
fields-preserved g c =
    let first = rw c.in-Ok.is at c.in-Some.ensures.steps in
    passes_more _ _ _ _ _ _ _ _ _ _ (entry c.in-Ok.field) c.mark_of-mark.result c.fields.invariant first c.mark_of-mark.ensures.mark
    c.mark_of-mark.ensures.few c.if-seen-mark.false c.in_ok-take.ensures.ok c.in_ok-take.ensures.fine

pub returns-in_err-take-clause-fault : goal.returns-in_err-take-clause-fault
returns-in_err-take-clause-fault g c =
    let first = rw c.in-Ok.is at c.in-Some.ensures.steps in
    let p = err_from_is_err_and c.from_residual.result c.from_residual.ensures.1 in
    rw (p.1, p.2) (refused_value _ _ _ _ _ _ _ _ _ (entry c.in-Ok.field) _ c.fields.invariant first c.in_err-take.ensures.fault)

pub returns-clause-value : goal.returns-clause-value
returns-clause-value g c =
    let ends = c.in-None.ensures.steps in
    let all = passes_all _ _ _ _ _ _ _ _ c.fields.invariant (ends.0, ends.1) in
    (all.0, all.1 ∙ g.met.P.Submessage.passes c.args.bytes.now)
