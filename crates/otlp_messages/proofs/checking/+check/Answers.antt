use Rattle.std.proofs.Common.{◌<◌, ℕ, length, refl, ap, ◌∙◌, sym, subst, set, arith}
use Rattle.std.proofs.lemmas.Result.{err_from_is_err_and, IfErr-weaker}
use Rattle.std.specs.Prelude.{◌==◌, not, false}
use Rattle.lists.proofs.Parts.{same_all_over}
use Rattle.otlp_wire.proofs.Readings.{part_len}
use Rattle.otlp_wire.specs.Wire.{entry, value_of}
use Rattle.otlp_messages.specs.declared.messages.FieldKind.{FieldKind}
use Rattle.otlp_messages.specs.Defects.{wire_error}
use Rattle.otlp_messages.specs.Limits.{mark_limit}
use Rattle.otlp_messages.specs.Fine.{FineValue}
use Rattle.otlp_messages.specs.Inside.{ValueStands}
use Rattle.otlp_messages.proofs.Steps.{checked_none, first_occurs, value_stands, twice_stands, checked_more, fine_from, value_is_shorter, member_stands, Checked}
use Rattle.otlp_messages.proofs.checking.+check.Goals as goal

pub check-fields-init : goal.check-fields-init
check-fields-init t c =
    rw (c.into_iter-next-iterator.ensures.into_iter_gives, c.new-next-items.ensures) (checked_none _ _ _ _ refl (same_all_over mark_limit false))

pub check-returns-in_default-clause-fault : goal.check-returns-in_default-clause-fault
check-returns-in_default-clause-fault t c =
    let last = rw c.in_default.is at c.in-Some.ensures.steps in
    wire_error _ _ _ _ (c.fields.invariant.end ∙ last.1)

pub check-returns-then-seen-row-clause-fault : goal.check-returns-then-seen-row-clause-fault
check-returns-then-seen-row-clause-fault t c =
    let first = rw c.in-Ok.is at c.in-Some.ensures.steps in
    let mark = ap (λ r. r.mark) c.row_of-row.ensures.row in
    twice_stands _ _ _ _ _ _ (entry c.in-Ok.field) c.fields.invariant first.0 (rw mark at c.if-seen-row.true)

pub check-check_value-requires : goal.check-check_value-requires
check-check_value-requires t c =
    let first = rw c.in-Ok.is at c.in-Some.ensures.steps in
    let occurs = first_occurs _ _ _ _ _ _ (entry c.in-Ok.field) c.fields.invariant first.0 in
    let short : part_len (value_of c.in-Ok.field.value) < length c.args.bytes.now = value_is_shorter _ (entry c.in-Ok.field) occurs in
    (omega (arith, c.decreases), tt)

pub check-fields-preserved : goal.check-fields-preserved
check-fields-preserved t c =
    let first = rw c.in-Ok.is at c.in-Some.ensures.steps in
    let f = entry c.in-Ok.field in
    let row = c.row_of-row.ensures.row in
    let kind = ap (λ r. r.kind) row in
    let mark = ap (λ r. r.mark) row in
    let fine = subst (λ (k : FieldKind). FineValue k c.args.levels f.value) kind c.in_ok-check_value.ensures.fine in
    let more = checked_more _ _ _ _ _ _ f c.fields.invariant first.0 first.1 (rw mark at c.row_of-row.ensures.few) (rw mark at c.if-seen-row.false) fine in
    subst (λ (k : ℕ). Checked c.args.message c.args.levels c.args.bytes.now (set c.fields.seen k (not (k == 0))) c.next.new.self) (sym mark) more

pub check-returns-in_err-check_value-clause-fault : goal.check-returns-in_err-check_value-clause-fault
check-returns-in_err-check_value-clause-fault t c =
    let first = rw c.in-Ok.is at c.in-Some.ensures.steps in
    let f = entry c.in-Ok.field in
    let kind = ap (λ r. r.kind) c.row_of-row.ensures.row in
    let occurs = first_occurs _ _ _ _ _ _ f c.fields.invariant first.0 in
    let fault = subst (λ (k : FieldKind). ValueStands k c.args.levels f.value c.in_err-check_value.field-0.0) kind c.in_err-check_value.ensures.fault in
    let p = err_from_is_err_and c.from_residual.result c.from_residual.ensures.1 in
    rw (p.1, p.2) (value_stands _ _ _ f.number f.value _ occurs fault)

pub check-returns-clause-fine : goal.check-returns-clause-fine
check-returns-clause-fine t c = fine_from _ _ _ _ _ c.fields.invariant c.in-None.ensures.steps.0 c.in-None.ensures.steps.1

pub check_part-returns-in-Member-2-clause-fault : goal.check_part-returns-in-Member-2-clause-fault
check_part-returns-in-Member-2-clause-fault t c =
    rw c.in-Member-2.is (IfErr-weaker c.check-in-Member-2.result _ _ (λ e h. member_stands _ _ _ e c.if-levels-eq0.false h) c.check-in-Member-2.ensures.fault)
