use Rattle.std.proofs.Common.{arith}
use Rattle.std.proofs.lemmas.Result.{err_from_is_err_and}
use Rattle.otap_cells.proofs.Slots.{as_before, one_written, all_within, one_pushed, pushed_within}
use Rattle.otap_cells.proofs.kept.Cells.set.Goals as goal

pub returns-in_err-resize-clause-err : goal.returns-in_err-resize-clause-err
returns-in_err-resize-clause-err c =
    let p = err_from_is_err_and c.from_residual-in_err-resize.result c.from_residual-in_err-resize.ensures.1 in
    rw p.1 (as_before _ _ _ _ _ _ c.self.invariant c.in_ok-slot.ensures.ok c.in_err-resize.ensures.items c.self.view_is)

pub invariant_of-self-2 : goal.invariant_of-self-2
invariant_of-self-2 c =
    all_within _ _ _ _ _ _ _ _ _ c.self.invariant c.in_ok-slot.ensures.ok c.self.view_is c.requires.last c.in_ok-resize.ensures.items c.in_ok-slot.ensures.within

pub returns-clause-ok : goal.returns-clause-ok
returns-clause-ok c =
    one_written _ _ _ _ _ _ _ _ _ _ c.self.invariant c.in_ok-slot.ensures.ok c.self.view_is c.requires.last c.self.inside.slots.ok.0 c.in_ok-resize.ensures.items c.in_ok-slot.ensures.value

pub returns-in_err-push_slot-clause-err : goal.returns-in_err-push_slot-clause-err
returns-in_err-push_slot-clause-err c =
    let p = err_from_is_err_and c.from_residual-in_err-push_slot.result c.from_residual-in_err-push_slot.ensures.1 in
    rw p.1 (as_before _ _ _ _ _ _ c.self.invariant c.in_ok-slot.ensures.ok c.in_err-push_slot.ensures.err c.self.view_is)

pub invariant_of-self-then-row-len : goal.invariant_of-self-then-row-len
invariant_of-self-then-row-len c =
    pushed_within _ _ _ _ _ _ c.self.invariant c.in_ok-slot.ensures.ok c.in_ok-push_slot.ensures.ok c.in_ok-slot.ensures.within

pub returns-then-row-len-clause-ok : goal.returns-then-row-len-clause-ok
returns-then-row-len-clause-ok c =
    one_pushed _ _ _ _ _ _ _ _ _ c.self.invariant c.in_ok-slot.ensures.ok c.self.view_is (omega (arith, c.self.inside.slots.ok.0)) c.in_ok-push_slot.ensures.ok c.in_ok-slot.ensures.value
