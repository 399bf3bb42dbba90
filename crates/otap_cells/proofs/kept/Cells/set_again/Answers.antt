use Rattle.std.proofs.Common.{◌≡◌, ◌≤◌, ◌-◌, [], length, get_or, arith, sym, ap, ◌∙◌}
use Rattle.std.proofs.lemmas.List.{append-nil}
use Rattle.otap_cells.specs.Cells.{null}
use Rattle.otap_cells.specs.Inside.{cell_of_slot, reach}
use Rattle.otap_cells.specs.declared.kept.KeptCell.TheVariants as slot
use Rattle.otap_cells.proofs.Slots.{one_written, all_within, one_pushed, pushed_within, slot_reads, slot_within}
use Rattle.otap_cells.proofs.kept.Cells.set_again.Goals as goal

pub invariant_of-self-2 : goal.invariant_of-self-2
invariant_of-self-2 c =
    let slot_is = c.slot_at-slot.ensures ∙ ap (λ ss. get_or ss (c.args.row - 1) slot.Null) c.deref.ensures.value in
    let reaches : reach c.slot_at-slot.result ≤ length c.self.inside.bytes.items = rw slot_is (slot_within c.self.inside.bytes.items c.self.inside.slots.items (c.args.row - 1) c.self.invariant) in
    all_within _ [] _ _ _ _ _ _ _ c.self.invariant (sym (append-nil c.self.inside.bytes.items)) c.self.view_is c.requires.last c.in_ok-resize.ensures.items reaches

pub returns-clause-ok : goal.returns-clause-ok
returns-clause-ok c =
    let slot_is = c.slot_at-slot.ensures ∙ ap (λ ss. get_or ss (c.args.row - 1) slot.Null) c.deref.ensures.value in
    let cell : cell_of_slot c.self.inside.bytes.items c.slot_at-slot.result ≡ get_or c.args.self.now (c.args.row - 1) null =
    ap (cell_of_slot c.self.inside.bytes.items) slot_is ∙ slot_reads c.self.inside.bytes.items c.self.inside.slots.items (c.args.row - 1) ∙ ap (λ cells. get_or cells (c.args.row - 1) null) c.self.view_is in
    one_written _ [] _ _ _ _ _ _ _ _ c.self.invariant (sym (append-nil c.self.inside.bytes.items)) c.self.view_is c.requires.last c.self.inside.slots.ok.0 c.in_ok-resize.ensures.items cell

pub invariant_of-self-then-row-len : goal.invariant_of-self-then-row-len
invariant_of-self-then-row-len c =
    let slot_is = c.slot_at-slot.ensures ∙ ap (λ ss. get_or ss (c.args.row - 1) slot.Null) c.deref.ensures.value in
    let reaches : reach c.slot_at-slot.result ≤ length c.self.inside.bytes.items = rw slot_is (slot_within c.self.inside.bytes.items c.self.inside.slots.items (c.args.row - 1) c.self.invariant) in
    pushed_within _ [] _ _ _ _ c.self.invariant (sym (append-nil c.self.inside.bytes.items)) c.in_ok-push_slot.ensures.ok reaches

pub returns-then-row-len-clause-ok : goal.returns-then-row-len-clause-ok
returns-then-row-len-clause-ok c =
    let slot_is = c.slot_at-slot.ensures ∙ ap (λ ss. get_or ss (c.args.row - 1) slot.Null) c.deref.ensures.value in
    let cell : cell_of_slot c.self.inside.bytes.items c.slot_at-slot.result ≡ get_or c.args.self.now (c.args.row - 1) null =
    ap (cell_of_slot c.self.inside.bytes.items) slot_is ∙ slot_reads c.self.inside.bytes.items c.self.inside.slots.items (c.args.row - 1) ∙ ap (λ cells. get_or cells (c.args.row - 1) null) c.self.view_is in
    one_pushed _ [] _ _ _ _ _ _ _ c.self.invariant (sym (append-nil c.self.inside.bytes.items)) c.self.view_is (omega (arith, c.self.inside.slots.ok.0)) c.in_ok-push_slot.ensures.ok cell
