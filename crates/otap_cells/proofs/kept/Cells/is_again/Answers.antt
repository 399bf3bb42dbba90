use Rattle.std.proofs.Common.{◌-◌, get_or, sym, ap, ◌∙◌}
use Rattle.otap_cells.specs.Cells.{null}
use Rattle.otap_cells.specs.Inside.{cell_of_slot}
use Rattle.otap_cells.specs.declared.kept.KeptCell.TheVariants as slot
use Rattle.otap_cells.proofs.Slots.{slot_reads}
use Rattle.otap_cells.proofs.kept.Cells.is_again.Goals as goal

pub returns : goal.returns
returns c same =
    let bytes = c.self.inside.bytes.items in
    let slots = c.self.inside.slots.items in
    let row = c.args.row in
    let here = c.slot_at.ensures ∙ ap (λ ss. get_or ss row slot.Null) c.deref.ensures.value in
    let before = c.slot_at-2.ensures ∙ ap (λ ss. get_or ss (row - 1) slot.Null) c.deref-2.ensures.value in
    sym (ap (λ cells. get_or cells row null) c.self.view_is) ∙ sym (slot_reads bytes slots row)
    ∙ ap (cell_of_slot bytes) (sym here ∙ c.is_same_part.ensures same ∙ before)
    ∙ slot_reads bytes slots (row - 1) ∙ ap (λ cells. get_or cells (row - 1) null) c.self.view_is
