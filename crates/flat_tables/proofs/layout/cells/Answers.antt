use Rattle.std.proofs.Common.{◌≡◌, ◌-◌, ◌*◌, length, get_or, subst, sym, below_more, arith}
use Rattle.std.proofs.lemmas.Grind.{common_steps}
use Rattle.std.proofs.lemmas.List.{get_or_read}
use Rattle.flat_tables.specs.declared.place.Slot.{Slot}
use Rattle.flat_tables.specs.declared.place.Slot.TheVariants.{Absent}
use Rattle.flat_tables.specs.Slots.{Reaches}
use Rattle.flat_tables.specs.Layout.{IsSlot}
use Rattle.flat_tables.proofs.Reaching.{reaches_at}
use Rattle.flat_tables.proofs.layout.cells.Goals as goal

pub slot_number-requires : goal.slot_number-requires
slot_number-requires c =
    let slots = c.args.slots.now in
    subst (λ (slot : Slot). Reaches (c.args.from - 8 * c.loop-index.index) slot) (sym c.index-slots-index.is)
    (reaches_at (c.args.from - 8 * length slots) _ slots c.loop-index.index c.index-slots-index.result (omega arith) (omega arith) c.requires.given)

pub loop-index-preserved : goal.loop-index-preserved
loop-index-preserved c =
    let slots = c.args.slots.now in
    let slot : c.index-slots-index.result ≡ get_or slots c.loop-index.index Absent =
    get_or_read slots c.loop-index.index c.index-slots-index.result (omega arith) c.index-slots-index.is Absent in
    record {
      written = grind (arith, common_steps);
      size = omega (arith, c.in_ok-push_u64.ensures.len);
      fit = below_more (λ k. IsSlot (get_or slots k Absent)) c.loop-index.index c.loop-index.invariant.fit (subst IsSlot slot c.slot_number.ensures.fits);
    }
