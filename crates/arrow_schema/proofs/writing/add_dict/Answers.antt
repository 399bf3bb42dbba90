use Rattle.std.proofs.Common.{◌≡◌, ◌∷◌, [], subst, to_z, of_z, to_z-of_z}
use Rattle.std.specs.Int.{w64}
use Rattle.std.specs.Prelude.{ℤ, pos, if◌then◌else◌}
use Rattle.flat_tables.specs.declared.place.Slot.TheVariants.{U8, I32, I64, At}
use Rattle.flat_tables.specs.Building.{StaysAt, HasSlots}
use Rattle.arrow_schema.proofs.Written.{dict_stands}
use Rattle.arrow_schema.proofs.writing.add_dict.Goals as goal
use Rattle.arrow_schema.proofs.writing.add_dict.Goals.{then-dict, else-dict}

pub returns-clause-dict : goal.returns-clause-dict
returns-clause-dict c =
    let bits : c.if-dict.bits ≡ pos (if c.args.dict.wide then 16 else 8) = elim c.if-dict.branch [ then-dict w ↦ search | else-dict w ↦ search ] in
    let id : to_z w64 (of_z w64 c.args.dict.id) ≡ c.args.dict.id = search (to_z-of_z) in
    dict_stands c.add_table.new.self c.add_table-2.new.self c.in_ok-index.index c.in_ok-place.place c.args.dict
    (subst (λ (z : ℤ). StaysAt (HasSlots (I32 z ∷ U8 0 ∷ [])) c.add_table.new.self c.in_ok-index.index) bits
    (subst (λ (z : ℤ). StaysAt (HasSlots (I32 z ∷ U8 0 ∷ [])) c.add_table.new.self c.in_ok-index.index) c.if-dict.bits-is c.in_ok-index.ensures.slots))
    c.in_ok-place.ensures.grows
    (subst (λ (z : ℤ). StaysAt (HasSlots (I64 z ∷ At c.in_ok-index.index ∷ [])) c.add_table-2.new.self c.in_ok-place.place) id c.in_ok-place.ensures.slots)
