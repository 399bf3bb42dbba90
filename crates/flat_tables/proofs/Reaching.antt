-- Offsets that slots refer to.
use Rattle.std.proofs.Common.{ℕ, zero, suc, ◌<◌, ◌≤◌, List, [], ◌∷◌, length, get_or, arith}
use Rattle.flat_tables.specs.declared.place.Slot.{Slot}
use Rattle.flat_tables.specs.declared.place.Slot.TheVariants.{Absent, U8, I16, I32, I64, At}
use Rattle.flat_tables.specs.Slots.{Reaches, AllReach}

reaches_more : (m n : ℕ) (slot : Slot) → m ≤ n → Reaches m slot → Reaches n slot
reaches_more m n Absent le h = h
reaches_more m n (U8 x) le h = h
reaches_more m n (I16 z) le h = h
reaches_more m n (I32 z) le h = h
reaches_more m n (I64 z) le h = h
reaches_more m n (At place) le h = omega (arith, le, h)

pub all_reach_more : (m n : ℕ) (slots : List Slot) → m ≤ n → AllReach m slots → AllReach n slots
all_reach_more m n [] le h = h
all_reach_more m n (slot ∷ slots) le h = (reaches_more m n slot le h.0, all_reach_more m n slots le h.1)

-- each of them, from an offset that is at least as far from the end
pub reaches_at : (m n : ℕ) (slots : List Slot) (k : ℕ) (d : Slot) → m ≤ n → k < length slots → AllReach m slots → Reaches n (get_or slots k d)
reaches_at m n [] k d le lt h = absurd (omega arith)
reaches_at m n (slot ∷ slots) zero d le lt h = reaches_more m n slot le h.0
reaches_at m n (slot ∷ slots) (suc k) d le lt h = reaches_at m n slots k d le (omega arith) h.1
