use Rattle.std.proofs.Common.{◌≡◌, ℕ, ◌*◌, ◌<◌, ◌++◌, drop, get_or, vec_len}
use Rattle.flat_tables.specs.declared.place.Slot.TheVariants.{Absent}
use Rattle.flat_tables.specs.Layout.{IsSlot, bytes_of_numbers, cell, cells}
use Rattle.flat_tables.proofs.layout.cells.Given as goal

-- what is written and what is left to write are all cells, and the slots so far are in the range of their types
abbrev pub invariant-loop-index : goal.invariant-loop-index
invariant-loop-index l = record {
  written : l.bytes.items ++ bytes_of_numbers 8 (cell l.from) l.index (drop l.index l.slots) ≡ cells l.from l.slots;
  size : vec_len l.bytes ≡ 8 * l.index;
  fit : (k : ℕ) → k < l.index → IsSlot (get_or l.slots k Absent);
}
