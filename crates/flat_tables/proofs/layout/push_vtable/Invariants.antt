use Rattle.std.proofs.Common.{◌≡◌, ◌+◌, ◌*◌, ◌++◌, drop, vec_len}
use Rattle.flat_tables.specs.Layout.{bytes_of_numbers, vtable_entry, vtable}
use Rattle.flat_tables.proofs.layout.push_vtable.Given as goal

-- what is written and what is left to write are the vtable
abbrev pub invariant-loop-index : goal.invariant-loop-index
invariant-loop-index l = record {
  written : l.bytes.items ++ bytes_of_numbers 2 vtable_entry l.index (drop l.index l.slots) ≡ l.fn.bytes.items ++ vtable l.slots;
  size : vec_len l.bytes ≡ vec_len l.fn.bytes + (2 * l.index + 4);
}
