use Rattle.std.proofs.Common.{◌≡◌, ◌*◌, ◌++◌, drop, vec_len}
use Rattle.flat_tables.specs.Layout.{bytes_of_numbers, reference, references}
use Rattle.flat_tables.proofs.layout.references.Given as goal

-- what is written and what is left to write are all references
abbrev pub invariant-loop-index : goal.invariant-loop-index
invariant-loop-index l = record {
  written : l.bytes.items ++ bytes_of_numbers 4 (reference l.from) l.index (drop l.index l.places) ≡ references l.from l.places;
  size : vec_len l.bytes ≡ 4 * l.index;
}
