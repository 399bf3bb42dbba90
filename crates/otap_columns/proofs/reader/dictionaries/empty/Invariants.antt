use Rattle.std.proofs.Common.{◌≡◌, ◌≤◌, [], drop, vec_len}
use Rattle.otap_columns.specs.Dictionaries.{with_dictionaries}
use Rattle.otap_columns.proofs.reader.dictionaries.empty.Given as goal

abbrev pub invariant-arrays : goal.invariant-arrays
invariant-arrays l = record {
  rest : with_dictionaries l.dictionaries.items (drop l.array-index l.array-items) ≡ with_dictionaries [] l.array-items;
  few : vec_len l.dictionaries ≤ l.array-index;
}
