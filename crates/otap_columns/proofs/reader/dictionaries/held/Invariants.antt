use Rattle.std.proofs.Common.{◌≡◌, ◌*◌, ◌^◌, ◌≤◌, take}
use Rattle.otap_columns.specs.Dictionaries.{held_weight}
use Rattle.otap_columns.proofs.reader.dictionaries.held.Given as goal

abbrev pub invariant-dictionaries : goal.invariant-dictionaries
invariant-dictionaries l = (l.held ≡ held_weight (take l.dictionary-index l.dictionaries)) × (l.held ≤ l.dictionary-index * 2 ^ 50)
