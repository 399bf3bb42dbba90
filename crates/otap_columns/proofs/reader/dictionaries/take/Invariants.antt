use Rattle.std.specs.Prelude.{All}
use Rattle.otap_columns.specs.Steps.{FitsIn}
use Rattle.otap_columns.proofs.Giving.{Given}
use Rattle.otap_columns.proofs.reader.dictionaries.take.Given as goal

abbrev pub invariant-dictionaries : goal.invariant-dictionaries
invariant-dictionaries l = record {
  given : Given l.fn.id l.delta l.batch l.initial.dictionaries l.dictionaries l.dictionary-index;
  fits : All FitsIn l.initial.dictionaries → All FitsIn l.dictionaries;
}
