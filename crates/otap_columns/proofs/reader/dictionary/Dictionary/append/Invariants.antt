use Rattle.std.proofs.Common.{◌≡◌, ◌++◌}
use Rattle.std.specs.Prelude.{map}
use Rattle.std.specs.List.{range_with_len}
use Rattle.arrow_arrays.specs.Cells.{own_cell}
use Rattle.otap_columns.specs.Steps.{FitsIn}
use Rattle.otap_columns.proofs.reader.dictionary.Dictionary.append.Given as goal

abbrev pub invariant-rows : goal.invariant-rows
invariant-rows l = record {
  values : l.self ≡ record l.initial.self { values = l.initial.self.values ++ map (own_cell l.batch l.fn.array) (range_with_len 0 l.row) };
  fits : FitsIn l.initial.self → FitsIn l.self;
}
