use Rattle.std.proofs.Common.{◌≡◌}
use Rattle.std.specs.Prelude.{map}
use Rattle.std.specs.List.{range_with_len}
use Rattle.otap_columns.specs.Known.{place_in}
use Rattle.otap_columns.proofs.reader.known.places.Given as goal

abbrev pub invariant-columns : goal.invariant-columns
invariant-columns l = l.places.items ≡ map (place_in l.known) (range_with_len 0 l.column)
