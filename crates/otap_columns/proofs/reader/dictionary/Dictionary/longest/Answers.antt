use Rattle.std.proofs.Common.{◌≡◌, None, ap, arith}
use Rattle.std.specs.List.{slice_index_or}
use Rattle.arrow_buffers.specs.Columns.{cell_len}
use Rattle.otap_columns.specs.Dictionaries.{DictionaryIn}
use Rattle.otap_columns.specs.Ends.{values_by_ends}
use Rattle.otap_columns.proofs.Bounded.{value_len}
use Rattle.otap_columns.proofs.reader.dictionary.Dictionary.longest.Goals as goal

pub returns : goal.returns
returns c = λ place.
    let values = values_by_ends c.self.inside.bytes.items 0 c.self.inside.ends.items in
    let same : cell_len (slice_index_or values place None) ≡ cell_len (slice_index_or c.args.self.now.values place None) = ap (λ (d : DictionaryIn). cell_len (slice_index_or d.values place None)) c.self.view_is in
    omega (arith, same, value_len c.self.inside.bytes.items c.self.inside.ends.items c.self.inside.longest place c.self.invariant.ends c.self.invariant.longest)
