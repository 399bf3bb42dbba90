use Rattle.std.proofs.Common.{length, ap, arith}
use Rattle.otap_columns.specs.Dictionaries.{DictionaryIn}
use Rattle.otap_columns.proofs.Lying.{values_len}
use Rattle.otap_columns.proofs.reader.dictionary.Dictionary.len.Goals as goal

pub returns-clause-value : goal.returns-clause-value
returns-clause-value c =
    omega (arith, c.len.ensures, ap (λ (d : DictionaryIn). length d.values) c.self.view_is, values_len c.self.inside.bytes.items 0 c.self.inside.ends.items, c.self.inside.ends.ok.0)
