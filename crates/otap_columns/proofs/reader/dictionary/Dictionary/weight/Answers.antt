use Rattle.std.proofs.Common.{◌≡◌, ◌+◌, ◌*◌, length, ap, ◌∙◌, arith}
use Rattle.std.specs.Prelude.{sum_by}
use Rattle.otap_columns.specs.Dictionaries.{DictionaryIn, value_weight}
use Rattle.otap_columns.specs.Ends.{values_by_ends}
use Rattle.otap_columns.proofs.Lying.{weighs, values_len, values_sum}
use Rattle.otap_columns.proofs.reader.dictionary.Dictionary.weight.Goals as goal

pub returns-clause-value : goal.returns-clause-value
returns-clause-value c =
    let values = values_by_ends c.self.inside.bytes.items 0 c.self.inside.ends.items in
    let same : sum_by value_weight values ≡ sum_by value_weight c.args.self.now.values = ap (λ (d : DictionaryIn). sum_by value_weight d.values) c.self.view_is in
    let sum : length c.self.inside.bytes.items + 8 * length c.self.inside.ends.items ≡ sum_by value_weight values =
    omega (arith, weighs values, values_sum c.self.inside.bytes.items 0 c.self.inside.ends.items c.self.invariant.ends, values_len c.self.inside.bytes.items 0 c.self.inside.ends.items) in
    (omega (arith, c.self.inside.bytes.ok.0, c.self.inside.ends.ok.0, c.len.ensures, c.len-2.ensures, sum)) ∙ same
