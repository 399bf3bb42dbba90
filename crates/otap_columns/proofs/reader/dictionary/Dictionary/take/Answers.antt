use Rattle.std.proofs.Common.{◌≡◌, length, sym, ap, ◌∙◌, arith}
use Rattle.otap_columns.specs.Dictionaries.{DictionaryIn, kept}
use Rattle.otap_columns.proofs.Appending.{grown_len}
use Rattle.otap_columns.proofs.Lying.{values_len}
use Rattle.otap_columns.proofs.reader.dictionary.Dictionary.take.Goals as goal

pub returns-then-rows-len-clause-err : goal.returns-then-rows-len-clause-err
returns-then-rows-len-clause-err c =
    let values : length c.begin.new.self.values ≡ length (kept c.args.delta c.args.self.now.values) = ap (λ (d : DictionaryIn). length d.values) c.begin.ensures in
    let ends : length c.self-2.inside.ends.items ≡ length c.begin.new.self.values =
    sym (values_len c.self-2.inside.bytes.items 0 c.self-2.inside.ends.items) ∙ ap (λ (d : DictionaryIn). length d.values) c.self-2.view_is in
    omega (arith, grown_len (kept c.args.delta c.args.self.now.values) c.args.self.now.kind c.args.batch.now, values, ends, c.self-2.inside.ends.ok.0)

pub returns-clause-few : goal.returns-clause-few
returns-clause-few c =
    let ends : length c.self-2.inside.ends.items ≡ length c.begin.new.self.values =
    sym (values_len c.self-2.inside.bytes.items 0 c.self-2.inside.ends.items) ∙ ap (λ (d : DictionaryIn). length d.values) c.self-2.view_is in
    omega (arith, ap (λ (d : DictionaryIn). length d.values) c.in_ok-append.ensures.ok, grown_len c.begin.new.self.values c.begin.new.self.kind c.args.batch.now, ends, c.self-2.inside.ends.ok.0)

pub append-requires-clause-room : goal.append-requires-clause-room
append-requires-clause-room c =
    let ends : length c.self-2.inside.ends.items ≡ length c.begin.new.self.values =
    sym (values_len c.self-2.inside.bytes.items 0 c.self-2.inside.ends.items) ∙ ap (λ (d : DictionaryIn). length d.values) c.self-2.view_is in
    omega (arith, ends, c.self-2.inside.ends.ok.0)
