use Rattle.std.proofs.Common.{◌≡◌, true, length, ap, arith}
use Rattle.std.proofs.lemmas.Result.{err_from_is_err_and}
use Rattle.otap_columns.specs.Dictionaries.{DictionaryIn, has_id}
use Rattle.otap_columns.proofs.Giving.{refuses_own}
use Rattle.otap_columns.proofs.Lying.{values_len}
use Rattle.otap_columns.proofs.reader.dictionary.Dictionary.take_if.Goals as goal

pub returns-then-self-id-clause-few : goal.returns-then-self-id-clause-few
returns-then-self-id-clause-few c =
    omega (arith, ap (λ (d : DictionaryIn). length d.values) c.self.view_is, values_len c.self.inside.bytes.items 0 c.self.inside.ends.items, c.self.invariant.few)

pub returns-in_err-take-clause-err : goal.returns-in_err-take-clause-err
returns-in_err-take-clause-err c =
    let own : has_id c.args.id c.args.self.now ≡ true = grind arith in
    let p = err_from_is_err_and c.from_residual.result c.from_residual.ensures.1 in
    rw (p.1, p.2) (refuses_own c.args.id c.args.delta c.args.batch.now c.args.self.now c.in_err-take.field-0.0 own c.in_err-take.ensures.err)
