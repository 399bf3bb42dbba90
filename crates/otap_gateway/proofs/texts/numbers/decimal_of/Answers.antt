use Rattle.std.proofs.Common.{◌≡◌, rules, arith}
use Rattle.std.proofs.lemmas.Fmt.{parse-decimal}
use Rattle.otap_gateway.proofs.texts.numbers.decimal_of.Goals as goal

pub returns-else-eq : goal.returns-else-eq
returns-else-eq c = λ n fits is.
    let read = parse-decimal 32 n _ _ fits (omega arith) is c.parse.ensures.value.0 in
    let text : c.format.result.now ≡ c.args.word.now = cc (is, read, c.in-Ok.is, c.format.ensures.text) in
    search rules

pub returns-in-Err : goal.returns-in-Err
returns-in-Err c = λ n fits is. absurd (cc (parse-decimal 32 n _ _ fits (omega arith) is c.parse.ensures.value.0))
