use Rattle.cbor_values.proofs.Letters.{letter_pushed}
use Rattle.cbor_values.proofs.strings.append_letters.Goals as goal

pub loop-letter-preserved : goal.loop-letter-preserved
loop-letter-preserved c =
    letter_pushed c.args.text.now c.loop-letter.text c.push.new.self c.loop-letter.yielded c.in-Some.letter c.loop-letter.invariant c.in_ok-push.ensures.ok
