use Rattle.cbor_values.proofs.Letters.{letters_read, letters_refused}
use Rattle.cbor_values.proofs.strings.letters.Goals as goal

pub returns-in-Some : goal.returns-in-Some
returns-in-Some c =
    let read = letters_read c.args.len c.args.bytes.now c.in_ok-part.part.now c.in-Some.letters.now c.in_ok-part.rest.now c.in_ok-part.ensures.reads c.in-Some.ensures.0 c.in-Some.ensures.1 in
    record { reads = read; exact = read }

pub returns-in-None : goal.returns-in-None
returns-in-None c =
    let refused = letters_refused c.args.len c.args.bytes.now c.in_ok-part.part.now c.in_ok-part.rest.now c.in_ok-part.ensures.reads c.in-None.ensures in
    record { reads = refused; exact = refused }
