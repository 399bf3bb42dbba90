use Rattle.std.proofs.Common.{rules, refl, arith}
use Rattle.arrow_file.proofs.Finding.{none_from}
use Rattle.arrow_file.proofs.message.message_from.Goals as goal

pub returns-in-None-clause-none : goal.returns-in-None-clause-none
returns-in-None-clause-none c =
    none_from c.args.bytes.now c.args.kind c.args.from c.in-Ok.place c.args.offset (search rules) (rw c.in-None.is at c.in_ok-message_at.ensures.none)

pub returns-in-Some-clause-some : goal.returns-in-Some-clause-some
returns-in-Some-clause-some c = record {
  is = record { offset = c.in-Ok.place; named_is = search rules; after = omega arith; is = rw c.in-Some.is at c.in_ok-message_at.ensures.some };
  end_is = refl;
}
