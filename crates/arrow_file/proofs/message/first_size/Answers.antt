use Rattle.std.proofs.Common.{rules, arith}
use Rattle.arrow_file.proofs.Finding.{none_begins, fault_begins, advanced, refused_start}
use Rattle.arrow_file.proofs.message.first_size.Goals as goal

pub returns-in-None-clause-none : goal.returns-in-None-clause-none
returns-in-None-clause-none c = none_begins c.args.bytes.now c.args.kind (search rules)

pub returns-in-Some-Err-clause-none : goal.returns-in-Some-Err-clause-none
returns-in-Some-Err-clause-none c =
    fault_begins c.args.bytes.now c.args.kind c.in-Some-Err.fault c.in_ok-unless_memory-in-Some-Err.ensures
    (refused_start c.args.bytes.now c.new-messages.result c.in-Some-Err.fault c.new-messages.ensures (rw c.in-Some-Err.field-0-is at c.in-Some-Err.ensures.fault).0)

pub returns-then-kind_of-kind-clause-within : goal.returns-then-kind_of-kind-clause-within
returns-then-kind_of-kind-clause-within c =
    let ends = advanced c.args.bytes.now c.new-messages.result c.next.new.self c.in-Some-Ok.message c.new-messages.ensures
    (rw c.in-Some-Ok.field-0-is at c.in-Some-Ok.ensures.message) in
    (omega (arith, c.place.ensures, ends.0), omega (arith, c.place.ensures, ends.1))
