use Rattle.std.proofs.Common.{ℕ, List, subst}
use Rattle.arrow_file.specs.Reading.{BeginsWith}
use Rattle.arrow_file.proofs.Finding.{none_at_offset}
use Rattle.arrow_file.proofs.message.message_at.Goals as goal

pub returns-in-None-clause-none : goal.returns-in-None-clause-none
returns-in-None-clause-none c =
    none_at_offset c.args.bytes.now c.args.kind c.args.offset
    (subst (λ (bytes : List ℕ). (size : ℕ) → BeginsWith bytes c.args.kind size → ⊥) c.rest-rest.ensures (rw c.in-None.is at c.in_ok-first_size.ensures.none))
