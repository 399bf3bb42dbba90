use Rattle.std.proofs.Common.{arith}
use Rattle.flat_tables.proofs.Adding.{text_stands}
use Rattle.flat_tables.proofs.builder.Builder.add_text.Goals as goal

pub returns-clause-text : goal.returns-clause-text
returns-clause-text c =
    text_stands c.args.part.now c.args.self.now c.put.new.self c.padding-pad.result c.in_ok-place.place
    (omega arith) (omega arith) c.in_ok-place.ensures.ok c.in_ok-place.ensures.place
