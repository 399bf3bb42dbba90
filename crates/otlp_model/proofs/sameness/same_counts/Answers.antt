use Rattle.otlp_model.proofs.Often.{same_often, each_as_often}
use Rattle.otlp_model.proofs.sameness.same_counts.Goals as goal

pub returns-then-each_as_often : goal.returns-then-each_as_often
returns-then-each_as_often c =
    let a = c.args.a.now in
    let b = c.args.b.now in (
      λ second. same_often a b (c.each_as_often.ensures.0 c.if-each_as_often.true) (c.each_as_often-then-each_as_often.ensures.0 second),
      λ same. c.each_as_often-then-each_as_often.ensures.1 (each_as_often a b b same),
    )
