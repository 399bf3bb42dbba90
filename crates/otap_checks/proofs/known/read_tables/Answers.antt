use Rattle.std.proofs.Common.{arith}
use Rattle.otap_checks.proofs.KnownSteps.{one_table_more}
use Rattle.otap_checks.proofs.known.read_tables.Goals as goal

pub links-preserved : goal.links-preserved
links-preserved g c = record {
  right = c.in_ok-read_table.ensures.right c.links.invariant.right;
  weights = c.in_ok-read_table.ensures.weights c.links.invariant.weights;
  all = one_table_more c.args.links.now c.links.place _ c.links.known.items _ c.links-test.true c.in_ok-read_table.ensures.kept c.links.invariant.all c.in_ok-read_table.ensures.all;
}

pub returns-clause-all : goal.returns-clause-all
returns-clause-all g c = λ k d within. c.links.invariant.all k d (omega (arith, within, c.links-test.false))
