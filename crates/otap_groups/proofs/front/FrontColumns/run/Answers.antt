use Rattle.std.proofs.Common.{sym, ◌∙◌, arith}
use Rattle.otap_groups.proofs.RunPlaces.{cut_at, goes_on, is_over, stops}
use Rattle.otap_groups.proofs.front.FrontColumns.run.Goals as goal

pub rows-preserved : goal.rows-preserved
rows-preserved g c = record {
  some = omega arith;
  within = omega arith;
  so_far = goes_on _ _ c.args.to c.rows.end _ (omega arith) (omega arith) (sym c.same.ensures ∙ c.if-same.true) c.rows.invariant.so_far;
}

pub returns-else-same-clause-cut : goal.returns-else-same-clause-cut
returns-else-same-clause-cut g c =
    cut_at _ _ c.args.from c.args.to c.rows.end c.requires.some
    (stops _ _ c.args.to c.rows.end _ (omega arith) (sym c.same.ensures ∙ c.if-same.false) c.rows.invariant.so_far)

pub returns-after-rows-clause-cut : goal.returns-after-rows-clause-cut
returns-after-rows-clause-cut g c =
    cut_at _ _ c.args.from c.args.to c.rows.end c.requires.some (is_over _ _ c.args.to c.rows.end _ (omega arith) c.rows.invariant.so_far)
