use Rattle.std.proofs.Common.{◌∙◌, ap, arith, length-set}
use Rattle.otap_cells.specs.Ids.{base_of}
use Rattle.otap_cells.proofs.IdSteps.{rise_none, stored_none, rise_some, stored_some}
use Rattle.otap_cells.proofs.ids.code.Goals as goal

pub ids-preserved-in-None : goal.ids-preserved-in-None
ids-preserved-in-None c = record {
  rise = rise_none c.ids.ids c.ids.place _ c.args.continues.now (omega arith) _ _ c.in-None.is c.ids.invariant.rise;
  same = stored_none c.ids.ids c.ids.place _ c.args.continues.now (omega arith) _ _ c.in-None.is _ c.ids.invariant.same;
  long = c.ids.invariant.long;
}

pub ids-preserved : goal.ids-preserved
ids-preserved c = record {
  rise = rise_some c.ids.ids c.ids.place _ c.args.continues.now (omega arith) _ _ _ c.in-Some.is _ c.ids.invariant.rise;
  same = stored_some c.ids.ids c.ids.place _ c.args.continues.now (omega arith) _ _ _ c.in-Some.is _ _
      (c.base.ensures ∙ ap (λ b. base_of c.args.how b c.ids.before) c.continues_at.ensures) c.ids.invariant.same;
  long = length-set _ _ _ ∙ c.ids.invariant.long;
}
