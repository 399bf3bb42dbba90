use Rattle.std.proofs.Common.{◌+◌, ◌∙◌, sym, ap, arith, length-set}
use Rattle.otap_cells.specs.Ids.{base_of}
use Rattle.otap_cells.proofs.IdSteps.{fits_none, undone_none, fits_some, undone_some}
use Rattle.otap_cells.proofs.ids.undo.Goals as goal

pub ids-preserved-in-None : goal.ids-preserved-in-None
ids-preserved-in-None c = record {
  fit = fits_none c.ids.ids c.ids.place _ c.args.continues.now (omega arith) _ _ c.in-None.is _ (sym c.takes_null.ensures ∙ c.if-not-takes_null.false) _ c.ids.invariant.fit;
  same = undone_none c.ids.ids c.ids.place _ c.args.continues.now (omega arith) _ _ c.in-None.is _ (sym c.takes_null.ensures ∙ c.if-not-takes_null.false) _ c.ids.invariant.same;
  long = c.ids.invariant.long;
}

pub ids-preserved : goal.ids-preserved
ids-preserved c =
    let is = c.in-Some-next_id.ensures.0 ∙ ap (λ b. b + c.in-Some.number) (c.base.ensures ∙ ap (λ b. base_of c.args.how b c.ids.before) c.continues_at.ensures) in
    record {
      fit = fits_some c.ids.ids c.ids.place _ c.args.continues.now (omega arith) _ _ _ c.in-Some.is _ _ is c.in-Some-next_id.ensures.1 _ c.ids.invariant.fit;
      same = undone_some c.ids.ids c.ids.place _ c.args.continues.now (omega arith) _ _ _ c.in-Some.is _ _ is c.in-Some-next_id.ensures.1 _ c.ids.invariant.same;
      long = length-set _ _ _ ∙ c.ids.invariant.long;
    }
