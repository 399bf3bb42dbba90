use Rattle.std.proofs.Common.{◌≡◌, ◌∙◌, Some, map, drop, refl, ap, arith, length-set}
use Rattle.otap_cells.specs.declared.profile.Coding.TheVariants.{Run}
use Rattle.otap_cells.specs.Ids.{base_of}
use Rattle.otap_cells.specs.Inside.{stored_after}
use Rattle.otap_cells.proofs.IdSteps.{run_low, run_rise, run_stored, run_all}
use Rattle.otap_cells.proofs.IdLaws.{stored_stands}
use Rattle.otap_cells.proofs.ids.run_ids.Goals as goal

pub overflow_sub-ids : goal.overflow_sub-ids
overflow_sub-ids c =
    let low = run_low c.ids.ids c.ids.place c.args.continues.now (omega arith) _ c.ids.invariant.rise in
    omega (arith, low, c.base.ensures, ap (λ b. base_of Run b c.ids.before) c.continues_at.ensures)

pub ids-preserved : goal.ids-preserved
ids-preserved c = record {
  rise = run_rise c.ids.ids c.ids.place c.args.continues.now (omega arith) _ _ c.ids.invariant.rise;
  same = run_stored c.ids.ids c.ids.place c.args.continues.now (omega arith) _ _ _ (c.base.ensures ∙ ap (λ b. base_of Run b c.ids.before) c.continues_at.ensures) c.ids.invariant.same;
  long = length-set _ _ _ ∙ c.ids.invariant.long;
}

pub returns : goal.returns
returns c = λ last most.
    let stored : map (λ x. Some x) c.ids.ids ≡ stored_after Run 0 c.args.continues.now (map (λ x. Some x) c.args.ids.now)
    = run_all c.ids.ids c.ids.place (stored_after Run c.ids.before (drop c.ids.place c.args.continues.now)) _ (omega (arith, c.ids.invariant.long)) refl c.ids.invariant.same in
    rw stored (stored_stands Run last 0 c.args.continues.now (map (λ x. Some x) c.args.ids.now) c.requires most)
