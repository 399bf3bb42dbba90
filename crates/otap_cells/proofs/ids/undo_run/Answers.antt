use Rattle.std.proofs.Common.{◌≡◌, ◌+◌, ◌<◌, ◌∙◌, Some, map, drop, get_or, refl, sym, ap, arith, length-set}
use Rattle.std.proofs.lemmas.Bool.{false≢true}
use Rattle.otap_cells.specs.declared.profile.Coding.TheVariants.{Run}
use Rattle.otap_cells.specs.Ids.{base_of, goes_on, undone_after}
use Rattle.otap_cells.proofs.IdLaws.{undone_stands, stands_fits}
use Rattle.otap_cells.proofs.IdSteps.{run_fits, run_undone, run_stops, run_kept, run_all, run_done}
use Rattle.otap_cells.proofs.ids.undo_run.Goals as goal

pub returns-in_default-clause-past : goal.returns-in_default-clause-past
returns-in_default-clause-past c = (
  refl,
  λ given stands.
      let high : c.args.last < base_of Run (goes_on (drop c.ids.place c.args.continues.now)) c.ids.before + get_or c.ids.ids c.ids.place 0
      = rw (← c.continues_at.ensures, ← c.base.ensures) c.in_default.ensures in
      let stops = run_stops c.ids.ids c.ids.place c.args.continues.now (omega arith) c.ids.before c.args.last high in
      absurd (false≢true (sym stops ∙ c.ids.invariant.fit ∙ stands_fits Run c.args.last 0 c.args.continues.now (map (λ x. Some x) c.args.ids.now) given stands)),
)

pub returns-in_default-clause-undone : goal.returns-in_default-clause-undone
returns-in_default-clause-undone c =
    let high : c.args.last < base_of Run (goes_on (drop c.ids.place c.args.continues.now)) c.ids.before + get_or c.ids.ids c.ids.place 0
    = rw (← c.continues_at.ensures, ← c.base.ensures) c.in_default.ensures in
    run_kept c.ids.ids c.ids.place c.args.continues.now (omega arith) c.ids.before c.args.last high _ c.ids.invariant.same

pub ids-preserved : goal.ids-preserved
ids-preserved c =
    let is = c.in-Some.ensures.0 ∙ ap (λ b. b + get_or c.ids.ids c.ids.place 0) (c.base.ensures ∙ ap (λ b. base_of Run b c.ids.before) c.continues_at.ensures) in
    record {
      fit = run_fits c.ids.ids c.ids.place c.args.continues.now (omega arith) _ _ _ is _ c.in-Some.ensures.1 c.ids.invariant.fit;
      same = run_undone c.ids.ids c.ids.place c.args.continues.now (omega arith) _ _ _ is _ c.in-Some.ensures.1 c.ids.invariant.same;
      long = length-set _ _ _ ∙ c.ids.invariant.long;
    }

pub returns-clause-ids : goal.returns-clause-ids
returns-clause-ids c =
    let given : map (λ x. Some x) c.ids.ids ≡ undone_after Run c.args.last 0 c.args.continues.now (map (λ x. Some x) c.args.ids.now)
    = run_all c.ids.ids c.ids.place (undone_after Run c.args.last c.ids.before (drop c.ids.place c.args.continues.now)) _ (omega (arith, c.ids.invariant.long)) refl c.ids.invariant.same in
    rw given (undone_stands Run c.args.last 0 c.args.continues.now (map (λ x. Some x) c.args.ids.now) (sym c.ids.invariant.fit ∙ run_done c.ids.ids c.ids.place _ _ _ (omega (arith, c.ids.invariant.long))))
