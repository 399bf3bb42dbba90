use Rattle.std.proofs.Common.{◌<◌, ◌≤◌, length, arith, refl, sym, ◌∙◌}
use Rattle.std.proofs.lemmas.Bool.{both_ways, false≢true, eqb-true}
use Rattle.otlp_model.specs.Same.{SameEntry}
use Rattle.otlp_model.proofs.Runs.{stepped, none_beside, run_some, run_shorter, starts_told, starts_gone, compared_found, compared_now, compared_moved}
use Rattle.otlp_model.proofs.walk.same_groups.Goals as goal
use Rattle.otlp_model.proofs.walk.same_groups.Goals.{then-compared-x, else-compared-x}

pub returns-in_default-run : goal.returns-in_default-run
returns-in_default-run g c =
    let a = c.in-Some.ensures in
    let b = c.in_default-run.ensures in
    let here = stepped (SameEntry g.I.Alike.alike) _ _ _ _ _ _ a.left b.left c.runs.invariant.same in (
      λ h. absurd (false≢true h),
      λ h. absurd (run_some _ _ _ _ _ _ _ a.run (none_beside (SameEntry g.I.Alike.alike) _ _ b.end (here.1 h))),
    )

pub starts_same-requires-clause-known : goal.starts_same-requires-clause-known
starts_same-requires-clause-known g c =
    let a = c.in-Some.ensures in
    let b = c.in-Some-run.ensures in
    elim c.if-compared-x.branch [
      | then-compared-x w ↦ λ h. compared_found _ _ _ _ _ _ _ _ _ _ _ _ _ _ a.run b.run
          (compared_moved _ _ _ _ _ _ _ _ a.groups b.groups (w.if-compared-x.true ∙ a.group)
          (eqb-true _ _ (sym w.known-is ∙ h) ∙ b.group) c.runs.invariant.compared)
      | else-compared-x w ↦ λ h. absurd (w.if-compared-x.false (eqb-true _ _ (sym w.known-is ∙ h)))
    ]

pub returns-then-not-starts_same : goal.returns-then-not-starts_same
returns-then-not-starts_same g c =
    let a = c.in-Some.ensures in
    let b = c.in-Some-run.ensures in
    let here = stepped (SameEntry g.I.Alike.alike) _ _ _ _ _ _ a.left b.left c.runs.invariant.same in
    let in_x : c.min-n.result ≤ length c.in-Some.x.items.now = omega (arith, c.min-n.ensures) in
    let in_y : c.min-n.result ≤ length c.in-Some-run.y.items.now = omega (arith, c.min-n.ensures) in
    let some : 0 < c.min-n.result = omega (arith, c.min-n.ensures, a.run.some, b.run.some) in (
      λ h. absurd (false≢true h),
      λ h. absurd (both_ways _ c.if-not-starts_same.true
          (c.starts_same.ensures.1 (starts_told g.I.Alike.alike _ _ _ _ _ _ _ _ _ _ _ _ _ _ _ a.run b.run in_x in_y some (here.1 h)))),
    )

pub runs-smaller : goal.runs-smaller
runs-smaller g c =
    let a = c.in-Some.ensures in
    let b = c.in-Some-run.ensures in
    let in_x : c.min-n.result ≤ length c.in-Some.x.items.now = omega (arith, c.min-n.ensures) in
    let some : 0 < c.min-n.result = omega (arith, c.min-n.ensures, a.run.some, b.run.some) in
    rw (← a.left) (run_shorter _ _ _ _ _ _ _ _ a.run in_x some)

pub runs-preserved : goal.runs-preserved
runs-preserved g c =
    let a = c.in-Some.ensures in
    let b = c.in-Some-run.ensures in
    let here = stepped (SameEntry g.I.Alike.alike) _ _ _ _ _ _ a.left b.left c.runs.invariant.same in
    let in_x : c.min-n.result ≤ length c.in-Some.x.items.now = omega (arith, c.min-n.ensures) in
    let in_y : c.min-n.result ≤ length c.in-Some-run.y.items.now = omega (arith, c.min-n.ensures) in
    let start = c.starts_same.ensures.0 c.if-not-starts_same.false in
    let gone = starts_gone g.I.Alike.alike _ _ _ _ _ _ _ _ _ _ _ _ _ _ _ a.run b.run in_x in_y start in
    record {
      same = (λ h. here.0 (gone.0 h), λ h. gone.1 (here.1 h));
      compared = compared_moved _ _ _ _ _ _ _ _ refl refl (sym a.group) (sym b.group)
          (compared_now _ _ _ _ _ _ _ _ _ _ _ _ _ _ a.run b.run start.resource);
    }
