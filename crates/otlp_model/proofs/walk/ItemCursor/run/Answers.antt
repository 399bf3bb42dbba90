use Rattle.std.proofs.Common.{◌∙◌, ap, subst, sym, take, drop, length, ◌-◌}
use Rattle.otlp_model.specs.Walk.{IsRun}
use Rattle.otlp_model.proofs.Places.{left_scope, left_group, left_end, run_at}
use Rattle.otlp_model.proofs.walk.ItemCursor.run.Goals as goal

pub returns-then-self-items-clause-run : goal.returns-then-self-items-clause-run
returns-then-self-items-clause-run g c =
    let here = c.loop-self.self in
    let group = c.index-self-self in
    let scope = c.index-scopes-self in
    let scopes = c.as_slice-scopes.ensures ∙ ap (λ x. x.scopes) (sym group.is) in
    let within = rw scopes at c.if-self-scopes.true in
    let scope_is = rw scopes at scope.is in
    let some = rw c.as_slice-items.ensures at c.if-self-items.true in
    rw c.as_slice-items.ensures
    (subst (λ x. IsRun here.groups.now here.group here.scope here.item x.resource scope.result.scope
    (take (length scope.result.items - here.item) (drop here.item scope.result.items))) group.is
    (run_at here.groups.now here.group here.scope here.item group.result scope.result
    c.loop-self-test.true group.is within scope_is some))

pub loop-self-preserved-then-self-scopes : goal.loop-self-preserved-then-self-scopes
loop-self-preserved-then-self-scopes g c =
    let here = c.loop-self.self in
    let group = c.index-self-self in
    let scope = c.index-scopes-self in
    let scopes = c.as_slice-scopes.ensures ∙ ap (λ x. x.scopes) (sym group.is) in
    let within = rw scopes at c.if-self-scopes.true in
    let scope_is = rw scopes at scope.is in
    let none = rw c.as_slice-items.ensures at c.if-self-items.false in
    record {
      groups = c.loop-self.invariant.groups;
      left = left_scope here.groups.now here.group here.scope here.item group.result scope.result
          c.loop-self-test.true group.is within scope_is none ∙ c.loop-self.invariant.left;
    }

pub loop-self-preserved : goal.loop-self-preserved
loop-self-preserved g c =
    let here = c.loop-self.self in
    let group = c.index-self-self in
    let scopes = c.as_slice-scopes.ensures ∙ ap (λ x. x.scopes) (sym group.is) in
    let past = rw scopes at c.if-self-scopes.false in
    record {
      groups = c.loop-self.invariant.groups;
      left = left_group here.groups.now here.group here.scope here.item group.result
          c.loop-self-test.true group.is past ∙ c.loop-self.invariant.left;
    }

pub returns-clause-end : goal.returns-clause-end
returns-clause-end g c = left_end _ _ _ _ c.loop-self-test.false
