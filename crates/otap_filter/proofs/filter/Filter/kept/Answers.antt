use Rattle.std.proofs.Common.{ap, subst, sym, ◌∙◌}
use Rattle.otlp_model.specs.declared.request.Signal.{Signal}
use Rattle.otap_kept.specs.Clean.{AreCleanAndLight}
use Rattle.otap_filter.specs.Filters.{FilterIn}
use Rattle.otap_filter.proofs.Keeping.{can_be_sent}
use Rattle.otap_filter.proofs.filter.Filter.kept.Goals as goal

pub kept-requires : goal.kept-requires
kept-requires c =
    let checks = c.in_ok-checked.ensures.checks in
    subst (λ (s : Signal). AreCleanAndLight s c.in_ok-checked.checked.tables) (sym c.signal.ensures) (record { clean = checks.fine.clean; light = checks.limits.light })

pub returns-clause-fit : goal.returns-clause-fit
returns-clause-fit c =
    let checks = c.in_ok-checked.ensures.checks in
    let accepted : AreCleanAndLight c.signal.result c.in_ok-checked.checked.tables =
    subst (λ (s : Signal). AreCleanAndLight s c.in_ok-checked.checked.tables) (sym c.signal.ensures) (record { clean = checks.fine.clean; light = checks.limits.light }) in
    can_be_sent c.what_is_kept_can_be_written.ensures.profile c.what_is_kept_can_be_written.ensures.order c.rows_are_no_heavier.ensures c.profile_tables_can_be_written.ensures
    c.signal.result c.self.inside.whose _ c.in_ok-checked.checked.tables c.in_ok-found.found accepted checks.limits.are c.in_ok-found.ensures.kept c.in_ok-found.ensures.ordered
    c.args.self.now (c.signal.ensures ∙ ap (λ (f : FilterIn). f.segment.signal) c.self.view_is)
