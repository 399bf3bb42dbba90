use Rattle.std.proofs.Common.{sym, ◌∙◌}
use Rattle.otap_cells.proofs.Dotted.{joined_after, joined_elsewhere}
use Rattle.otap_cells.proofs.paths.+is_joined.Goals as goal

pub returns-in-Some-after_dot : goal.returns-in-Some-after_dot
returns-in-Some-after_dot t c =
    c.is_joined.ensures
    ∙ sym (joined_after _ _ c.in-Some.first.now _ _ c.in-Some.ensures.cases.0 (sym c.is_empty-2.ensures ∙ c.if-is_empty.false) c.in-Some-after_dot.ensures)

pub returns-in-None : goal.returns-in-None
returns-in-None t c =
    sym (joined_elsewhere _ _ c.in-Some.first.now _ c.in-Some.ensures.cases.0 (sym c.is_empty-2.ensures ∙ c.if-is_empty.false) c.in-None.ensures)
