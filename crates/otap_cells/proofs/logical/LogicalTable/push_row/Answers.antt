use Rattle.std.proofs.Common.{◌+◌, ◌∙◌, ap, arith}
use Rattle.otap_cells.specs.Columns.{coding_at}
use Rattle.otap_cells.specs.Tables.{table_by, greatest_wide}
use Rattle.otap_cells.proofs.ByPlace.{kind-table_by, count-table_by}
use Rattle.otap_cells.proofs.Columnwise.{same_kind, same_count, widened, one_more, row_added, same_cells}
use Rattle.otap_cells.proofs.logical.LogicalTable.push_row.Goals as goal

pub invariant_of-self : goal.invariant_of-self
invariant_of-self c =
    widened _ _ _ _ c.self.invariant c.in_err-widen.ensures.same c.in_err-widen.ensures.grows
    (omega (arith, c.in_err-widen.ensures.few, c.columns.ensures.width))

pub invariant_of-self-2 : goal.invariant_of-self-2
invariant_of-self-2 c =
    one_more _ _ _
    (widened _ _ _ _ c.self.invariant c.in_ok-widen.ensures.same c.in_ok-widen.ensures.grows
    (omega (arith, c.in_ok-widen.ensures.few, c.columns.ensures.width)))
    (c.in_ok-widen.ensures.ok ∙ c.columns.ensures.width)

pub returns-clause-ok : goal.returns-clause-ok
returns-clause-ok c =
    ap (table_by c.self.inside.kind (coding_at c.self.inside.kind) (λ column. greatest_wide) (c.self.inside.rows + 1)) (same_cells _ _ c.in_ok-widen.ensures.same)
    ∙ row_added _ _ _ _ c.self.invariant c.self.view_is

pub returns-in_err-widen-clause-kind : goal.returns-in_err-widen-clause-kind
returns-in_err-widen-clause-kind c = kind-table_by _ _ _ _ _ ∙ same_kind _ _ _ _ c.self.view_is

pub returns-clause-kind : goal.returns-clause-kind
returns-clause-kind c = kind-table_by _ _ _ _ _ ∙ same_kind _ _ _ _ c.self.view_is

pub returns-clause-count : goal.returns-clause-count
returns-clause-count c = count-table_by _ _ _ _ _ ∙ ap (λ n. n + 1) (same_count _ _ _ _ c.self.view_is)
