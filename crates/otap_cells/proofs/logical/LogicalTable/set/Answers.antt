use Rattle.std.proofs.Common.{◌<◌, length, ◌∙◌, arith}
use Rattle.otap_cells.proofs.ByPlace.{kind-table_by, count-table_by}
use Rattle.otap_cells.proofs.Columnwise.{same_kind, same_count, in_columns, fits_past, one_kept, one_shown}
use Rattle.otap_cells.proofs.logical.LogicalTable.set.Goals as goal

pub overflow_sub-row : goal.overflow_sub-row
overflow_sub-row c = omega (arith, same_count _ _ _ _ c.self.view_is)

pub index_mut-requires : goal.index_mut-requires
index_mut-requires c =
    let there : c.args.column < length c.self.inside.columns.items
    = in_columns _ _ _ _ c.self.view_is c.self.invariant _ c.requires.column c.requires.row in
    omega (arith, c.self.inside.columns.ok.0)

pub set-requires-clause-last : goal.set-requires-clause-last
set-requires-clause-last c = fits_past _ _ _ _ c.self.view_is c.self.invariant _ c.requires.column c.requires.row _ _ c.index_mut.ensures.value

pub invariant_of-self-2 : goal.invariant_of-self-2
invariant_of-self-2 c =
    one_kept _ _ _ _ c.self.view_is c.self.invariant _ c.requires.column c.requires.row _ _ _ _
    c.index_mut.ensures.value c.in_ok-set.ensures.ok c.requires.base

pub returns-clause-ok : goal.returns-clause-ok
returns-clause-ok c =
    one_shown _ _ _ _ c.self.view_is c.self.invariant _ c.requires.column c.requires.row _ _ _ _
    c.index_mut.ensures.value c.in_ok-set.ensures.ok

pub returns-clause-kind : goal.returns-clause-kind
returns-clause-kind c = kind-table_by _ _ _ _ _ ∙ same_kind _ _ _ _ c.self.view_is

pub returns-clause-count : goal.returns-clause-count
returns-clause-count c = count-table_by _ _ _ _ _ ∙ same_count _ _ _ _ c.self.view_is
