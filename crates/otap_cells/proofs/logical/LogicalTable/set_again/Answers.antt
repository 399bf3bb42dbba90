use Rattle.std.proofs.Common.{◌≡◌, ◌<◌, ◌-◌, length, get_or, refl, ap, ◌∙◌, arith}
use Rattle.otap_cells.specs.Cells.{Cell, null}
use Rattle.otap_cells.specs.Tables.{Table, cell_in, with_cell}
use Rattle.otap_cells.proofs.ByPlace.{kind-table_by, count-table_by}
use Rattle.otap_cells.proofs.Columnwise.{same_kind, same_count, in_columns, fits_past, one_kept, one_shown, shows, shows_kept, holds}
use Rattle.otap_cells.proofs.logical.LogicalTable.set_again.Goals as goal

pub overflow_sub-row : goal.overflow_sub-row
overflow_sub-row c = omega (arith, same_count _ _ _ _ c.self.view_is)

pub index_mut-requires : goal.index_mut-requires
index_mut-requires c =
    let there : c.args.column < length c.self.inside.columns.items
    = in_columns _ _ _ _ c.self.view_is c.self.invariant _ c.requires.column (omega arith) in
    omega (arith, c.self.inside.columns.ok.0)

pub set_again-requires-clause-some : goal.set_again-requires-clause-some
set_again-requires-clause-some c = omega (arith, same_count _ _ _ _ c.self.view_is)

pub set_again-requires-clause-last : goal.set_again-requires-clause-last
set_again-requires-clause-last c = fits_past _ _ _ _ c.self.view_is c.self.invariant _ c.requires.column (omega arith) _ _ c.index_mut.ensures.value

pub invariant_of-self-2 : goal.invariant_of-self-2
invariant_of-self-2 c =
    let row = c.self.inside.rows - 1 - 1 in
    let within : row < length c.args.self.now.rows = omega (arith, same_count _ _ _ _ c.self.view_is, c.requires.rows) in
    let found = shows_kept _ _ _ _ c.self.view_is c.self.invariant c.args.column row c.requires.column within c.index_mut.result.now _ (get_or c.index_mut.result.now row null) c.index_mut.ensures.value refl in
    one_kept _ _ _ _ c.self.view_is c.self.invariant _ c.requires.column (omega arith) _ _ _ _
    c.index_mut.ensures.value c.in_ok-set_again.ensures.ok (holds _ _ _ _ c.self.view_is c.self.invariant c.args.column row _ found)

pub returns-clause-ok : goal.returns-clause-ok
returns-clause-ok c =
    let row = c.self.inside.rows - 1 - 1 in
    let t = c.args.self.now in
    let within : row < length t.rows = omega (arith, same_count _ _ _ _ c.self.view_is, c.requires.rows) in
    let found = shows_kept _ _ _ _ c.self.view_is c.self.invariant c.args.column row c.requires.column within c.index_mut.result.now _ (get_or c.index_mut.result.now row null) c.index_mut.ensures.value refl in
    let last : row ≡ length t.rows - 2 = omega (arith, same_count _ _ _ _ c.self.view_is, c.requires.rows) in
    let cell : get_or c.index_mut.result.now row null ≡ cell_in t.rows c.args.column (length t.rows - 2) =
    shows _ _ _ _ c.self.view_is c.args.column row _ found c.requires.column within ∙ ap (cell_in t.rows c.args.column) last in
    one_shown _ _ _ _ c.self.view_is c.self.invariant _ c.requires.column (omega arith) _ _ _ _
    c.index_mut.ensures.value c.in_ok-set_again.ensures.ok
    ∙ ap {B = Table} (λ (x : Cell). record t { rows = with_cell c.args.column x t.rows }) cell

pub returns-clause-kind : goal.returns-clause-kind
returns-clause-kind c = kind-table_by _ _ _ _ _ ∙ same_kind _ _ _ _ c.self.view_is

pub returns-clause-count : goal.returns-clause-count
returns-clause-count c = count-table_by _ _ _ _ _ ∙ same_count _ _ _ _ c.self.view_is
