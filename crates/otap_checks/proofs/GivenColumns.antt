-- Columns of ids: what a refusal to give them says, and that they are one list.
use Rattle.std.proofs.Common.{◌≡◌, ℕ, Bool, true, List, Option, Some, sym, subst}
use Rattle.otap_attrs.specs.declared.refusal.RowRefusal.{RowRefusal}
use Rattle.otap_attrs.specs.declared.refusal.RowRefusal.TheVariants as why
use Rattle.otap_attrs.specs.Refusals.{refusal_of_ids}
use Rattle.otap_cells.specs.declared.ids.IdFault.TheVariants as fault
use Rattle.otap_cells.specs.declared.column_ids.IdsRefusal.{IdsRefusal}
use Rattle.otap_cells.specs.declared.column_ids.IdsRefusal.TheVariants as refusal
use Rattle.otap_cells.specs.Columns.{is_id_at}
use Rattle.otap_cells.specs.Named.{table_named}
use Rattle.otap_cells.specs.Ids.{Twice}
use Rattle.otap_cells.specs.Tables.{Table, coding_in, greatest_in}
use Rattle.otap_cells.specs.ColumnIds.{RefusesIds, stored_in}
use Rattle.otap_cells.specs.Continuing.{continues_in}
use Rattle.otap_cells.specs.GivenIds.{HasIds}
use Rattle.otap_cells.proofs.IdLaws.{one_list}
use Rattle.otap_checks.specs.declared.signals.TableLink.{TableLink}
use Rattle.otap_checks.specs.declared.signals.Parents.{Parents}
use Rattle.otap_attrs.specs.Defects.{OrphanIn, RefusesRow}
use Rattle.otap_checks.specs.IdDefects.{Duplicate, DuplicateOf, Orphan, OrphanOf, WrongIn}
use Rattle.otap_checks.specs.Inside.{ColumnFault}
use Rattle.otap_checks.specs.Given.{AreGiven}

-- a refusal to give a column's ids is a fault of the column
pub column_refused : (t : Table) (column : ℕ) (continues : List Bool) (inner : IdsRefusal) → continues ≡ continues_in t → is_id_at t.kind column ≡ true
    → RefusesIds t column continues inner → RefusesRow (ColumnFault t) (refusal_of_ids inner)
column_refused t column continues (refusal.Memory error) is id refuses = tt
column_refused t column continues (refusal.Ids fault.PastType) is id refuses =
    (column, id, (refuses.0, λ ids are. refuses.1 ids (rw is are)))
column_refused t column continues (refusal.Ids fault.NullParent) is id refuses = (column, id, refuses)
column_refused t column continues (refusal.Ids fault.Duplicate) is id refuses = absurd refuses

-- a column has one list of ids
pub one_given : (t : Table) (column : ℕ) (xs ys : List (Option ℕ)) → HasIds t column xs → HasIds t column ys → xs ≡ ys
one_given t column xs ys a b = one_list (coding_in t column) (greatest_in t column) 0 (continues_in t) (stored_in t column) xs ys a b

-- nothing is wrong with a table whose columns, own ids and parents are fine
pub nothing_wrong : (tables : List Table) (t : Table) (link : TableLink) → AreGiven t → (DuplicateOf t link.own → ⊥) → (OrphanOf tables t link.parents → ⊥)
    → (wrong : RowRefusal) → WrongIn tables t link wrong → ⊥
nothing_wrong tables t link given own parents (why.Ids fault.PastType) is = let here = given is.0 is.1 in is.2.1 here.ids here.are
nothing_wrong tables t link given own parents (why.Ids fault.NullParent) is = (given is.0 is.1).parents is.2
nothing_wrong tables t link given own parents (why.Ids fault.Duplicate) is = own is
nothing_wrong tables t link given own parents why.Orphan is = parents is
nothing_wrong tables t link given own parents why.Disagree is = is
nothing_wrong tables t link given own parents why.BadValueType is = is
nothing_wrong tables t link given own parents (why.BadCbor refusal) is = is
nothing_wrong tables t link given own parents why.TwoValues is = is
nothing_wrong tables t link given own parents why.BadKind is = is
nothing_wrong tables t link given own parents (why.Memory error) is = is

-- two rows with one id show in the ids of the column
pub own_once : (t : Table) (own : Option ℕ) (column : ℕ) (ids : List (Option ℕ)) → own ≡ Some column → HasIds t column ids → (Twice ids → ⊥) → DuplicateOf t own → ⊥
own_once t own column ids is are once dup =
    let here : Duplicate t column = subst (DuplicateOf t) is dup in
    once (subst Twice (one_given t column here.ids ids here.are are) here.twice)

-- and parents that aren't there from the ids of both columns
pub no_orphan : (tables : List Table) (t : Table) (parents : Option Parents) (above : Parents) (named known : List (Option ℕ)) → parents ≡ Some above
    → HasIds t above.column named → HasIds (table_named above.of tables) above.at known → (OrphanIn named known → ⊥) → OrphanOf tables t parents → ⊥
no_orphan tables t parents above named known is are are_known none orphan =
    let here : Orphan t above.column (table_named above.of tables) above.at = subst (OrphanOf tables t) is orphan in
    none (subst (λ ids. OrphanIn ids known) (one_given t above.column here.lost.parents named here.lost.are are)
    (subst (OrphanIn here.lost.parents) (one_given (table_named above.of tables) above.at here.ids known here.known are_known) here.lost.orphan))

pub an_orphan : (tables : List Table) (t : Table) (parents : Option Parents) (above : Parents) (named known : List (Option ℕ)) → parents ≡ Some above
    → HasIds t above.column named → HasIds (table_named above.of tables) above.at known → OrphanIn named known → OrphanOf tables t parents
an_orphan tables t parents above named known is are are_known orphan =
    let here : Orphan t above.column (table_named above.of tables) above.at = record { ids = known; known = are_known; lost = record { parents = named; are = are; orphan = orphan } } in
    subst (OrphanOf tables t) (sym is) here
