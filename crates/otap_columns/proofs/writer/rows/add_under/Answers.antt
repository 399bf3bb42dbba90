use Rattle.std.proofs.Common.{length, map, arith, ap, ◌∙◌, sym}
use Rattle.arrow_arrays.specs.Written.{struct_part}
use Rattle.otap_columns.specs.BuiltCells.{columns_most, with_part}
use Rattle.otap_cells.specs.StaticGroups.{member_in}
use Rattle.otap_columns.specs.FormsIn.{forms_in}
use Rattle.otap_columns.specs.BuiltRows.{columns_in}
use Rattle.otap_columns.proofs.BatchGrown.{under_grows}
use Rattle.otap_columns.proofs.RowsAdded.{rows_light, under_none, under_ok}
use Rattle.otap_columns.proofs.writer.rows.add_under.Goals as goal

pub returns-then-not-any_there-clause-ok : goal.returns-then-not-any_there-clause-ok
returns-then-not-any_there-clause-ok c =
    under_none (forms_in c.args.forms.now) (columns_in c.args.columns.now) c.args.table.now c.args.name.now c.args.members.now c.args.batch.now (sym c.any_there.ensures ∙ c.if-not-any_there.true)

pub add_struct-requires-clause-rows : goal.add_struct-requires-clause-rows
add_struct-requires-clause-rows c = omega (arith, rows_light c.args.table.now, c.requires.can.light, c.rows.ensures.count)

pub returns-clause-ok : goal.returns-clause-ok
returns-clause-ok c =
    under_ok (forms_in c.args.forms.now) (columns_in c.args.columns.now) c.args.table.now c.args.name.now c.args.members.now c.args.batch.now c.add_struct.new.batch c.add_members.new.batch c.add_members.result
    (sym c.any_there.ensures ∙ c.if-not-any_there.false) (c.in_ok-add_struct.ensures.ok ∙ ap (λ n. with_part c.args.batch.now (struct_part n)) c.rows.ensures.count) c.add_members.ensures.ok

pub returns-clause-grows : goal.returns-clause-grows
returns-clause-grows c =
    under_grows (length c.args.members.now) (columns_most c.args.table.now (map member_in c.args.members.now)) c.args.batch.now c.add_struct.new.batch c.add_members.new.batch c.add_members.result
    c.in_ok-add_struct.ensures.grows c.add_members.ensures.grows
