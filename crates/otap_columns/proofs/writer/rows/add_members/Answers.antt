use Rattle.std.proofs.Common.{◌≡◌, length, map, take, arith, ap}
use Rattle.std.specs.Prelude.{sum_by}
use Rattle.std.proofs.lemmas.List.{take_all}
use Rattle.otap_cells.specs.declared.grouping.GroupMember.{GroupMember}
use Rattle.otap_columns.specs.BuiltCells.{column_most, columns_most}
use Rattle.otap_cells.specs.StaticGroups.{member_in}
use Rattle.otap_columns.specs.FormsIn.{forms_in}
use Rattle.otap_columns.specs.BuiltRows.{columns_in}
use Rattle.otap_columns.proofs.BatchGrown.{grows_less, list_grows, list_room}
use Rattle.otap_columns.proofs.RowsAdded.{members_step}
use Rattle.lists.proofs.MadeSums.{sum_of_map}
use Rattle.otap_columns.proofs.Summing.{sum_of-same}
use Rattle.otap_columns.proofs.writer.rows.add_members.Goals as goal

pub add_member-requires-clause-room : goal.add_member-requires-clause-room
add_member-requires-clause-room c =
    let t = c.args.table.now in
    let ms = c.args.members.now in
    list_room (λ (m : GroupMember). 1) (λ (m : GroupMember). column_most t m.column) ms c.members.member-index _ (length ms) (columns_most t (map member_in ms)) c.args.batch.now c.members.batch (omega arith)
    (omega (arith, sum_of-same 1 ms)) (omega (arith, sum_of_map (λ m. column_most t m.column) member_in ms)) c.requires.room c.members.invariant.1

pub members-preserved : goal.members-preserved
members-preserved c = (
  members_step (forms_in c.args.forms.now) (columns_in c.args.columns.now) c.args.table.now c.args.members.now c.members.member-index _ c.args.batch.now c.members.batch c.add_member.new.batch
      (omega arith) c.members.invariant.0 c.in_ok-add_member.ensures.ok,
  list_grows (λ (m : GroupMember). 1) (λ (m : GroupMember). column_most c.args.table.now m.column) c.args.members.now c.members.member-index _ c.args.batch.now c.members.batch c.add_member.new.batch
      (omega arith) c.members.invariant.1 c.in_ok-add_member.ensures.grows,
)

pub returns-clause-grows : goal.returns-clause-grows
returns-clause-grows c =
    let t = c.args.table.now in
    let ms = c.args.members.now in
    let all : take c.members.member-index ms ≡ ms = take_all c.members.member-index ms (omega arith) in
    grows_less _ (length ms) _ (columns_most t (map member_in ms)) c.args.batch.now c.members.batch
    (omega (arith, ap (sum_by (λ (m : GroupMember). 1)) all, sum_of-same 1 ms))
    (omega (arith, ap (sum_by (λ (m : GroupMember). column_most t m.column)) all, sum_of_map (λ m. column_most t m.column) member_in ms)) c.members.invariant.1
