use Rattle.std.proofs.Common.{◌≡◌, ◌+◌, ◌*◌, [], length, map, take, arith, ap, ◌∙◌, subst, List}
use Rattle.std.specs.Prelude.{sum_by}
use Rattle.std.proofs.lemmas.List.{take_all}
use Rattle.otap_cells.specs.Columns.{columns_of}
use Rattle.otap_cells.specs.Weights.{weight_of_table}
use Rattle.otap_columns.specs.Limits.{row_limit}
use Rattle.otap_cells.specs.declared.grouping.ColumnGroup.{ColumnGroup}
use Rattle.otap_cells.specs.Groups.{grouped}
use Rattle.otap_columns.specs.BuiltCells.{group_most, group_parts}
use Rattle.otap_cells.specs.StaticGroups.{group_in}
use Rattle.otap_columns.specs.FormsIn.{forms_in}
use Rattle.otap_columns.specs.BuiltRows.{AddsSlots, columns_in}
use Rattle.otap_columns.proofs.BatchGrown.{list_grows, list_room, message_short}
use Rattle.otap_columns.proofs.Counting.{groups_bytes, groups_parts, room_for_all}
use Rattle.otap_columns.proofs.RowsAdded.{group_slots, groups_step, rows_given, rows_light}
use Rattle.otap_columns.proofs.writer.rows.rows_of.Goals as goal

pub new-batch-requires : goal.new-batch-requires
new-batch-requires c = omega (arith, rows_light c.args.table.now, c.requires.can.light, c.rows.ensures.count)

pub add_group-requires-clause-room : goal.add_group-requires-clause-room
add_group-requires-clause-room c =
    let t = c.args.table.now in
    let gs = c.column_groups-groups.result.now in
    let are : map group_in gs ≡ grouped (columns_of t.kind) = c.column_groups-groups.ensures.are ∙ ap (λ k. grouped (columns_of k)) c.kind.ensures in
    list_room (λ (g : ColumnGroup). group_parts (group_in g)) (λ (g : ColumnGroup). group_most t (group_in g)) gs c.groups.group-index _ 32 (row_limit * length t.rows + weight_of_table t + 1024)
    (record { rows = length t.rows; nodes = []; buffers = [] }) c.groups.batch (omega arith) (groups_parts t gs are) (groups_bytes t gs are) (room_for_all t c.requires.can.light) c.groups.invariant.1

pub groups-preserved : goal.groups-preserved
groups-preserved c = (
  groups_step (forms_in c.args.forms.now) (columns_in c.args.columns.now) c.args.table.now c.column_groups-groups.result.now c.groups.group-index _
      (record { rows = length c.args.table.now.rows; nodes = []; buffers = [] }) c.groups.batch c.add_group.new.batch (omega arith) c.groups.invariant.0 c.in_ok-add_group.ensures.ok,
  list_grows (λ (g : ColumnGroup). group_parts (group_in g)) (λ (g : ColumnGroup). group_most c.args.table.now (group_in g)) c.column_groups-groups.result.now c.groups.group-index _
      (record { rows = length c.args.table.now.rows; nodes = []; buffers = [] }) c.groups.batch c.add_group.new.batch (omega arith) c.groups.invariant.1 c.in_ok-add_group.ensures.grows,
)

pub returns-clause-holds : goal.returns-clause-holds
returns-clause-holds c =
    let are : map group_in c.column_groups-groups.result.now ≡ grouped (columns_of c.args.table.now.kind) = c.column_groups-groups.ensures.are ∙ ap (λ k. grouped (columns_of k)) c.kind.ensures in
    let all : take c.groups.group-index c.column_groups-groups.result.now ≡ c.column_groups-groups.result.now = take_all c.groups.group-index c.column_groups-groups.result.now (omega arith) in
    rows_given (forms_in c.args.forms.now) (columns_in c.args.columns.now) c.args.table.now c.column_groups-groups.result.now c.groups.batch c.requires.fit c.requires.values are
    (subst (λ (gs : List ColumnGroup). AddsSlots (forms_in c.args.forms.now) (columns_in c.args.columns.now) c.args.table.now (group_slots c.args.table.now.kind (forms_in c.args.forms.now) gs)
    (record { rows = length c.args.table.now.rows; nodes = []; buffers = [] }) c.groups.batch) all c.groups.invariant.0)

pub returns-clause-short : goal.returns-clause-short
returns-clause-short c =
    let t = c.args.table.now in
    let gs = c.column_groups-groups.result.now in
    let are : map group_in gs ≡ grouped (columns_of t.kind) = c.column_groups-groups.ensures.are ∙ ap (λ k. grouped (columns_of k)) c.kind.ensures in
    let all : take c.groups.group-index gs ≡ gs = take_all c.groups.group-index gs (omega arith) in
    omega (
      arith,
      message_short (sum_by (λ (g : ColumnGroup). group_parts (group_in g)) (take c.groups.group-index gs)) (sum_by (λ (g : ColumnGroup). group_most t (group_in g)) (take c.groups.group-index gs))
          (length t.rows) c.groups.batch c.groups.invariant.1,
      ap (sum_by (λ (g : ColumnGroup). group_parts (group_in g))) all,
      ap (sum_by (λ (g : ColumnGroup). group_most t (group_in g))) all,
      groups_parts t gs are,
      groups_bytes t gs are,
    )
