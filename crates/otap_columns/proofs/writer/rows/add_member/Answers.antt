use Rattle.std.proofs.Common.{◌≡◌, true, length, arith, ap, ◌∙◌, sym, subst}
use Rattle.std.specs.Prelude.{count_by, is_none}
use Rattle.arrow_buffers.specs.Columns.{ColumnIn, HasNoFault, cells_of, values_len}
use Rattle.arrow_buffers.specs.declared.width.Width.{Width}
use Rattle.otap_cells.specs.Columns.{base_at}
use Rattle.otap_cells.specs.Tables.{column_in}
use Rattle.otap_columns.specs.Seen.{SeenIn}
use Rattle.otap_columns.specs.SeenInside.{filled_up, places_of_cells}
use Rattle.otap_columns.specs.Schemas.{is_dictionary, is_present}
use Rattle.otap_columns.specs.WrittenCells.{stored_column}
use Rattle.otap_columns.specs.BuiltCells.{column_most, width_for}
use Rattle.otap_cells.specs.StaticGroups.{member_in}
use Rattle.otap_columns.specs.FormsIn.{forms_in}
use Rattle.otap_columns.specs.BuiltRows.{columns_in}
use Rattle.otap_columns.proofs.BatchGrown.{member_grows, room_less, sizes}
use Rattle.otap_columns.proofs.ColumnsShort.{column_short}
use Rattle.otap_columns.proofs.PartsBuilt.{IsBuiltOf}
use Rattle.otap_columns.proofs.RowsAdded.{column_light, member_ok}
use Rattle.otap_columns.proofs.writer.rows.add_member.Goals as goal

pub column_for-requires-clause-room : goal.column_for-requires-clause-room
column_for-requires-clause-room c =
    omega (arith, column_light c.form_of-form.result c.seen_at-seen.result.now.ladder.values c.args.table.now c.args.member.now.column, c.requires.can.light)

pub column_for-requires-clause-placed : goal.column_for-requires-clause-placed
column_for-requires-clause-placed c =
    λ dictionary.
    let t = c.args.table.now in
    let column = c.args.member.now.column in
    let form_is : c.form_of-form.result ≡ forms_in c.args.forms.now column = c.form_of-form.ensures in
    ap (λ (s : SeenIn). filled_up (length t.rows) s.places) c.seen_at-seen.ensures
    ∙ c.requires.can.placed column c.requires.column (ap is_dictionary (sym form_is) ∙ dictionary)
    ∙ sym (λ i. places_of_cells (base_at t.kind column) (form_is i) (c.seen_at-seen.ensures i).ladder.values (column_in t.rows column))

pub returns-clause-ok : goal.returns-clause-ok
returns-clause-ok c =
    let t = c.args.table.now in
    let column = c.args.member.now.column in
    let b = c.in_ok-buffers.buffers in
    let e = c.in_ok-buffers.ensures in
    let form_is : c.form_of-form.result ≡ forms_in c.args.forms.now c.args.member.now.column = c.form_of-form.ensures in
    let values_is : c.seen_at-seen.result.now.ladder.values ≡ columns_in c.args.columns.now c.args.member.now.column = ap (λ (s : SeenIn). s.ladder.values) c.seen_at-seen.ensures in
    let base_is : c.base_of.result ≡ base_at t.kind column = c.base_of.ensures ∙ ap (λ k. base_at k column) c.kind.ensures in
    let width_is : c.width_for-width.result ≡ width_for (base_at t.kind column) (forms_in c.args.forms.now column) = c.width_for-width.ensures ∙ (λ i. width_for (base_is i) (form_is i)) in
    let here : is_present (forms_in c.args.forms.now column) ≡ true = ap is_present (sym form_is) ∙ sym c.is_present.ensures ∙ c.if-not-is_present.false in
    let cells : c.in_ok-built.built.cells ≡ stored_column (forms_in c.args.forms.now column) (columns_in c.args.columns.now column) t column =
    ap (λ (k : ColumnIn). k.cells) c.in_ok-built.ensures ∙ (λ i. stored_column (form_is i) (values_is i) t column) in
    let width : c.in_ok-built.built.width ≡ width_for (base_at t.kind column) (forms_in c.args.forms.now column) =
    ap (λ (k : ColumnIn). k.width) c.in_ok-built.ensures ∙ (λ i. width_for (base_at t.kind column) (form_is i)) in
    let is : IsBuiltOf (forms_in c.args.forms.now) (columns_in c.args.columns.now) t c.requires.can.table (member_in c.args.member.now) b = record {
      rows = e.rows ∙ ap length cells;
      reads = (λ i. cells_of (sym width i) b.validity.items b.offsets.items b.values.items b.rows) ∙ e.reads ∙ cells;
      bitmap = e.bitmap;
      fine = subst (λ (w : Width). HasNoFault w b.offsets.items b.values.items b.rows) width e.no_fault;
      exact = e.nulls ∙ ap (count_by is_none) cells;
      bytes_len = e.values_len ∙ (λ i. values_len (width i) (cells i));
      single = c.requires.can.single column;
    } in
    member_ok (forms_in c.args.forms.now) (columns_in c.args.columns.now) t c.requires.can.table (member_in c.args.member.now) b c.args.batch.now c.add_column.new.batch c.width_for-width.result c.add_column.result
    here is width_is c.add_column.ensures

pub add_column-requires-clause-room : goal.add_column-requires-clause-room
add_column-requires-clause-room c =
    let t = c.args.table.now in
    let b = c.in_ok-buffers.buffers in
    let e = c.in_ok-buffers.ensures in
    room_less 1 (sizes b) (column_most t c.args.member.now.column) c.args.batch.now
    (column_short c.form_of-form.result c.seen_at-seen.result.now.ladder.values t c.args.member.now.column c.requires.can.table b
    c.in_ok-built.built c.in_ok-built.ensures e.rows e.validity_len e.offsets_len e.values_len)
    c.requires.room

pub returns-clause-grows : goal.returns-clause-grows
returns-clause-grows c =
    let t = c.args.table.now in
    let b = c.in_ok-buffers.buffers in
    let e = c.in_ok-buffers.ensures in
    member_grows (column_most t c.args.member.now.column) b c.args.batch.now c.add_column.new.batch c.width_for-width.result c.add_column.result
    (column_short c.form_of-form.result c.seen_at-seen.result.now.ladder.values t c.args.member.now.column c.requires.can.table b
    c.in_ok-built.built c.in_ok-built.ensures e.rows e.validity_len e.offsets_len e.values_len)
    c.add_column.ensures
