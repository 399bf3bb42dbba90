use Rattle.std.proofs.Common.{◌≡◌, ◌<◌, ℕ, true, false, List, Option, length, map, ap, arith, sym, subst, ◌∙◌}
use Rattle.std.specs.Prelude.{IfOk}
use Rattle.arrow_buffers.specs.Columns.{ColumnIn, cells_len}
use Rattle.arrow_buffers.specs.Limits.{max_values}
use Rattle.arrow_buffers.specs.declared.width.Width.TheVariants.{Fixed}
use Rattle.otap_cells.specs.Tables.{column_in}
use Rattle.otap_columns.specs.Seen.{SeenIn}
use Rattle.otap_columns.specs.SeenInside.{filled_up, places_of_cells}
use Rattle.otap_cells.specs.Columns.{base_at}
use Rattle.otap_columns.specs.Schemas.{is_dictionary}
use Rattle.otap_columns.specs.WrittenCells.{stored_column}
use Rattle.otap_columns.specs.BuiltCells.{index_of, index_size, width_for}
use Rattle.otap_columns.proofs.ColumnsBuilt.{plain_column}
use Rattle.otap_columns.proofs.Indexed.{filled_few, filled_reached, index_fixed, indexes_column}
use Rattle.otap_columns.proofs.writer.columns.column_for.Goals as goal

pub values_for-requires-clause-room : goal.values_for-requires-clause-room
values_for-requires-clause-room c =
    let plain : is_dictionary c.args.form ≡ false = sym c.is_dictionary.ensures ∙ c.if-is_dictionary.false in
    subst (λ (cells : List (Option (List ℕ))). cells_len cells < max_values) (sym (plain_column c.args.form c.args.seen.now.ladder.values c.args.table.now c.args.column plain)) c.requires.room

pub returns-else-is_dictionary : goal.returns-else-is_dictionary
returns-else-is_dictionary c =
    let plain : is_dictionary c.args.form ≡ false = sym c.is_dictionary.ensures ∙ c.if-is_dictionary.false in
    subst (λ (cells : List (Option (List ℕ))). IfOk c.values_for.result (λ built. built ≡ record { width = width_for (base_at c.args.table.now.kind c.args.column) c.args.form; cells = cells }))
    (plain_column c.args.form c.args.seen.now.ladder.values c.args.table.now c.args.column plain) c.values_for.ensures

pub indexes_for-requires-clause-reached : goal.indexes_for-requires-clause-reached
indexes_for-requires-clause-reached c =
    let dictionary : is_dictionary c.args.form ≡ true = sym c.is_dictionary.ensures ∙ c.if-is_dictionary.true in
    let is : filled_up (length c.args.table.now.rows) c.deref.result.now
    ≡ places_of_cells (base_at c.args.table.now.kind c.args.column) c.args.form c.args.seen.now.ladder.values (column_in c.args.table.now.rows c.args.column) =
    ap (filled_up (length c.args.table.now.rows)) (c.deref.ensures.value ∙ ap (λ (s : SeenIn). s.places) c.seen.view_is) ∙ c.requires.placed dictionary in
    filled_reached (base_at c.args.table.now.kind c.args.column) c.args.form c.args.seen.now.ladder.values c.args.table.now c.args.column c.deref.result.now is dictionary c.requires.few

pub indexes_for-requires-clause-few : goal.indexes_for-requires-clause-few
indexes_for-requires-clause-few c =
    let dictionary : is_dictionary c.args.form ≡ true = sym c.is_dictionary.ensures ∙ c.if-is_dictionary.true in
    let is : filled_up (length c.args.table.now.rows) c.deref.result.now
    ≡ places_of_cells (base_at c.args.table.now.kind c.args.column) c.args.form c.args.seen.now.ladder.values (column_in c.args.table.now.rows c.args.column) =
    ap (filled_up (length c.args.table.now.rows)) (c.deref.ensures.value ∙ ap (λ (s : SeenIn). s.places) c.seen.view_is) ∙ c.requires.placed dictionary in
    omega (arith, filled_few (base_at c.args.table.now.kind c.args.column) c.args.form c.args.seen.now.ladder.values c.args.table.now c.args.column c.deref.result.now is, c.rows.ensures.count)

pub indexes_for-requires-clause-room : goal.indexes_for-requires-clause-room
indexes_for-requires-clause-room c =
    let dictionary : is_dictionary c.args.form ≡ true = sym c.is_dictionary.ensures ∙ c.if-is_dictionary.true in
    let is : filled_up c.rows.result c.deref.result.now ≡ places_of_cells (base_at c.args.table.now.kind c.args.column) c.args.form c.args.seen.now.ladder.values (column_in c.args.table.now.rows c.args.column) =
    (λ i. filled_up (c.rows.ensures.count i) ((c.deref.ensures.value ∙ ap (λ (s : SeenIn). s.places) c.seen.view_is) i)) ∙ c.requires.placed dictionary in
    subst (λ (cells : List (Option (List ℕ))). cells_len cells < max_values)
    (sym (ap (map (index_of c.args.form)) is ∙ indexes_column c.args.form c.args.seen.now.ladder.values c.args.table.now c.args.column dictionary)) c.requires.room

pub returns-then-is_dictionary : goal.returns-then-is_dictionary
returns-then-is_dictionary c =
    let dictionary : is_dictionary c.args.form ≡ true = sym c.is_dictionary.ensures ∙ c.if-is_dictionary.true in
    let is : filled_up c.rows.result c.deref.result.now ≡ places_of_cells (base_at c.args.table.now.kind c.args.column) c.args.form c.args.seen.now.ladder.values (column_in c.args.table.now.rows c.args.column) =
    (λ i. filled_up (c.rows.ensures.count i) ((c.deref.ensures.value ∙ ap (λ (s : SeenIn). s.places) c.seen.view_is) i)) ∙ c.requires.placed dictionary in
    let cells : map (index_of c.args.form) (filled_up c.rows.result c.deref.result.now) ≡ stored_column c.args.form c.args.seen.now.ladder.values c.args.table.now c.args.column =
    ap (map (index_of c.args.form)) is ∙ indexes_column c.args.form c.args.seen.now.ladder.values c.args.table.now c.args.column dictionary in
    let built : record { width = Fixed (index_size c.args.form); cells = map (index_of c.args.form) (filled_up c.rows.result c.deref.result.now) }
    ≡ record { width = width_for (base_at c.args.table.now.kind c.args.column) c.args.form; cells = stored_column c.args.form c.args.seen.now.ladder.values c.args.table.now c.args.column } =
    λ i. record { width = index_fixed (base_at c.args.table.now.kind c.args.column) c.args.form dictionary i; cells = cells i } in
    subst (λ (k : ColumnIn). IfOk c.indexes_for.result (λ built. built ≡ k)) built c.indexes_for.ensures
