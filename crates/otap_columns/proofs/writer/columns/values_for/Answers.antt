use Rattle.std.proofs.Common.{◌≡◌, ◌*◌, [], ℕ, length, sym, ap, subst, ◌∙◌}
use Rattle.std.specs.Prelude.{IfSome}
use Rattle.arrow_buffers.specs.Columns.{HoldsParts}
use Rattle.arrow_buffers.specs.declared.width.Width.TheVariants.{Fixed}
use Rattle.otap_cells.specs.Columns.{base_at}
use Rattle.otap_columns.specs.WrittenCells.{stored_column}
use Rattle.otap_columns.specs.BuiltCells.{AreParts, width_for}
use Rattle.otap_columns.proofs.ColumnsBuilt.{stored_len}
use Rattle.otap_columns.proofs.Whole.{ok_weaker, parts_column, values_length}
use Rattle.otap_columns.proofs.writer.columns.values_for.Goals as goal

pub full-requires : goal.full-requires
full-requires c =
    let cells = stored_column c.args.form [] c.args.table.now c.args.column in
    let are : AreParts c.in-Fixed.width cells c.in-Some.values.items = subst (λ o. IfSome o (λ v. AreParts c.in-Fixed.width cells v.items)) c.in-Some.is c.in_ok-values.ensures in
    values_length c.in-Fixed.width cells c.in-Some.values.items are
    ∙ ap (λ (n : ℕ). n * c.in-Fixed.width) (stored_len c.args.form [] c.args.table.now c.args.column ∙ sym c.rows.ensures.count)

pub returns : goal.returns
returns c =
    let cells = stored_column c.args.form [] c.args.table.now c.args.column in
    let are : AreParts c.in-Fixed.width cells c.in-Some.values.items = subst (λ o. IfSome o (λ v. AreParts c.in-Fixed.width cells v.items)) c.in-Some.is c.in_ok-values.ensures in
    let base_is : c.base_of.result ≡ base_at c.args.table.now.kind c.args.column = c.base_of.ensures ∙ ap (λ k. base_at k c.args.column) c.kind.ensures in
    let width_is : Fixed c.in-Fixed.width ≡ width_for (base_at c.args.table.now.kind c.args.column) c.args.form =
    sym c.in-Fixed.is ∙ c.width_for.ensures ∙ ap (λ b. width_for b c.args.form) base_is in
    let count : c.rows.result ≡ length cells = c.rows.ensures.count ∙ sym (stored_len c.args.form [] c.args.table.now c.args.column) in
    ok_weaker c.full.result (HoldsParts c.in-Fixed.width c.rows.result c.in-Some.values.items) _
    (λ built holds. parts_column c.in-Fixed.width c.rows.result cells c.in-Some.values.items built are count holds ∙ (λ i. record { width = width_is i; cells = cells })) c.full.ensures
